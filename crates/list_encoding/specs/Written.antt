-- The operation word, put together from its fields.
use Rattle.std.specs.Prelude.{ℕ, ◌+◌, ◌*◌, ◌^◌, Bool, true, false}
use Rattle.list_encoding.specs.declared.fields.Fields.{Fields}
use Rattle.list_encoding.specs.Opcodes.{opcode_of}

-- a mark as one bit
abbrev pub mark : Bool → ℕ
mark true = 1
mark false = 0

-- the word of a head mark, a unit number, a pause, a guard, and an operation's opcode and fields
abbrev pub word_of : (head : Bool) (unit pause guard : ℕ) → Fields → ℕ
word_of head unit pause guard f =
    mark head * 2 ^ 63 + unit * 2 ^ 59 + pause * 2 ^ 54 + opcode_of f.mnemonic * 2 ^ 47 + guard * 2 ^ 42 + f.d * 2 ^ 37 + f.s * 2 ^ 32 + f.tail
