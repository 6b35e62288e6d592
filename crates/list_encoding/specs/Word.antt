-- Which word stands for which operation, under which guard, with which head mark, unit and pause.
use Rattle.std.specs.Prelude.{◌≡◌, ℕ, Bool, nat_eq, Option, Some, None}
use Rattle.list_encoding.specs.declared.Coded.{Coded}
use Rattle.list_encoding.specs.declared.fields.Fields.{Fields}
use Rattle.list_encoding.specs.Opcodes.{opcode_of}
use Rattle.list_encoding.specs.Fields.{fields_of}
use Rattle.list_encoding.specs.Bits.{bits}

-- whether the word has the head mark
abbrev pub is_head : ℕ → Bool
is_head word = nat_eq (bits 63 1 word) 1

-- the word's unit number
abbrev pub unit_in : ℕ → ℕ
unit_in word = bits 59 4 word

-- the word's pause
abbrev pub pause_in : ℕ → ℕ
pause_in word = bits 54 5 word

-- the word's opcode and fields are these
pub record HasFields (word : ℕ) (f : Fields) : Type 0 where
  pub opcode : bits 47 7 word ≡ opcode_of f.mnemonic
  pub d : bits 37 5 word ≡ f.d
  pub s : bits 32 5 word ≡ f.s
  pub tail : bits 0 32 word ≡ f.tail

-- the word has the reading: this head mark, unit, pause and guard, and the fields of this operation
pub record HasReading (word : ℕ) (c : Coded) : Type 0 where
  pub head : is_head word ≡ c.head
  pub unit : unit_in word ≡ c.unit
  pub pause : pause_in word ≡ c.pause
  pub guard : bits 42 5 word ≡ c.guarded.guard
  pub fields : HasFields word (fields_of c.guarded.op)

-- the word has a reading
abbrev pub IsReadable : ℕ → Type 0
IsReadable word = (c : Coded) × HasReading word c

-- the word's reading, or none where it has none
abbrev pub IsReadingOf : ℕ → Option Coded → Type 0
IsReadingOf word (Some c) = HasReading word c
IsReadingOf word None = (c : Coded) → HasReading word c → ⊥
