-- The reading of a word as a function: its guarded operation, where it has one.
use Rattle.std.specs.Prelude.{◌≡◌, ℕ, Bool, true, false, nat_eq, List, [], ◌∷◌, ◌++◌, map, find, refl, Option, Some, None, option_and_then, is_some}
use Rattle.operation.specs.declared.AluKind.{AluKind}
use Rattle.operation.specs.declared.AluKind.TheVariants.{Add, Sub, And, Or, Xor, Shl, Shr, Sar, Min, Max}
use Rattle.operation.specs.declared.Test.{Test}
use Rattle.operation.specs.declared.Test.TheVariants.{Ceq, Cne, Clt, Cle, Cltu, Cleu}
use Rattle.operation.specs.declared.Size.{Size}
use Rattle.operation.specs.declared.Size.TheVariants.{Word, Half, HalfU, Byte, ByteU}
use Rattle.operation.specs.declared.Op.{Op}
use Rattle.operation.specs.declared.Op.TheVariants as op
use Rattle.operation.specs.declared.Guarded.{Guarded}
use Rattle.operation.specs.Ranges.{is_in_range}
use Rattle.list_encoding.specs.declared.opcodes.Mnemonic.{Mnemonic}
use Rattle.list_encoding.specs.declared.opcodes.Mnemonic.TheVariants.{Alu, AluImm, Pbr, Mvb, Mvr, Mul, Div, Rem, Load, Store, Inb, Outb, Cmp, CmpImm, Bru, Brct, Brcf, Brl, Halt}
use Rattle.list_encoding.specs.Bits.{bits}
use Rattle.list_encoding.specs.Opcodes.{opcode_of}
use Rattle.list_encoding.specs.Operands.{operation_in}

-- all arithmetics
abbrev pub alu_kinds : List AluKind
alu_kinds = Add ∷ (Sub ∷ (And ∷ (Or ∷ (Xor ∷ (Shl ∷ (Shr ∷ (Sar ∷ (Min ∷ (Max ∷ [])))))))))

-- all tests
abbrev pub tests : List Test
tests = Ceq ∷ (Cne ∷ (Clt ∷ (Cle ∷ (Cltu ∷ (Cleu ∷ [])))))

-- all sizes
abbrev pub sizes : List Size
sizes = Word ∷ (Half ∷ (HalfU ∷ (Byte ∷ (ByteU ∷ []))))

-- the sizes that a store may have
abbrev pub stored_sizes : List Size
stored_sizes = Word ∷ (Half ∷ (Byte ∷ []))

-- those without a kind, a test or a size
abbrev pub plain : List Mnemonic
plain =
    Pbr ∷ (Mvb ∷ (Mvr ∷ (Mul ∷ (Div ∷ (Rem ∷ (Inb ∷ (Outb ∷ (Bru ∷ (Brct ∷ (Brcf ∷ (Brl ∷ (Halt ∷ []))))))))))))

-- all 53 that have an opcode
abbrev pub mnemonics : List Mnemonic
mnemonics =
    map Alu alu_kinds ++ (map AluImm alu_kinds ++ (map Load sizes ++ (map Store stored_sizes
    ++ (map Cmp tests ++ (map CmpImm tests ++ plain)))))

-- the one whose opcode it is
unfoldable pub mnemonic_at : ℕ → Option Mnemonic
mnemonic_at opcode = find (λ m. nat_eq (opcode_of m) opcode) mnemonics

-- an operation under a guard, by whether the numbers are in range
abbrev pub guarded_by : (guard : ℕ) (o : Op) (b : Bool) → is_in_range guard o ≡ b → Option Guarded
guarded_by guard o true in_range = Some (record { guard = guard; op = o; in_range = in_range })
guarded_by guard o false _ = None

-- an operation under a guard, where the numbers are in range
abbrev pub guarded_as : (guard : ℕ) (o : Op) → Option Guarded
guarded_as guard o = guarded_by guard o (is_in_range guard o) refl

-- the operation in the fields of a word, where its opcode is this one's
abbrev pub operation_as : ℕ → Mnemonic → Option Op
operation_as word m =
    operation_in (record { mnemonic = m; d = bits 37 5 word; s = bits 32 5 word; tail = bits 0 32 word })

-- the guarded operation of a word, where it has a reading
unfoldable pub guarded_in : ℕ → Option Guarded
guarded_in word =
    option_and_then (guarded_as (bits 42 5 word)) (option_and_then (operation_as word) (mnemonic_at (bits 47 7 word)))

-- whether a word has a reading
abbrev pub is_readable : ℕ → Bool
is_readable word = is_some (guarded_in word)

-- `halt r0` under p0
abbrev pub halt : Guarded
halt = record { guard = 0; op = op.Halt 0; in_range = refl }

-- the guarded operation, or `halt r0` where there is none
abbrev pub or_halt : Option Guarded → Guarded
or_halt (Some g) = g
or_halt None = halt

-- The guarded operation of each word. A word without a reading breaks the first rule on blocks, so that what stands
-- here for it decides nothing.
abbrev pub operation_of : ℕ → Guarded
operation_of word = or_halt (guarded_in word)
