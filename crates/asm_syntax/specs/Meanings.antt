-- The operation that a mnemonic and its operands are, and the operands that an operation is written with.
use Rattle.std.specs.Prelude.{ℕ, zero, suc, ℤ, pos, List, [], ◌∷◌, Option, Some, None, if◌then◌else◌}
use Rattle.std.specs.Int.{cast_unsigned, w8, w32}
use Rattle.operation.specs.declared.Action.TheVariants.{Un}
use Rattle.operation.specs.declared.Dest.{Dest}
use Rattle.operation.specs.declared.Op.{Op}
use Rattle.operation.specs.declared.Op.TheVariants as op
use Rattle.list_encoding.specs.declared.opcodes.Mnemonic.{Mnemonic}
use Rattle.list_encoding.specs.declared.opcodes.Mnemonic.TheVariants as mnemonic
use Rattle.asm_syntax.specs.Numbers.{is_byte, is_word, is_half}
use Rattle.asm_syntax.specs.Operands.{Operand, General, Predicate, Target, Destination, Immediate, Named}

-- the operand at a place, from 0; a name of no bytes where there is none
abbrev pub at : ℕ → List Operand → Operand
at k [] = Named []
at zero (x ∷ xs) = x
at (suc k) (x ∷ xs) = at k xs

-- the number of a register
abbrev pub number : Operand → ℕ
number (General n) = n
number (Predicate n) = n
number (Target n) = n
number _ = 0

-- the 32 bits of a number, and its 8; 0 for one that is out of range
abbrev pub bits : ℤ → ℕ
bits z = if is_word z then cast_unsigned w32 z else 0

abbrev pub byte : ℤ → ℕ
byte z = if is_byte z then cast_unsigned w8 z else 0

-- an immediate of 32 bits; 0 for a name, which the linker gives a value
abbrev pub value : Operand → ℕ
value (Immediate z) = bits z
value _ = 0

-- an immediate of 16 bits; 0 for a number that is out of range
abbrev pub short : Operand → ℤ
short (Immediate z) = if is_half z then z else pos 0
short _ = pos 0

-- a destination of a compare
abbrev pub destination : Operand → Dest
destination (Destination d) = d
destination _ = record { p = 0; action = Un }

-- the operation of a mnemonic with operands in its slots
abbrev pub operation_with : Mnemonic → List Operand → Op
operation_with (mnemonic.Alu kind) xs = op.Alu kind (number (at 0 xs)) (number (at 1 xs)) (number (at 2 xs))
operation_with (mnemonic.AluImm kind) xs = op.AluImm kind (number (at 0 xs)) (number (at 1 xs)) (value (at 2 xs))
operation_with mnemonic.Pbr xs = op.Pbr (number (at 0 xs)) (value (at 1 xs))
operation_with mnemonic.Mvb xs = op.Mvb (number (at 0 xs)) (number (at 1 xs))
operation_with mnemonic.Mvr xs = op.Mvr (number (at 0 xs)) (number (at 1 xs))
operation_with mnemonic.Mul xs = op.Mul (number (at 0 xs)) (number (at 1 xs)) (number (at 2 xs))
operation_with mnemonic.Div xs = op.Div (number (at 0 xs)) (number (at 1 xs)) (number (at 2 xs))
operation_with mnemonic.Rem xs = op.Rem (number (at 0 xs)) (number (at 1 xs)) (number (at 2 xs))
operation_with (mnemonic.Load size) xs = op.Load size (number (at 0 xs)) (number (at 1 xs)) (value (at 2 xs))
operation_with (mnemonic.Store size) xs = op.Store size (number (at 0 xs)) (number (at 1 xs)) (value (at 2 xs))
operation_with mnemonic.Inb xs = op.Inb (number (at 0 xs))
operation_with mnemonic.Outb xs = op.Outb (number (at 0 xs))
operation_with (mnemonic.Cmp test) xs = op.Cmp test (destination (at 0 xs)) (destination (at 1 xs)) (number (at 2 xs)) (number (at 3 xs))
operation_with (mnemonic.CmpImm test) xs = op.CmpImm test (destination (at 0 xs)) (destination (at 1 xs)) (number (at 2 xs)) (short (at 3 xs))
operation_with mnemonic.Bru xs = op.Bru (number (at 0 xs))
operation_with mnemonic.Brct xs = op.Brct (number (at 0 xs)) (number (at 1 xs))
operation_with mnemonic.Brcf xs = op.Brcf (number (at 0 xs)) (number (at 1 xs))
operation_with mnemonic.Brl xs = op.Brl (number (at 0 xs)) (number (at 1 xs))
operation_with mnemonic.Halt xs = op.Halt (number (at 0 xs))

-- the name that an operand is, and else a later one
abbrev pub reference_or : Operand → Option (List ℕ) → Option (List ℕ)
reference_or (Named name) later = Some name
reference_or _ later = later

-- the first name among the operands, if there is one
abbrev pub reference : List Operand → Option (List ℕ)
reference [] = None
reference (x ∷ xs) = reference_or x (reference xs)
