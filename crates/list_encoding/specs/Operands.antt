-- The table of fields read the other way: what the fields of each operation may hold, and which operation they hold.
use Rattle.std.specs.Prelude.{ℕ, zero, suc, Bool, true, ◌&&◌, nat_eq, nat_lt, Option, Some, None, if◌then◌else◌}
use Rattle.std.specs.Int.{cast_signed, w16}
use Rattle.operation.specs.declared.Action.{Action}
use Rattle.operation.specs.declared.Action.TheVariants.{Un, Uc, On, Oc, An, Ac}
use Rattle.operation.specs.declared.Dest.{Dest}
use Rattle.operation.specs.declared.Op.{Op}
use Rattle.operation.specs.declared.Op.TheVariants as op
use Rattle.operation.specs.Ranges.{is_register, is_target}
use Rattle.list_encoding.specs.Bits.{bits}
use Rattle.list_encoding.specs.declared.opcodes.Mnemonic.{Mnemonic}
use Rattle.list_encoding.specs.declared.opcodes.Mnemonic.TheVariants as mnemonic
use Rattle.list_encoding.specs.declared.fields.Fields.{Fields}

-- the action of a number below 6
abbrev pub action_at : ℕ → Action
action_at zero = Un
action_at (suc zero) = Uc
action_at (suc (suc zero)) = On
action_at (suc (suc (suc zero))) = Oc
action_at (suc (suc (suc (suc zero)))) = An
action_at _ = Ac

-- an unused field is 0
abbrev pub is_unused : ℕ → Bool
is_unused n = nat_eq n 0

-- the parts of a compare's tail
abbrev pub second_operand : ℕ → ℕ
second_operand tail = bits 16 16 tail

abbrev pub first_action : ℕ → ℕ
first_action tail = bits 8 3 tail

abbrev pub second_action : ℕ → ℕ
second_action tail = bits 5 3 tail

-- both actions are there, and the lowest bits are unused
abbrev pub is_compare_tail : ℕ → Bool
is_compare_tail tail = nat_lt (first_action tail) 6 && (nat_lt (second_action tail) 6 && is_unused (bits 0 5 tail))

-- the destinations of a compare
abbrev pub first_of : (d tail : ℕ) → Dest
first_of d tail = record { p = d; action = action_at (first_action tail) }

abbrev pub second_of : ℕ → Dest
second_of tail = record { p = bits 11 5 tail; action = action_at (second_action tail) }

-- whether the fields d and s of five bits and the tail are an operation's
abbrev pub fit_with : Mnemonic → (d s tail : ℕ) → Bool
fit_with (mnemonic.Alu kind) d s tail = is_register tail
fit_with (mnemonic.AluImm kind) d s tail = true
fit_with mnemonic.Pbr d s tail = is_target d && is_unused s
fit_with mnemonic.Mvb d s tail = is_target d && is_unused tail
fit_with mnemonic.Mvr d s tail = is_target s && is_unused tail
fit_with mnemonic.Mul d s tail = is_register tail
fit_with mnemonic.Div d s tail = is_register tail
fit_with mnemonic.Rem d s tail = is_register tail
fit_with (mnemonic.Load size) d s tail = true
fit_with (mnemonic.Store size) d s tail = true
fit_with mnemonic.Inb d s tail = is_unused s && is_unused tail
fit_with mnemonic.Outb d s tail = is_unused d && is_unused tail
fit_with (mnemonic.Cmp test) d s tail = is_compare_tail tail && is_register (second_operand tail)
fit_with (mnemonic.CmpImm test) d s tail = is_compare_tail tail
fit_with mnemonic.Bru d s tail = is_unused d && (is_target s && is_unused tail)
fit_with mnemonic.Brct d s tail = is_target s && is_unused tail
fit_with mnemonic.Brcf d s tail = is_target s && is_unused tail
fit_with mnemonic.Brl d s tail = is_target d && (is_target s && is_unused tail)
fit_with mnemonic.Halt d s tail = is_unused d && is_unused tail

-- the operation whose fields these are, where they fit
abbrev pub made_with : Mnemonic → (d s tail : ℕ) → Op
made_with (mnemonic.Alu kind) d s tail = op.Alu kind d s tail
made_with (mnemonic.AluImm kind) d s tail = op.AluImm kind d s tail
made_with mnemonic.Pbr d s tail = op.Pbr d tail
made_with mnemonic.Mvb d s tail = op.Mvb d s
made_with mnemonic.Mvr d s tail = op.Mvr d s
made_with mnemonic.Mul d s tail = op.Mul d s tail
made_with mnemonic.Div d s tail = op.Div d s tail
made_with mnemonic.Rem d s tail = op.Rem d s tail
made_with (mnemonic.Load size) d s tail = op.Load size d s tail
made_with (mnemonic.Store size) d s tail = op.Store size d s tail
made_with mnemonic.Inb d s tail = op.Inb d
made_with mnemonic.Outb d s tail = op.Outb s
made_with (mnemonic.Cmp test) d s tail = op.Cmp test (first_of d tail) (second_of tail) s (second_operand tail)
made_with (mnemonic.CmpImm test) d s tail =
    op.CmpImm test (first_of d tail) (second_of tail) s (cast_signed w16 (second_operand tail))
made_with mnemonic.Bru d s tail = op.Bru s
made_with mnemonic.Brct d s tail = op.Brct s d
made_with mnemonic.Brcf d s tail = op.Brcf s d
made_with mnemonic.Brl d s tail = op.Brl d s
made_with mnemonic.Halt d s tail = op.Halt s

-- the operation whose fields these are, if they are one's
abbrev pub operation_in : Fields → Option Op
operation_in f = if fit_with f.mnemonic f.d f.s f.tail then Some (made_with f.mnemonic f.d f.s f.tail) else None
