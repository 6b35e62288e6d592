-- What the fields of a word hold for each operation. A field that an operation doesn't use is 0.
use Rattle.std.specs.Prelude.{ℕ, ◌+◌, ◌-◌, ◌*◌, ◌^◌, suc, ℤ, pos, negsuc, nat_lt, if◌then◌else◌}
use Rattle.operation.specs.declared.Action.{Action}
use Rattle.operation.specs.declared.Action.TheVariants.{Un, Uc, On, Oc, An, Ac}
use Rattle.operation.specs.declared.Dest.{Dest}
use Rattle.operation.specs.declared.Op.{Op}
use Rattle.operation.specs.declared.Op.TheVariants as op
use Rattle.list_encoding.specs.declared.opcodes.Mnemonic.{Mnemonic}
use Rattle.list_encoding.specs.declared.opcodes.Mnemonic.TheVariants as mnemonic
use Rattle.list_encoding.specs.declared.fields.Fields.{Fields}

-- the number of an action; 6 and 7 are none's
abbrev pub action_number : Action → ℕ
action_number Un = 0
action_number Uc = 1
action_number On = 2
action_number Oc = 3
action_number An = 4
action_number Ac = 5

-- the 16 bits of a signed number, in two's complement; for a number that has none 2 ^ 16, which no 16 bits are
abbrev pub sixteen_bits : ℤ → ℕ
sixteen_bits (pos n) = if nat_lt n (2 ^ 15) then n else 2 ^ 16
sixteen_bits (negsuc n) = if nat_lt n (2 ^ 15) then 2 ^ 16 - suc n else 2 ^ 16

-- the tail of a compare: what is compared with, the second destination, the action at the first and at the second
abbrev pub compare_tail : ℕ → Dest → Dest → ℕ
compare_tail second a b = second * 2 ^ 16 + b.p * 2 ^ 11 + action_number a.action * 2 ^ 8 + action_number b.action * 2 ^ 5

-- one row of the table
abbrev pub row : Mnemonic → (d s tail : ℕ) → Fields
row m d s tail = record { mnemonic = m; d = d; s = s; tail = tail }

-- which operation it is, and its fields d, s and tail
abbrev pub fields_of : Op → Fields
fields_of (op.Alu kind d s t) = row (mnemonic.Alu kind) d s t
fields_of (op.AluImm kind d s imm) = row (mnemonic.AluImm kind) d s imm
fields_of (op.Pbr d imm) = row mnemonic.Pbr d 0 imm
fields_of (op.Mvb d s) = row mnemonic.Mvb d s 0
fields_of (op.Mvr d s) = row mnemonic.Mvr d s 0
fields_of (op.Mul d s t) = row mnemonic.Mul d s t
fields_of (op.Div d s t) = row mnemonic.Div d s t
fields_of (op.Rem d s t) = row mnemonic.Rem d s t
fields_of (op.Load size d s imm) = row (mnemonic.Load size) d s imm
fields_of (op.Store size d s imm) = row (mnemonic.Store size) d s imm
fields_of (op.Inb d) = row mnemonic.Inb d 0 0
fields_of (op.Outb s) = row mnemonic.Outb 0 s 0
fields_of (op.Cmp test a b s t) = row (mnemonic.Cmp test) a.p s (compare_tail t a b)
fields_of (op.CmpImm test a b s imm) = row (mnemonic.CmpImm test) a.p s (compare_tail (sixteen_bits imm) a b)
fields_of (op.Bru s) = row mnemonic.Bru 0 s 0
fields_of (op.Brct s d) = row mnemonic.Brct d s 0
fields_of (op.Brcf s d) = row mnemonic.Brcf d s 0
fields_of (op.Brl d s) = row mnemonic.Brl d s 0
fields_of (op.Halt s) = row mnemonic.Halt 0 s 0
