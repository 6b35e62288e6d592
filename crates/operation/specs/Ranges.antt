-- Which numbers the fields of an operation may have.
use Rattle.std.specs.Prelude.{ℕ, Bool, true, false, ◌&&◌, nat_le}
use Rattle.operation.specs.declared.Size.{Size}
use Rattle.operation.specs.declared.Size.TheVariants.{Word, Half, Byte, HalfU, ByteU}
use Rattle.operation.specs.declared.Op.{Op}
use Rattle.operation.specs.declared.Op.TheVariants as op

-- the number of a general register or a predicate
abbrev pub is_register : ℕ → Bool
is_register n = nat_le n 31

-- the number of a branch target
abbrev pub is_target : ℕ → Bool
is_target n = nat_le n 7

-- a size that a store may have
abbrev pub is_stored : Size → Bool
is_stored Word = true
is_stored Half = true
is_stored Byte = true
is_stored HalfU = false
is_stored ByteU = false

-- all numbers of an operation are those of registers, predicates and targets
abbrev pub is_op_in_range : Op → Bool
is_op_in_range (op.Alu k d s t) = is_register d && is_register s && is_register t
is_op_in_range (op.AluImm k d s imm) = is_register d && is_register s
is_op_in_range (op.Pbr d imm) = is_target d
is_op_in_range (op.Mvb d s) = is_target d && is_register s
is_op_in_range (op.Mvr d s) = is_register d && is_target s
is_op_in_range (op.Mul d s t) = is_register d && is_register s && is_register t
is_op_in_range (op.Div d s t) = is_register d && is_register s && is_register t
is_op_in_range (op.Rem d s t) = is_register d && is_register s && is_register t
is_op_in_range (op.Load size d s imm) = is_register d && is_register s
is_op_in_range (op.Store size d s imm) = is_stored size && is_register d && is_register s
is_op_in_range (op.Inb d) = is_register d
is_op_in_range (op.Outb s) = is_register s
is_op_in_range (op.Cmp test a b s t) = is_register a.p && is_register b.p && is_register s && is_register t
is_op_in_range (op.CmpImm test a b s imm) = is_register a.p && is_register b.p && is_register s
is_op_in_range (op.Bru s) = is_target s
is_op_in_range (op.Brct s d) = is_target s && is_register d
is_op_in_range (op.Brcf s d) = is_target s && is_register d
is_op_in_range (op.Brl d s) = is_target d && is_target s
is_op_in_range (op.Halt s) = is_register s

-- the guard's number too
abbrev pub is_in_range : ℕ → Op → Bool
is_in_range guard o = is_register guard && is_op_in_range o
