-- The place numbers of an effect are in range.
use Rattle.std.proofs.Common.{◌≡◌, ℕ, ◌+◌, ◌%◌, Bool, true, false, cond, ◌||◌, refl}
use Rattle.std.specs.Prelude.{◌&&◌, IsTrue, nat_eq, nat_lt}
use Rattle.std.proofs.lemmas.Bool.{and_parts}
use Rattle.operation.specs.declared.Op.{Op}
use Rattle.operation.specs.declared.Op.TheVariants as op
use Rattle.operation.specs.declared.Guarded.{Guarded}
use Rattle.operation.specs.declared.Operands.{Operands}
use Rattle.operation.specs.declared.Size.{Size}
use Rattle.operation.specs.declared.Effect.{Effect}
use Rattle.operation.specs.declared.Effect.TheVariants as effects
use Rattle.operation.specs.declared.TrapKind.TheVariants.{OutOfRange, Misaligned, DivideByZero, OutputFull}
use Rattle.operation.specs.Ranges.{is_register, is_target, is_op_in_range}
use Rattle.operation.specs.Arithmetic.{bytes_of, wrap, quotient, remainder}
use Rattle.operation.specs.Effects.{does, effect, access, trap, is_compare}
use Rattle.operation.specs.Laws.{is_effect_in_range}

left : (x y : Bool) → (x && y) ≡ true → x ≡ true
left x y h = (and_parts x y h).0

left_of_three : (x y z : Bool) → (x && y && z) ≡ true → x ≡ true
left_of_three x y z h = left x y (left (x && y) z h)

either :
    (b : Bool) (e f : Effect) → IsTrue (is_effect_in_range e) → IsTrue (is_effect_in_range f) →
    IsTrue (is_effect_in_range (cond b e f))
either true e f h k = h
either false e f h k = k

accessed :
    (size : Size) (address memory : ℕ) (e : Effect) → IsTrue (is_effect_in_range e) →
    IsTrue (is_effect_in_range (access size address memory e))
accessed size address memory e h =
    either
    (nat_eq (address % bytes_of size) 0)
    (cond (nat_lt memory (address + bytes_of size)) (trap OutOfRange address) e)
    (trap Misaligned address)
    (either (nat_lt memory (address + bytes_of size)) (trap OutOfRange address) e refl h)
    refl

does_in_range : (o : Op) (v : Operands) → IsTrue (is_op_in_range o) → IsTrue (is_effect_in_range (does o v))
does_in_range (op.Alu k d s t) v h = left_of_three (is_register d) (is_register s) (is_register t) h
does_in_range (op.AluImm k d s imm) v h = left (is_register d) (is_register s) h
does_in_range (op.Pbr d imm) v h = h
does_in_range (op.Mvb d s) v h = left (is_target d) (is_register s) h
does_in_range (op.Mvr d s) v h = left (is_register d) (is_target s) h
does_in_range (op.Mul d s t) v h = left_of_three (is_register d) (is_register s) (is_register t) h
does_in_range (op.Div d s t) v h =
    either
    (nat_eq v.second 0)
    (trap DivideByZero v.first)
    (effects.General d (quotient v.first v.second))
    refl
    (left_of_three (is_register d) (is_register s) (is_register t) h)
does_in_range (op.Rem d s t) v h =
    either
    (nat_eq v.second 0)
    (trap DivideByZero v.first)
    (effects.General d (remainder v.first v.second))
    refl
    (left_of_three (is_register d) (is_register s) (is_register t) h)
does_in_range (op.Load size d s imm) v h =
    let address : ℕ = wrap (v.first + imm) in
    accessed size address v.memory (effects.Load d address size) (left (is_register d) (is_register s) h)
does_in_range (op.Store size d s imm) v h =
    let address : ℕ = wrap (v.first + imm) in accessed size address v.memory (effects.Store address size v.second) refl
does_in_range (op.Inb d) v h = h
does_in_range (op.Outb s) v h =
    either v.full (trap OutputFull (v.first % 256)) (effects.Put (v.first % 256)) refl refl
does_in_range (op.Cmp test a b s t) v h = refl
does_in_range (op.CmpImm test a b s imm) v h = refl
does_in_range (op.Bru s) v h = refl
does_in_range (op.Brct s d) v h = either v.test (effects.Jump v.target) effects.Nothing refl refl
does_in_range (op.Brcf s d) v h = either v.test effects.Nothing (effects.Jump v.target) refl refl
does_in_range (op.Brl d s) v h = left (is_target d) (is_target s) h
does_in_range (op.Halt s) v h = refl

pub effect_in_range : (g : Guarded) (v : Operands) → IsTrue (is_effect_in_range (effect g v))
effect_in_range g v =
    either
    (v.guard || is_compare g.op)
    (does g.op v)
    effects.Nothing
    (does_in_range g.op v ((and_parts (is_register g.guard) (is_op_in_range g.op) g.in_range).1))
    refl
