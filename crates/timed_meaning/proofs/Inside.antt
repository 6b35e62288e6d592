-- An access that doesn't trap lies inside the memory.
use Rattle.std.proofs.Common.{◌≡◌, ℕ, ◌+◌, ◌≤◌, Bool, true, false, cond, refl, ◌||◌}
use Rattle.std.specs.Prelude.{nat_eq, nat_lt, ◌%◌}
use Rattle.std.proofs.lemmas.Bool.{ltb-false}
use Rattle.operation.specs.declared.Op.{Op}
use Rattle.operation.specs.declared.Op.TheVariants as op
use Rattle.operation.specs.declared.Guarded.{Guarded}
use Rattle.operation.specs.declared.Operands.{Operands}
use Rattle.operation.specs.declared.Size.{Size}
use Rattle.operation.specs.declared.Effect.{Effect}
use Rattle.operation.specs.declared.Effect.TheVariants as effects
use Rattle.operation.specs.declared.TrapKind.TheVariants.{OutOfRange, Misaligned, DivideByZero, OutputFull}
use Rattle.operation.specs.Arithmetic.{bytes_of, wrap, quotient, remainder}
use Rattle.operation.specs.Effects.{does, effect, access, is_compare}
use Rattle.timed_meaning.specs.Evaluator.{StaysInside}

inside_if : (memory : ℕ) (b : Bool) (e f : Effect) → StaysInside e memory → StaysInside f memory → StaysInside (cond b e f) memory
inside_if memory true e f h k = h
inside_if memory false e f h k = k

inside_access : (size : Size) (address memory : ℕ) (e : Effect) → (address + bytes_of size ≤ memory → StaysInside e memory) → StaysInside (access size address memory e) memory
inside_access size address memory e h =
    inside_if memory (nat_eq (address % bytes_of size) 0) (cond (nat_lt memory (address + bytes_of size)) outside e) apart (go (nat_lt memory (address + bytes_of size)) refl) tt
  where
    outside : Effect
    outside = effects.Trapped (record { kind = OutOfRange; detail = address })

    apart : Effect
    apart = effects.Trapped (record { kind = Misaligned; detail = address })

    go : (b : Bool) → nat_lt memory (address + bytes_of size) ≡ b → StaysInside (cond b (effects.Trapped (record { kind = OutOfRange; detail = address })) e) memory
    go true g = tt
    go false g = h (ltb-false memory (address + bytes_of size) g)

does_inside : (o : Op) (v : Operands) → StaysInside (does o v) v.memory
does_inside (op.Load size d s imm) v = inside_access size (wrap (v.first + imm)) v.memory (effects.Load d (wrap (v.first + imm)) size) (λ h. h)
does_inside (op.Store size d s imm) v = inside_access size (wrap (v.first + imm)) v.memory (effects.Store (wrap (v.first + imm)) size v.second) (λ h. h)
does_inside (op.Div d s t) v = inside_if v.memory (nat_eq v.second 0) (effects.Trapped (record { kind = DivideByZero; detail = v.first })) (effects.General d (quotient v.first v.second)) tt tt
does_inside (op.Rem d s t) v = inside_if v.memory (nat_eq v.second 0) (effects.Trapped (record { kind = DivideByZero; detail = v.first })) (effects.General d (remainder v.first v.second)) tt tt
does_inside (op.Outb s) v = inside_if v.memory v.full (effects.Trapped (record { kind = OutputFull; detail = v.first % 256 })) (effects.Put (v.first % 256)) tt tt
does_inside (op.Brct d s) v = inside_if v.memory v.test (effects.Jump v.target) effects.Nothing tt tt
does_inside (op.Brcf d s) v = inside_if v.memory v.test effects.Nothing (effects.Jump v.target) tt tt
does_inside o v = tt

pub effect_inside : (g : Guarded) (v : Operands) → StaysInside (effect g v) v.memory
effect_inside g v = inside_if v.memory (v.guard || is_compare g.op) (does g.op v) effects.Nothing (does_inside g.op v) tt
