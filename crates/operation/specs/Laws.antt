-- What holds of the operations and of their tables.
use Rattle.std.specs.Prelude.{◌≡◌, ◌↔◌, ℕ, Bool, true, IsTrue, Some, List, [], ◌∷◌, ⊤}
use Rattle.operation.specs.declared.Op.{Op}
use Rattle.operation.specs.declared.Op.TheVariants as op
use Rattle.operation.specs.declared.Dest.{Dest}
use Rattle.operation.specs.declared.Family.{Family}
use Rattle.operation.specs.declared.Place.TheVariants.{Predicate}
use Rattle.operation.specs.declared.Guarded.{Guarded}
use Rattle.operation.specs.declared.Operands.{Operands}
use Rattle.operation.specs.declared.Effect.{Effect}
use Rattle.operation.specs.declared.Effect.TheVariants as effects
use Rattle.operation.specs.Ranges.{is_register, is_target}
use Rattle.operation.specs.Effects.{effect}
use Rattle.operation.specs.Places.{writes, wired, family}

-- a guarded operation is its guard and its operation: the fact that it keeps adds nothing
abbrev pub EqualByParts : Type 0
EqualByParts = (a b : Guarded) → a.guard ≡ b.guard → a.op ≡ b.op → a ≡ b

-- the place numbers of an effect are those of registers and branch targets
abbrev pub is_effect_in_range : Effect → Bool
is_effect_in_range (effects.General d value) = is_register d
is_effect_in_range (effects.Target d value) = is_target d
is_effect_in_range (effects.Load d address size) = is_register d
is_effect_in_range (effects.Take d) = is_register d
is_effect_in_range (effects.Link d target) = is_target d
is_effect_in_range _ = true

-- so are those of what any guarded operation does, whatever its operands
abbrev pub EffectsInRange : Type 0
EffectsInRange = (g : Guarded) (v : Operands) → IsTrue (is_effect_in_range (effect g v))

-- the destinations of a compare; no other operation has any
abbrev pub compare_destinations : Op → List Dest
compare_destinations (op.Cmp test a b s t) = a ∷ (b ∷ [])
compare_destinations (op.CmpImm test a b s imm) = a ∷ (b ∷ [])
compare_destinations _ = []

-- the destinations at a predicate act in the family
abbrev pub ActIn : Family → ℕ → List Dest → Type 0
ActIn f p [] = ⊤
ActIn f p (d ∷ ds) = (d.p ≡ p → family d.action ≡ Some f) × ActIn f p ds

-- an operation is wired on a predicate where it writes it, and all its destinations there are of one family
abbrev pub WiredByAllDestinations : Type 0
WiredByAllDestinations =
    (o : Op) (p : ℕ) (f : Family) →
    (wired o p ≡ Some f) ↔ (IsTrue (writes o (Predicate p)) × ActIn f p (compare_destinations o))
