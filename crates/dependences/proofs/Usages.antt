-- Usages that are alike, and those that are stores.
use Rattle.std.proofs.Common.{◌≡◌, true, false, not, ◌⊎◌, inl, inr, refl, sym, ap, ◌∙◌, Option, Some, None}
use Rattle.std.proofs.lemmas.Bool.{and_parts, and_cases, not-true, not-false, false_from_ne_true, both_ways}
use Rattle.operation.specs.declared.Op.{Op}
use Rattle.operation.specs.declared.Place.{Place}
use Rattle.operation.specs.declared.Place.TheVariants.{General, Predicate, Target, Memory}
use Rattle.operation.specs.declared.Family.{Family}
use Rattle.operation.specs.declared.Family.TheVariants.{One, Zero}
use Rattle.operation.specs.Places.{wired}
use Rattle.dependences.specs.declared.footprint.Role.{Role}
use Rattle.dependences.specs.declared.footprint.Role.TheVariants as role
use Rattle.dependences.specs.declared.access.Usage.{Usage}
use Rattle.dependences.specs.declared.access.Usage.TheVariants.{Read, Write}
use Rattle.dependences.specs.Footprint.{role_in, role_at}
use Rattle.dependences.specs.Accesses.{write_apart, are_alike, are_stores}

-- ---- alike

-- those that are alike are one
pub alike_same : (u v : Usage) → are_alike u v ≡ true → u ≡ v
alike_same Read Read h = refl
alike_same (Write role.One) (Write role.One) h = refl
alike_same (Write role.Zero) (Write role.Zero) h = refl
alike_same u v h = absurd (let k : ⊥ = cc in k)

-- two that are alike with a third are alike
pub alike_both : (u v w : Usage) → are_alike u v ≡ true → are_alike w v ≡ true → are_alike u w ≡ true
alike_both u v w h k = ap (are_alike u) (alike_same w v k) ∙ h

alike_turned : (u v : Usage) → are_alike u v ≡ true → are_alike v u ≡ true
alike_turned u v h = let same = alike_same u v h in ap (λ x. are_alike x u) (sym same) ∙ ap (are_alike u) same ∙ h

pub unlike_turned : (u v : Usage) → are_alike u v ≡ false → are_alike v u ≡ false
unlike_turned u v h = false_from_ne_true (are_alike v u) (λ t. both_ways (are_alike u v) h (alike_turned v u t))

pub write_unlike_read : (r : Role) → are_alike (Write r) Read ≡ false
write_unlike_read role.Plain = refl
write_unlike_read role.One = refl
write_unlike_read role.Zero = refl
write_unlike_read role.Store = refl

-- ---- stores

pub stores_are : (u v : Usage) → are_stores u v ≡ true → (u ≡ Write role.Store) × (v ≡ Write role.Store)
stores_are (Write role.Store) (Write role.Store) h = (refl, refl)
stores_are u v h = absurd (let k : ⊥ = cc in k)

no_store_in : (f : Option Family) → role_in f ≡ role.Store → ⊥
no_store_in None h = cc
no_store_in (Some One) h = cc
no_store_in (Some Zero) h = cc

-- what is written as a store is the memory
pub store_place : (o : Op) (x : Place) → role_at o x ≡ role.Store → x ≡ Memory
store_place o (General n) h = absurd (let k : ⊥ = cc in k)
store_place o (Predicate n) h = absurd (no_store_in (wired o n) h)
store_place o (Target n) h = absurd (let k : ⊥ = cc in k)
store_place o Memory h = refl

-- ---- writes that are apart

pub apart_parts : (u v : Usage) → write_apart u v ≡ true → (are_stores u v ≡ false) × (are_alike u v ≡ false)
apart_parts (Write r) (Write t) h =
    let p = and_parts (not (are_stores (Write r) (Write t))) (not (are_alike (Write r) (Write t))) h in (
      not-true (are_stores (Write r) (Write t)) p.0,
      not-true (are_alike (Write r) (Write t)) p.1,
    )
apart_parts u v h = absurd (let k : ⊥ = cc in k)

pub apart_from : (r t : Role) → are_stores (Write r) (Write t) ≡ false → are_alike (Write r) (Write t) ≡ false → write_apart (Write r) (Write t) ≡ true
apart_from r t s a = rw (s, a) refl

pub not_apart : (r t : Role) → write_apart (Write r) (Write t) ≡ false →
    (are_stores (Write r) (Write t) ≡ true) ⊎ (are_alike (Write r) (Write t) ≡ true)
not_apart r t h = elim (and_cases (not (are_stores (Write r) (Write t))) (not (are_alike (Write r) (Write t))) h) [
  | inl e ↦ inl (not-false (are_stores (Write r) (Write t)) e)
  | inr e ↦ inr (not-false (are_alike (Write r) (Write t)) e)
]
