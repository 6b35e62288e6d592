-- The first context whose generation lacks a unit kind of its image.
use Rattle.std.proofs.Common.{◌≡◌, ◌≤◌, ℕ, zero, suc, ◌+◌, List, [], ◌∷◌, length, map, drop, Option, Some, None, refl, ap, ◌∙◌, arith}
use Rattle.std.specs.Prelude.{slice_get}
use Rattle.operation.specs.declared.UnitKind.{UnitKind}
use Rattle.machine_desc.specs.Value.{description_of}
use Rattle.image_check.specs.Units.{first_lacking}
use Rattle.context_system.specs.Needs.{first_without}
use Rattle.contexts.specs.declared.Setup.{Setup}
use Rattle.contexts.specs.Core.{run_of}

rest_at : (setups : List Setup) (c : ℕ) (s : Setup) → slice_get setups c ≡ Some s → drop c setups ≡ s ∷ drop (suc c) setups
rest_at [] c s at = absurd (let no : ⊥ = cc in no)
rest_at (x ∷ xs) zero s at = let same : x ≡ s = cc in ap (λ y. y ∷ xs) same
rest_at (x ∷ xs) (suc c) s at = rest_at xs c s at

-- the contexts from the number c on, by what the generation of that one lacks
at_number : (setups : List Setup) (c : ℕ) (s : Setup) → slice_get setups c ≡ Some s → (lack : Option UnitKind) → first_lacking s.image (description_of s.chosen) ≡ lack →
    first_without c (map run_of (drop c setups)) ≡ (elim lack [ Some kind ↦ Some (c, kind) | None ↦ first_without (suc c) (map run_of (drop (suc c) setups)) ])
at_number setups c s at lack is =
    ap (λ (l : List Setup). first_without c (map run_of l)) (rest_at setups c s at)
    ∙ ap (λ (o : Option UnitKind). let r : Option (ℕ × UnitKind) = elim o [ Some kind ↦ Some (c, kind) | None ↦ first_without (suc c) (map run_of (drop (suc c) setups)) ] in r) is

pub found : (setups : List Setup) (c : ℕ) (s : Setup) (kind : UnitKind) → slice_get setups c ≡ Some s → first_lacking s.image (description_of s.chosen) ≡ Some kind →
    first_without c (map run_of (drop c setups)) ≡ Some (c, kind)
found setups c s kind at is = at_number setups c s at (Some kind) is

pub passed : (setups : List Setup) (c : ℕ) (s : Setup) → slice_get setups c ≡ Some s → first_lacking s.image (description_of s.chosen) ≡ None →
    first_without c (map run_of (drop c setups)) ≡ first_without (c + 1) (map run_of (drop (c + 1) setups))
passed setups c s at is =
    let next : suc c ≡ c + 1 = omega arith in
    at_number setups c s at None is ∙ ap (λ n. first_without n (map run_of (drop n setups))) next

pub none_left : (setups : List Setup) (c : ℕ) → length setups ≤ c → first_without c (map run_of (drop c setups)) ≡ None
none_left [] zero h = refl
none_left [] (suc c) h = refl
none_left (x ∷ xs) zero h = absurd (omega arith)
none_left (x ∷ xs) (suc c) h = nothing (drop c xs) (gone xs c (omega arith))
  where
    gone : (ys : List Setup) (n : ℕ) → length ys ≤ n → drop n ys ≡ []
    gone [] zero h = refl
    gone [] (suc n) h = refl
    gone (y ∷ ys) zero h = absurd (omega arith)
    gone (y ∷ ys) (suc n) h = gone ys n (omega arith)

    nothing : (l : List Setup) → l ≡ [] → first_without (suc c) (map run_of l) ≡ None
    nothing l e = ap (λ l. first_without (suc c) (map run_of l)) e
