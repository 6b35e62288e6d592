-- The longest of some busy times is that of a kind, and bounds them all.
use Rattle.std.proofs.Common.{◌≡◌, ℕ, ◌≤◌, ◌<◌, max, List, [], ◌∷◌, ◌⊎◌, inl, inr, refl, sym, ◌∙◌, fold, arith}
use Rattle.std.proofs.lemmas.Bool.{cases_lt}
use Rattle.std.proofs.Math.Nat.{le-max_left, le-max_right, max-eq_left, max-eq_right}
use Rattle.operation.specs.declared.LatKind.{LatKind}
use Rattle.operation.specs.declared.LatKind.TheVariants as lat
use Rattle.machine_desc.specs.Description.{Description, busy_of}
use Rattle.machine_desc.specs.Busiest.{IsLongestBusy, longest_among}
use Rattle.machine_desc.specs.Same.{latency_kinds}

-- the longest time among some kinds and a number
abbrev longest_from : Description → ℕ → List LatKind → ℕ
longest_from g n kinds = fold (λ most k. max most (busy_of g k)) n kinds

no_less : (g : Description) (n : ℕ) (kinds : List LatKind) → n ≤ longest_from g n kinds
no_less g n [] = omega arith
no_less g n (k ∷ kinds) =
    let one = le-max_left n (busy_of g k) in
    let all = no_less g (max n (busy_of g k)) kinds in
    omega arith

-- no time of the kinds is longer than the number
abbrev AreBounded : Description → ℕ → List LatKind → Type 0
AreBounded g n [] = Unit {0}
AreBounded g n (k ∷ kinds) = (busy_of g k ≤ n) × AreBounded g n kinds

bounds : (g : Description) (n : ℕ) (kinds : List LatKind) → AreBounded g (longest_from g n kinds) kinds
bounds g n [] = tt
bounds g n (k ∷ kinds) =
    let one = le-max_right n (busy_of g k) in
    let all = no_less g (max n (busy_of g k)) kinds in
    (omega arith, bounds g (max n (busy_of g k)) kinds)

-- it is the number to begin with, or a kind has it
one_of : (g : Description) (n : ℕ) (kinds : List LatKind) →
    (longest_from g n kinds ≡ n) ⊎ ((k : LatKind) × (busy_of g k ≡ longest_from g n kinds))
one_of g n [] = inl refl
one_of g n (k ∷ kinds) = go (one_of g (max n (busy_of g k)) kinds) (cases_lt n (busy_of g k))
  where
    go : (longest_from g (max n (busy_of g k)) kinds ≡ max n (busy_of g k)) ⊎ ((j : LatKind) × (busy_of g j ≡ longest_from g n (k ∷ kinds))) →
        (n < busy_of g k) ⊎ (busy_of g k ≤ n) →
        (longest_from g n (k ∷ kinds) ≡ n) ⊎ ((j : LatKind) × (busy_of g j ≡ longest_from g n (k ∷ kinds)))
    go (inr found) side = inr found
    go (inl e) (inl less) = let below : n ≤ busy_of g k = omega arith in inr (k, sym (e ∙ max-eq_right below))
    go (inl e) (inr no_less) = inl (e ∙ max-eq_left no_less)

bound_of : (g : Description) (n : ℕ) → AreBounded g n latency_kinds → (k : LatKind) → busy_of g k ≤ n
bound_of g n h lat.Alu = h.0
bound_of g n h lat.Mul = h.1.0
bound_of g n h lat.Div = h.1.1.0
bound_of g n h lat.Load = h.1.1.1.0
bound_of g n h lat.Store = h.1.1.1.1.0
bound_of g n h lat.Io = h.1.1.1.1.1.0
bound_of g n h lat.Cmp = h.1.1.1.1.1.1.0
bound_of g n h lat.Pbr = h.1.1.1.1.1.1.1.0
bound_of g n h lat.Branch = h.1.1.1.1.1.1.1.1.0

-- the longest among all kinds is the longest busy time
pub is_longest : (g : Description) (n : ℕ) → n ≡ longest_among g latency_kinds → IsLongestBusy g n
is_longest g n e = record {
  bound = bound;
  reached = reached (one_of g 0 latency_kinds);
}
  where
    bound : (k : LatKind) → busy_of g k ≤ n
    bound k =
        let below = bound_of g (longest_among g latency_kinds) (bounds g 0 latency_kinds) k in
        omega arith

    reached : (longest_among g latency_kinds ≡ 0) ⊎ ((k : LatKind) × (busy_of g k ≡ longest_among g latency_kinds)) →
        (k : LatKind) × (busy_of g k ≡ n)
    reached (inl none) = let below = bound lat.Alu in (lat.Alu, omega arith)
    reached (inr found) = (found.0, found.1 ∙ sym e)
