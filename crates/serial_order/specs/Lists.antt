-- Lists of numbers of operations.
use Rattle.std.specs.Prelude.{ℕ, ◌≡◌, ◌⊎◌, ◌++◌, Bool, List, [], ◌∷◌, map, nat_eq}
use Rattle.std.specs.List.{list_any}

-- the list has the number
abbrev pub Among : ℕ → List ℕ → Type 0
Among i [] = ⊥
Among i (k ∷ ks) = (k ≡ i) ⊎ Among i ks

-- the same as a test
abbrev pub has : ℕ → List ℕ → Bool
has i list = list_any (nat_eq i) list

-- i stands earlier in the list than j
abbrev pub Earlier : List ℕ → ℕ → ℕ → Type 0
Earlier [] i j = ⊥
Earlier (k ∷ ks) i j = ((k ≡ i) × Among j ks) ⊎ Earlier ks i j

-- no number stands in the list twice
abbrev pub EachOnce : List ℕ → Type 0
EachOnce [] = Unit {0}
EachOnce (k ∷ ks) = ¬ (Among k ks) × EachOnce ks

-- what is left of a list where any of its numbers are taken out, for each choice of these
unfoldable pub sublists : List ℕ → List (List ℕ)
sublists [] = [] ∷ []
sublists (x ∷ xs) = map (λ (list : List ℕ). x ∷ list) (sublists xs) ++ sublists xs
