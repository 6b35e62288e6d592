-- Sets of places as numbers, and when two of them have a place in common.
use Rattle.std.proofs.Common.{◌≡◌, ℕ, ◌*◌, ◌^◌, ◌<◌, min, max, false, not, ◌||◌, List, [], ◌∷◌, ◌++◌, ◌⊎◌, inl, inr, sym, ap, ◌∙◌, arith}
use Rattle.std.specs.Prelude.{nat_eq, bit_and, bit_or}
use Rattle.std.specs.Int.{bit_at}
use Rattle.std.specs.Int.Bits.{and_comm, and_le_l, and_le_r, and_zero_l, or_add_and, or_zero_l}
use Rattle.std.proofs.lemmas.Bool.{cases_eq, eq-eqb, ne_eqb}
use Rattle.std.proofs.lemmas.Bool.Decides.{nat_tests}
use Rattle.std.proofs.lemmas.Nat.{pow_pos}
use Rattle.std.proofs.lemmas.Nat.Bits.{bit_at_and, bit_at_or, bit_at-pow_same, bit_at-pow_other, and_pow, same_from_bits}
use Rattle.std.proofs.Math.Nat.{zero-mul}
use Rattle.operation.specs.declared.Place.{Place}
use Rattle.dependences.specs.Footprint.{only, set_of, meets}

-- ---- numbers bit by bit

max_assoc : (x y z : ℕ) → max (max x y) z ≡ max x (max y z)
max_assoc x y z = omega arith

min_over_max : (x y z : ℕ) → min (max x y) z ≡ max (min x z) (min y z)
min_over_max x y z = omega arith

pub or_assoc : (a b c : ℕ) → bit_or (bit_or a b) c ≡ bit_or a (bit_or b c)
or_assoc a b c = same_from_bits (bit_or (bit_or a b) c) (bit_or a (bit_or b c)) (λ i.
    bit_at_or (bit_or a b) c i
    ∙ ap (λ n. max n (bit_at c i)) (bit_at_or a b i)
    ∙ max_assoc (bit_at a i) (bit_at b i) (bit_at c i)
    ∙ sym (bit_at_or a (bit_or b c) i ∙ ap (max (bit_at a i)) (bit_at_or b c i)))

and_over_or : (a b c : ℕ) → bit_and (bit_or a b) c ≡ bit_or (bit_and a c) (bit_and b c)
and_over_or a b c = same_from_bits (bit_and (bit_or a b) c) (bit_or (bit_and a c) (bit_and b c)) (λ i.
    bit_at_and (bit_or a b) c i
    ∙ ap (λ n. min n (bit_at c i)) (bit_at_or a b i)
    ∙ min_over_max (bit_at a i) (bit_at b i) (bit_at c i)
    ∙ sym (bit_at_or (bit_and a c) (bit_and b c) i
    ∙ ap (λ n. max n (bit_at (bit_and b c) i)) (bit_at_and a c i)
    ∙ ap (max (min (bit_at a i) (bit_at c i))) (bit_at_and b c i)))

-- ---- sets of several lists

pub set_of-append : (xs ys : List Place) → set_of (xs ++ ys) ≡ bit_or (set_of xs) (set_of ys)
set_of-append [] ys = sym (or_zero_l (set_of ys))
set_of-append (x ∷ xs) ys = ap (bit_or (only x)) (set_of-append xs ys) ∙ sym (or_assoc (only x) (set_of xs) (set_of ys))

-- a place and five lists, as the code puts them together
pub set_of-six : (x : Place) (a b c d e : List Place) →
    bit_or (bit_or (bit_or (bit_or (bit_or (only x) (set_of a)) (set_of b)) (set_of c)) (set_of d)) (set_of e)
    ≡ set_of (x ∷ (a ++ (b ++ (c ++ (d ++ e)))))
set_of-six x a b c d e = simp (set_of-append, or_assoc)

-- ---- sets that meet

pub some_in_either : (a b : ℕ) → not (nat_eq (bit_or a b) 0) ≡ (not (nat_eq a 0) || not (nat_eq b 0))
some_in_either a b = grind (arith, nat_tests, or_add_and a b, and_le_l a b, and_le_r a b)

pub some_in_four : (a b c d : ℕ) →
    not (nat_eq (bit_or (bit_or (bit_or a b) c) d) 0)
    ≡ (((not (nat_eq a 0) || not (nat_eq b 0)) || not (nat_eq c 0)) || not (nat_eq d 0))
some_in_four a b c d =
    some_in_either (bit_or (bit_or a b) c) d
    ∙ ap (λ t. t || not (nat_eq d 0)) (some_in_either (bit_or a b) c ∙ ap (λ t. t || not (nat_eq c 0)) (some_in_either a b))

pub meets_comm : (a b : ℕ) → meets a b ≡ meets b a
meets_comm a b = ap (λ n. not (nat_eq n 0)) (and_comm a b)

pub meets_none : (a : ℕ) → meets 0 a ≡ false
meets_none a = ap (λ n. not (nat_eq n 0)) (and_zero_l a)

pub meets_either : (a b c : ℕ) → meets (bit_or a b) c ≡ (meets a c || meets b c)
meets_either a b c = ap (λ n. not (nat_eq n 0)) (and_over_or a b c) ∙ some_in_either (bit_and a c) (bit_and b c)

-- sets of one number each
pub meets_alone : (i j : ℕ) → meets (2 ^ i) (2 ^ j) ≡ nat_eq i j
meets_alone i j = go (cases_eq i j)
  where
    go : (i ≡ j) ⊎ (i ≡ j → ⊥) → meets (2 ^ i) (2 ^ j) ≡ nat_eq i j
    go (inl same) =
        let one : bit_at (2 ^ i) j ≡ 1 = rw (← same) (bit_at-pow_same i) in
        let positive : 0 < 2 ^ j = pow_pos j in
        let here : bit_and (2 ^ i) (2 ^ j) ≡ 2 ^ j = and_pow (2 ^ i) j ∙ ap (λ n. n * 2 ^ j) one ∙ (omega arith) in
        ap (λ n. not (nat_eq n 0)) here ∙ ap not (ne_eqb (2 ^ j) 0 (λ none. omega arith)) ∙ sym (eq-eqb i j same)
    go (inr differ) =
        let none : bit_at (2 ^ i) j ≡ 0 = bit_at-pow_other i j (λ same. differ (sym same)) in
        ap (λ n. not (nat_eq n 0)) (and_pow (2 ^ i) j ∙ ap (λ n. n * 2 ^ j) none ∙ zero-mul (2 ^ j)) ∙ sym (ne_eqb i j differ)
