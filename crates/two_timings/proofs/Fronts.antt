-- Lists in two parts, of which the first, the front, is written with its last number first.
use Rattle.std.proofs.Common.{◌≡◌, ℕ, suc, ◌+◌, length, arith, List, [], ◌∷◌, ◌⊎◌, inl, inr, refl, sym, ap, subst}
use Rattle.std.specs.Prelude.{slice_get}
use Rattle.serial_order.specs.Lists.{Among, Earlier, EachOnce}
use Rattle.serial_order.proofs.Onto.{onto, among_left, among_onto, earlier_onto, earlier_across}
use Rattle.serial_order.proofs.Earlier.{earlier_left, never_both, distinct, which_earlier}

earlier_turn : (past rest : List ℕ) (i j : ℕ) → Earlier past i j → Earlier (onto past rest) j i
earlier_turn [] rest i j h = elim h [ ]
earlier_turn (x ∷ xs) rest i j (inl h) = earlier_across xs (x ∷ rest) j i h.1 (inl h.0)
earlier_turn (x ∷ xs) rest i j (inr h) = earlier_turn xs (x ∷ rest) i j h

once_past : (past rest : List ℕ) → EachOnce (onto past rest) → EachOnce past
once_past [] rest o = tt
once_past (x ∷ xs) rest o =
    (λ a. distinct (onto xs (x ∷ rest)) x x o (earlier_across xs (x ∷ rest) x x a (inl refl)) refl, once_past xs (x ∷ rest) o)

-- where the rest begins
pub onto_at : (past rest : List ℕ) (n m : ℕ) → m ≡ length past + n → slice_get (onto past rest) m ≡ slice_get rest n
onto_at [] rest n m e = ap (slice_get rest) (omega (arith, e))
onto_at (x ∷ xs) rest n m e = onto_at xs (x ∷ rest) (suc n) m (omega (arith, e))

-- the front that is the whole list
pub onto_back : (l past : List ℕ) → onto (onto l past) [] ≡ onto past l
onto_back [] past = refl
onto_back (x ∷ xs) past = onto_back xs (x ∷ past)

-- ---- a front of a list

module _ (l past rest : List ℕ) (split : l ≡ onto past rest) where
  pub front_among : (k : ℕ) → Among k past → Among k l
  front_among k a = subst (Among k) (sym split) (among_left past rest k a)

  -- what stands earlier in the front stands later in the list
  pub front_turn : (i k : ℕ) → Earlier past i k → Earlier l k i
  front_turn i k e = subst (λ m. Earlier m k i) (sym split) (earlier_turn past rest i k e)

  pub front_once : EachOnce l → EachOnce past
  front_once o = once_past past rest (subst EachOnce split o)

  -- and the other way round
  pub front_back : EachOnce l → (i k : ℕ) → Among i past → Among k past → Earlier l k i → Earlier past i k
  front_back o i k a b e = elim (which_earlier past i k a b) [
    | inl f ↦ absurd (distinct l k i o e (sym f))
    | inr (inl g) ↦ g
    | inr (inr g) ↦ absurd (never_both l i k o (front_turn k i g) e)
  ]

-- ---- a number in a list: the front before it, and what stands after it

pub record Stand (l : List ℕ) (j : ℕ) : Type 0 where
  pub past : List ℕ
  pub rest : List ℕ
  pub split : l ≡ onto past (j ∷ rest)

pub stand : (l : List ℕ) (j : ℕ) → Among j l → Stand l j
stand l j = find [] l
  where
    find : (past rest : List ℕ) → Among j rest → Stand (onto past rest) j
    find past [] a = elim a [ ]
    find past (k ∷ ks) (inl e) = record { past = past; rest = ks; split = ap (λ n. onto past (n ∷ ks)) e }
    find past (k ∷ ks) (inr a) = find (k ∷ past) ks a

module _ (l : List ℕ) (j : ℕ) (s : Stand l j) where
  pub past_before : (k : ℕ) → Among k s.past → Earlier l k j
  past_before k a = subst (λ m. Earlier m k j) (sym s.split) (earlier_across s.past (j ∷ s.rest) k j a (inl refl))

  pub before_or_after : (k : ℕ) → Among k l → Among k s.past ⊎ ((j ≡ k) ⊎ Earlier l j k)
  before_or_after k a = elim (among_onto s.past (j ∷ s.rest) k (subst (Among k) s.split a)) [
    | inl b ↦ inl b
    | inr (inl e) ↦ inr (inl e)
    | inr (inr b) ↦ inr (inr (subst (λ m. Earlier m j k) (sym s.split) (earlier_onto s.past (j ∷ s.rest) j k (inl (refl, b)))))
  ]

  pub before_past : EachOnce l → (k : ℕ) → Earlier l k j → Among k s.past
  before_past o k e = elim (before_or_after k (earlier_left l k j e)) [
    | inl b ↦ b
    | inr (inl f) ↦ absurd (distinct l k j o e (sym f))
    | inr (inr g) ↦ absurd (never_both l k j o e g)
  ]
