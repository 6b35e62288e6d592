-- Lists in reverse: what stands in them, and what stands earlier.
use Rattle.std.proofs.Common.{ℕ, List, [], ◌∷◌, ◌⊎◌, inl, inr, refl, sym, subst}
use Rattle.serial_order.specs.Lists.{Among, Earlier, EachOnce}
use Rattle.serial_order.proofs.Earlier.{earlier_left, never_both}

-- the reverse of a list, and then another
abbrev pub onto : List ℕ → List ℕ → List ℕ
onto [] ys = ys
onto (x ∷ xs) ys = onto xs (x ∷ ys)

pub among_right : (past rest : List ℕ) (i : ℕ) → Among i rest → Among i (onto past rest)
among_right [] rest i h = h
among_right (x ∷ xs) rest i h = among_right xs (x ∷ rest) i (inr h)

pub among_left : (past rest : List ℕ) (i : ℕ) → Among i past → Among i (onto past rest)
among_left [] rest i h = elim h [ ]
among_left (x ∷ xs) rest i (inl e) = among_right xs (x ∷ rest) i (inl e)
among_left (x ∷ xs) rest i (inr h) = among_left xs (x ∷ rest) i h

pub among_onto : (past rest : List ℕ) (i : ℕ) → Among i (onto past rest) → Among i past ⊎ Among i rest
among_onto [] rest i h = inr h
among_onto (x ∷ xs) rest i h = elim (among_onto xs (x ∷ rest) i h) [
  | inl a ↦ inl (inr a)
  | inr (inl e) ↦ inl (inl e)
  | inr (inr a) ↦ inr a
]

pub earlier_onto : (past rest : List ℕ) (i j : ℕ) → Earlier rest i j → Earlier (onto past rest) i j
earlier_onto [] rest i j h = h
earlier_onto (x ∷ xs) rest i j h = earlier_onto xs (x ∷ rest) i j (inr h)

pub earlier_across : (past rest : List ℕ) (i j : ℕ) → Among i past → Among j rest → Earlier (onto past rest) i j
earlier_across [] rest i j a h = elim a [ ]
earlier_across (x ∷ xs) rest i j (inl e) h = earlier_onto xs (x ∷ rest) i j (inl (e, h))
earlier_across (x ∷ xs) rest i j (inr a) h = earlier_across xs (x ∷ rest) i j a (inr h)

-- what stands earlier than the first number of the rest stands in the past
pub before_it : (past rest : List ℕ) (j k : ℕ) → EachOnce (onto past (j ∷ rest)) → Earlier (onto past (j ∷ rest)) k j → Among k past
before_it past rest j k o h = elim (among_onto past (j ∷ rest) k (earlier_left (onto past (j ∷ rest)) k j h)) [
  | inl a ↦ a
  | inr (inl e) ↦ absurd (let g = subst (λ n. Earlier (onto past (j ∷ rest)) n j) (sym e) h in never_both (onto past (j ∷ rest)) j j o g g)
  | inr (inr a) ↦ absurd (never_both (onto past (j ∷ rest)) k j o h (earlier_onto past (j ∷ rest) j k (inl (refl, a))))
]
