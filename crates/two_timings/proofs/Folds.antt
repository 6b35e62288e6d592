-- What operations come to one after the other, each holding at once: the serial run. The latest stands first in a list.
use Rattle.std.proofs.Common.{◌≡◌, ℕ, ◌+◌, Bool, true, false, cond, List, [], ◌∷◌, ◌++◌, inl, inr, refl, sym, ap, ◌∙◌, Option, Some, None}
use Rattle.std.specs.Prelude.{filter}
use Rattle.timed_meaning.specs.declared.Cell.{Cell}
use Rattle.timed_meaning.specs.declared.Answer.{Answer}
use Rattle.timed_meaning.specs.Block.{Act, answered}
use Rattle.serial_order.specs.Lists.{Among}
use Rattle.two_timings.proofs.Effects.{own}

-- what one act adds to the output, to the input position, to the answer and to a cell's value
abbrev pub put_out : List ℕ → Act → List ℕ
put_out output a = output ++ a.put

abbrev pub take_in : ℕ → Act → ℕ
take_in position a = position + a.taken

abbrev pub answer_by : Answer → Act → Answer
answer_by old a = answered old a.answer

abbrev pub value_or : ℕ → Option ℕ → ℕ
value_or old None = old
value_or old (Some v) = v

abbrev pub leave_at : Cell → ℕ → Act → ℕ
leave_at x old a = value_or old (own x a.values)

-- what all acts of a list come to
abbrev pub folded : {A : Type 0} → (A → Act → A) → (ℕ → Act) → A → List ℕ → A
folded step acts x [] = x
folded step acts x (k ∷ ks) = step (folded step acts x ks) (acts k)

-- only operations of a kind count, where the others add nothing
folded_kept :
    {A : Type 0} → (step : A → Act → A) (acts : ℕ → Act) (p : ℕ → Bool) →
    ((k : ℕ) → p k ≡ false → (y : A) → step y (acts k) ≡ y) → (x : A) (ks : List ℕ) →
    folded step acts x ks ≡ folded step acts x (filter p ks)
folded_kept step acts p h x [] = refl
folded_kept step acts p h x (k ∷ ks) = go (folded_kept step acts p h x ks) (p k) refl
  where
    go :
        folded step acts x ks ≡ folded step acts x (filter p ks) → (b : Bool) → p k ≡ b →
        step (folded step acts x ks) (acts k) ≡ folded step acts x (cond b (k ∷ filter p ks) (filter p ks))
    go f true e = ap (λ y. step y (acts k)) f
    go f false e = h k e (folded step acts x ks) ∙ f

-- two lists that have the same operations of that kind in the same order come to the same
pub folded_alike :
    {A : Type 0} → (step : A → Act → A) (acts : ℕ → Act) (p : ℕ → Bool) →
    ((k : ℕ) → p k ≡ false → (y : A) → step y (acts k) ≡ y) → (x : A) (ks ls : List ℕ) → filter p ks ≡ filter p ls →
    folded step acts x ks ≡ folded step acts x ls
folded_alike step acts p h x ks ls e =
    folded_kept step acts p h x ks ∙ ap (folded step acts x) e ∙ sym (folded_kept step acts p h x ls)

-- so do equal acts
pub folded_equal :
    {A : Type 0} → (step : A → Act → A) (a b : ℕ → Act) (x : A) (ks : List ℕ) → ((k : ℕ) → Among k ks → a k ≡ b k) →
    folded step a x ks ≡ folded step b x ks
folded_equal step a b x [] h = refl
folded_equal step a b x (k ∷ ks) h =
    ap (λ y. step y (a k)) (folded_equal step a b x ks (λ i m. h i (inr m))) ∙ ap (step (folded step b x ks)) (h k (inl refl))
