-- What stands earlier in a list of numbers, and which lists are equal.
use Rattle.std.proofs.Common.{◌≡◌, ◌≢◌, ℕ, Bool, true, false, cond, List, [], ◌∷◌, ◌⊎◌, inl, inr, refl, sym, ap, subst, ◌∙◌}
use Rattle.std.specs.Prelude.{filter}
use Rattle.serial_order.specs.Lists.{Among, Earlier, EachOnce}
use Rattle.serial_order.proofs.Members.{earlier_right, among_filter, filter_among}

pub earlier_left : (l : List ℕ) (i j : ℕ) → Earlier l i j → Among i l
earlier_left [] i j h = elim h [ ]
earlier_left (k ∷ ks) i j (inl h) = inl h.0
earlier_left (k ∷ ks) i j (inr h) = inr (earlier_left ks i j h)

pub never_both : (l : List ℕ) (i j : ℕ) → EachOnce l → Earlier l i j → Earlier l j i → ⊥
never_both [] i j o g h = elim g [ ]
never_both (k ∷ ks) i j o (inl g) (inl h) = o.0 (subst (λ n. Among n ks) (sym g.0) h.1)
never_both (k ∷ ks) i j o (inl g) (inr h) = o.0 (subst (λ n. Among n ks) (sym g.0) (earlier_right ks j i h))
never_both (k ∷ ks) i j o (inr g) (inl h) = o.0 (subst (λ n. Among n ks) (sym h.0) (earlier_right ks i j g))
never_both (k ∷ ks) i j o (inr g) (inr h) = never_both ks i j o.1 g h

pub distinct : (l : List ℕ) (i j : ℕ) → EachOnce l → Earlier l i j → i ≢ j
distinct l i j o h e = let g = subst (λ n. Earlier l n j) e h in never_both l j j o g g

pub which_earlier : (l : List ℕ) (i j : ℕ) → Among i l → Among j l → (i ≡ j) ⊎ (Earlier l i j ⊎ Earlier l j i)
which_earlier [] i j a b = elim a [ ]
which_earlier (k ∷ ks) i j (inl a) (inl b) = inl (sym a ∙ b)
which_earlier (k ∷ ks) i j (inl a) (inr b) = inr (inl (inl (a, b)))
which_earlier (k ∷ ks) i j (inr a) (inl b) = inr (inr (inl (b, a)))
which_earlier (k ∷ ks) i j (inr a) (inr b) = elim (which_earlier ks i j a b) [
  | inl e ↦ inl e
  | inr (inl h) ↦ inr (inl (inr h))
  | inr (inr h) ↦ inr (inr (inr h))
]

-- ---- filters

pub filter_earlier : (p : ℕ → Bool) (l : List ℕ) (i j : ℕ) → Earlier (filter p l) i j → Earlier l i j
filter_earlier p [] i j h = elim h [ ]
filter_earlier p (x ∷ xs) i j h = go (filter_earlier p xs i j) (p x) h
  where
    go :
        (Earlier (filter p xs) i j → Earlier xs i j) → (b : Bool) → Earlier (cond b (x ∷ filter p xs) (filter p xs)) i j →
        Earlier (x ∷ xs) i j
    go f true (inl a) = inl (a.0, (filter_among p xs j a.1).0)
    go f true (inr a) = inr (f a)
    go f false a = inr (f a)

earlier_filter : (p : ℕ → Bool) (l : List ℕ) (i j : ℕ) → p i ≡ true → p j ≡ true → Earlier l i j → Earlier (filter p l) i j
earlier_filter p [] i j s t h = elim h [ ]
earlier_filter p (x ∷ xs) i j s t (inl h) = rw (ap p h.0 ∙ s) (inl (h.0, among_filter p xs j t h.1))
earlier_filter p (x ∷ xs) i j s t (inr h) =
    elim (p x) as (λ b. Earlier (cond b (x ∷ filter p xs) (filter p xs)) i j) [
      | true ↦ inr (earlier_filter p xs i j s t h)
      | false ↦ earlier_filter p xs i j s t h
    ]

once_filter : (p : ℕ → Bool) (l : List ℕ) → EachOnce l → EachOnce (filter p l)
once_filter p [] o = tt
once_filter p (x ∷ xs) o =
    elim (p x) as (λ b. EachOnce (cond b (x ∷ filter p xs) (filter p xs))) [
      | true ↦ (λ a. o.0 (filter_among p xs x a).0, once_filter p xs o.1)
      | false ↦ once_filter p xs o.1
    ]

-- ---- equal lists

abbrev Tails : List ℕ → List ℕ → Type 0
Tails xs ys = ((k : ℕ) → Among k xs → Among k ys) → ((k : ℕ) → Among k ys → Among k xs) → ((i j : ℕ) → Earlier xs i j → Earlier ys i j) → xs ≡ ys

-- lists of the same numbers, each once, in the same order are equal
pub same_lists :
    (a b : List ℕ) → EachOnce a → EachOnce b → ((k : ℕ) → Among k a → Among k b) → ((k : ℕ) → Among k b → Among k a) →
    ((i j : ℕ) → Earlier a i j → Earlier b i j) → a ≡ b
same_lists [] [] oa ob to from kept = refl
same_lists [] (y ∷ ys) oa ob to from kept = absurd (from y (inl refl))
same_lists (x ∷ xs) [] oa ob to from kept = absurd (to x (inl refl))
same_lists (x ∷ xs) (y ∷ ys) oa ob to from kept = heads (same_lists xs ys oa.1 ob.1) (from y (inl refl)) (to x (inl refl))
  where
    tails : Tails xs ys → x ≡ y → x ∷ xs ≡ y ∷ ys
    tails rest e =
        let forth : (k : ℕ) → Among k xs → Among k ys = λ k h. elim (to k (inr h)) [ inl f ↦ absurd (oa.0 (subst (λ n. Among n xs) (sym f ∙ sym e) h)) | inr g ↦ g ] in
        let back : (k : ℕ) → Among k ys → Among k xs = λ k h. elim (from k (inr h)) [ inl f ↦ absurd (ob.0 (subst (λ n. Among n ys) (sym f ∙ e) h)) | inr g ↦ g ] in
        let later : (i j : ℕ) → Earlier xs i j → Earlier ys i j = λ i j h. elim (kept i j (inr h)) [ inl f ↦ absurd (ob.0 (subst (λ n. Among n ys) (sym f.0) (forth i (earlier_left xs i j h)))) | inr g ↦ g ] in
        ap (λ n. n ∷ xs) e ∙ ap (λ l. y ∷ l) (rest forth back later)

    heads : Tails xs ys → Among y (x ∷ xs) → Among x (y ∷ ys) → x ∷ xs ≡ y ∷ ys
    heads rest (inl e) b = tails rest e
    heads rest (inr a) (inl e) = tails rest (sym e)
    heads rest (inr a) (inr b) = absurd (never_both (y ∷ ys) x y ob (kept x y (inl (refl, a))) (inl (refl, b)))

-- so are those that pass a test, where both lists have the same of them, in the same order
pub filter_same :
    (p : ℕ → Bool) (a b : List ℕ) → EachOnce a → EachOnce b → ((k : ℕ) → p k ≡ true → Among k a → Among k b) →
    ((k : ℕ) → p k ≡ true → Among k b → Among k a) → ((i j : ℕ) → p i ≡ true → p j ≡ true → Earlier b i j → Earlier a i j) →
    filter p a ≡ filter p b
filter_same p a b oa ob to from kept =
    sym (same_lists (filter p b) (filter p a) (once_filter p b ob) (once_filter p a oa)
    (λ k h. let r = filter_among p b k h in among_filter p a k r.1 (from k r.1 r.0))
    (λ k h. let r = filter_among p a k h in among_filter p b k r.1 (to k r.1 r.0))
    (λ i j h.
    let t = (filter_among p b i (earlier_left (filter p b) i j h)).1 in
    let u = (filter_among p b j (earlier_right (filter p b) i j h)).1 in
    earlier_filter p a i j t u (kept i j t u (filter_earlier p b i j h))))
