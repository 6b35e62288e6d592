-- Numbers in lists: as a relation and as a test, at a push, in a filter and in a range.
use Rattle.std.proofs.Common.{◌≡◌, ℕ, zero, suc, ◌+◌, ◌<◌, ◌≤◌, ◌||◌, Bool, true, false, cond, List, [], ◌∷◌, ◌++◌, ◌⊎◌, inl, inr, refl, sym, ap, ◌∙◌, arith}
use Rattle.std.specs.Prelude.{nat_eq, filter}
use Rattle.std.specs.List.{list_any, list_all, range_with_len}
use Rattle.std.proofs.lemmas.Bool.{cases_lt, eqb-true, eq-eqb, ne_eqb, or_cases, or_left, or_right, and_parts, and_from, both_ways, false≢true, false_from_ne_true}
use Rattle.serial_order.specs.Lists.{Among, Earlier, EachOnce, has}

pub has_among : (k : ℕ) (l : List ℕ) → has k l ≡ true → Among k l
has_among k [] e = absurd (false≢true e)
has_among k (x ∷ xs) e = go (has_among k xs) (or_cases (nat_eq k x) (has k xs) e)
  where
    go : (has k xs ≡ true → Among k xs) → (nat_eq k x ≡ true) ⊎ (has k xs ≡ true) → Among k (x ∷ xs)
    go f (inl t) = inl (sym (eqb-true k x t))
    go f (inr t) = inr (f t)

pub among_has : (k : ℕ) (l : List ℕ) → Among k l → has k l ≡ true
among_has k [] a = elim a [ ]
among_has k (x ∷ xs) (inl e) = or_left (nat_eq k x) (has k xs) (eq-eqb k x (sym e))
among_has k (x ∷ xs) (inr a) = or_right (nat_eq k x) (has k xs) (among_has k xs a)

pub not_among : (k : ℕ) (l : List ℕ) → has k l ≡ false → Among k l → ⊥
not_among k l e a = both_ways (has k l) e (among_has k l a)

pub not_has : (k : ℕ) (l : List ℕ) → (Among k l → ⊥) → has k l ≡ false
not_has k l f = false_from_ne_true (has k l) (λ e. f (has_among k l e))

-- ---- tests of some and of all

pub some_among : (p : ℕ → Bool) (l : List ℕ) → list_any p l ≡ true → (i : ℕ) × Among i l × (p i ≡ true)
some_among p [] e = absurd (false≢true e)
some_among p (x ∷ xs) e = go (some_among p xs) (or_cases (p x) (list_any p xs) e)
  where
    go : (list_any p xs ≡ true → (i : ℕ) × Among i xs × (p i ≡ true)) → (p x ≡ true) ⊎ (list_any p xs ≡ true) → (i : ℕ) × Among i (x ∷ xs) × (p i ≡ true)
    go f (inl t) = (x, inl refl, t)
    go f (inr t) = let r = f t in (r.0, inr r.1, r.2)

pub among_some : (p : ℕ → Bool) (l : List ℕ) (i : ℕ) → Among i l → p i ≡ true → list_any p l ≡ true
among_some p [] i a t = elim a [ ]
among_some p (x ∷ xs) i (inl e) t = or_left (p x) (list_any p xs) (ap p e ∙ t)
among_some p (x ∷ xs) i (inr a) t = or_right (p x) (list_any p xs) (among_some p xs i a t)

pub all_among : (p : ℕ → Bool) (l : List ℕ) → list_all p l ≡ true → (k : ℕ) → Among k l → p k ≡ true
all_among p [] e k a = elim a [ ]
all_among p (x ∷ xs) e k (inl f) = ap p (sym f) ∙ (and_parts (p x) (list_all p xs) e).0
all_among p (x ∷ xs) e k (inr a) = all_among p xs (and_parts (p x) (list_all p xs) e).1 k a

pub among_all : (p : ℕ → Bool) (l : List ℕ) → ((k : ℕ) → Among k l → p k ≡ true) → list_all p l ≡ true
among_all p [] f = refl
among_all p (x ∷ xs) f = and_from (p x) (list_all p xs) (f x (inl refl)) (among_all p xs (λ k a. f k (inr a)))

-- ---- one more number at the end

pub among_left : (xs : List ℕ) (x k : ℕ) → Among k xs → Among k (xs ++ x ∷ [])
among_left [] x k a = elim a [ ]
among_left (y ∷ ys) x k (inl e) = inl e
among_left (y ∷ ys) x k (inr a) = inr (among_left ys x k a)

pub among_last : (xs : List ℕ) (x : ℕ) → Among x (xs ++ x ∷ [])
among_last [] x = inl refl
among_last (y ∷ ys) x = inr (among_last ys x)

pub among_push : (xs : List ℕ) (x k : ℕ) → Among k (xs ++ x ∷ []) → Among k xs ⊎ (x ≡ k)
among_push [] x k (inl e) = inr e
among_push [] x k (inr a) = elim a [ ]
among_push (y ∷ ys) x k (inl e) = inl (inl e)
among_push (y ∷ ys) x k (inr a) = elim (among_push ys x k a) [ inl b ↦ inl (inr b) | inr e ↦ inr e ]

pub has_push_same : (xs : List ℕ) (x : ℕ) → has x (xs ++ x ∷ []) ≡ true
has_push_same xs x = among_has x (xs ++ x ∷ []) (among_last xs x)

pub has_push_other : (xs : List ℕ) (x k : ℕ) → (k ≡ x → ⊥) → has k (xs ++ x ∷ []) ≡ has k xs
has_push_other [] x k ne = ap (λ b. b || false) (ne_eqb k x ne)
has_push_other (y ∷ ys) x k ne = ap (λ b. nat_eq k y || b) (has_push_other ys x k ne)

pub earlier_push : (xs : List ℕ) (x i j : ℕ) → Earlier xs i j → Earlier (xs ++ x ∷ []) i j
earlier_push [] x i j e = elim e [ ]
earlier_push (y ∷ ys) x i j (inl e) = inl (e.0, among_left ys x j e.1)
earlier_push (y ∷ ys) x i j (inr e) = inr (earlier_push ys x i j e)

pub earlier_last : (xs : List ℕ) (x i : ℕ) → Among i xs → Earlier (xs ++ x ∷ []) i x
earlier_last [] x i a = elim a [ ]
earlier_last (y ∷ ys) x i (inl e) = inl (e, among_last ys x)
earlier_last (y ∷ ys) x i (inr a) = inr (earlier_last ys x i a)

pub earlier_right : (l : List ℕ) (i j : ℕ) → Earlier l i j → Among j l
earlier_right [] i j h = elim h [ ]
earlier_right (k ∷ ks) i j (inl h) = inr h.1
earlier_right (k ∷ ks) i j (inr h) = inr (earlier_right ks i j h)

pub once_push : (xs : List ℕ) (x : ℕ) → EachOnce xs → (Among x xs → ⊥) → EachOnce (xs ++ x ∷ [])
once_push [] x o f = ((λ a. a), tt)
once_push (y ∷ ys) x o f = (
  (λ a. elim (among_push ys x y a) [ inl b ↦ o.0 b | inr e ↦ f (inl (sym e)) ]),
  once_push ys x o.1 (λ a. f (inr a)),
)

-- ---- filters and ranges

pub among_filter : (p : ℕ → Bool) (l : List ℕ) (k : ℕ) → p k ≡ true → Among k l → Among k (filter p l)
among_filter p [] k t h = elim h [ ]
among_filter p (x ∷ xs) k t (inl e) = rw (ap p e ∙ t) (inl e)
among_filter p (x ∷ xs) k t (inr h) =
    elim (p x) as (λ b. Among k (cond b (x ∷ filter p xs) (filter p xs))) [
      | true ↦ inr (among_filter p xs k t h)
      | false ↦ among_filter p xs k t h
    ]

pub filter_among : (p : ℕ → Bool) (l : List ℕ) (k : ℕ) → Among k (filter p l) → Among k l × (p k ≡ true)
filter_among p [] k h = elim h [ ]
filter_among p (x ∷ xs) k h = go (filter_among p xs k) (p x) refl h
  where
    go : (Among k (filter p xs) → Among k xs × (p k ≡ true)) → (b : Bool) → p x ≡ b → Among k (cond b (x ∷ filter p xs) (filter p xs)) → Among k (x ∷ xs) × (p k ≡ true)
    go f true e (inl a) = (inl a, sym (ap p a) ∙ e)
    go f true e (inr a) = (inr (f a).0, (f a).1)
    go f false e a = (inr (f a).0, (f a).1)

pub among_range_from : (a n k : ℕ) → a ≤ k → k < a + n → Among k (range_with_len a n)
among_range_from a zero k low high = absurd (omega arith)
among_range_from a (suc n) k low high = elim (cases_lt a k) [
  | inl h ↦ inr (among_range_from (a + 1) n k (omega arith) (omega arith))
  | inr h ↦ inl (let g : k ≤ a = h in omega arith)
]

range_among_from : (a n k : ℕ) → Among k (range_with_len a n) → k < a + n
range_among_from a zero k h = elim h [ ]
range_among_from a (suc n) k (inl e) = omega arith
range_among_from a (suc n) k (inr h) = let r = range_among_from (a + 1) n k h in omega arith

pub among_range : (n k : ℕ) → k < n → Among k (range_with_len 0 n)
among_range n k h = among_range_from 0 n k (omega arith) (omega arith)

pub range_among : (n k : ℕ) → Among k (range_with_len 0 n) → k < n
range_among n k h = let r = range_among_from 0 n k h in omega arith
