-- What is stuck, by sets.
use Rattle.std.proofs.Common.{◌≡◌, ℕ, zero, suc, ◌+◌, ◌<◌, ◌≤◌, ◌||◌, ◌&&◌, Bool, true, false, cond, List, [], ◌∷◌, map, ◌⊎◌, inl, inr, refl, sym, ap, subst, ◌∙◌, Option, Some, None, arith}
use Rattle.std.specs.Prelude.{filter, find, MatchOption}
use Rattle.std.specs.List.{list_any, list_all, range_with_len}
use Rattle.std.proofs.Math.Path.{fun_ext}
use Rattle.std.proofs.lemmas.Bool.{cases_lt, or_cases, or_left, or_right, and_parts, and_from, both_ways, false≢true, false_from_ne_true}
use Rattle.std.proofs.lemmas.Bool.Decides.{same_from_decides}
use Rattle.std.proofs.lemmas.List.Folds.{list_any-append}
use Rattle.serial_order.specs.Lists.{Among, has, sublists}
use Rattle.serial_order.specs.SerialOrder.{IsStuckSet, is_stuck, first_stuck}
use Rattle.serial_order.specs.Laws.{stuck_set, IsLeastStuck, StuckWhereSomeSetHas, StuckSetIsGreatest, FirstStuckIsLeast, SameBeforeSameStuck}
use Rattle.serial_order.proofs.Members.{has_among, among_has, some_among, among_some, all_among, among_all, among_filter, filter_among, among_range, range_among}

-- ---- sublists

list_any-map : (p : List ℕ → Bool) (f : List ℕ → List ℕ) (ls : List (List ℕ)) → list_any p (map f ls) ≡ list_any (λ l. p (f l)) ls
list_any-map p f [] = refl
list_any-map p f (l ∷ ls) = ap (λ b. p (f l) || b) (list_any-map p f ls)

some_sublist : (p : List ℕ → Bool) (xs : List ℕ) → list_any p (sublists xs) ≡ true → (l : List ℕ) × (p l ≡ true) × ((k : ℕ) → Among k l → Among k xs)
unfolding sublists
some_sublist p [] e = go (or_cases (p []) false e)
  where
    go : (p [] ≡ true) ⊎ (false ≡ true) → (l : List ℕ) × (p l ≡ true) × ((k : ℕ) → Among k l → Among k [])
    go (inl t) = ([], t, λ k a. a)
    go (inr t) = absurd (false≢true t)
some_sublist p (x ∷ xs) e =
    go (some_sublist (λ l. p (x ∷ l)) xs) (some_sublist p xs)
    (or_cases (list_any p (map (λ (l : List ℕ). x ∷ l) (sublists xs))) (list_any p (sublists xs)) (sym (list_any-append p (map (λ (l : List ℕ). x ∷ l) (sublists xs)) (sublists xs)) ∙ e))
  where
    go : (list_any (λ l. p (x ∷ l)) (sublists xs) ≡ true → (l : List ℕ) × (p (x ∷ l) ≡ true) × ((k : ℕ) → Among k l → Among k xs)) →
        (list_any p (sublists xs) ≡ true → (l : List ℕ) × (p l ≡ true) × ((k : ℕ) → Among k l → Among k xs)) →
        (list_any p (map (λ (l : List ℕ). x ∷ l) (sublists xs)) ≡ true) ⊎ (list_any p (sublists xs) ≡ true) →
        (l : List ℕ) × (p l ≡ true) × ((k : ℕ) → Among k l → Among k (x ∷ xs))
    go f g (inl t) =
        let r = f (sym (list_any-map p (λ (l : List ℕ). x ∷ l) (sublists xs)) ∙ t) in
        (x ∷ r.0, r.1, λ k a. elim a [ inl q ↦ inl q | inr m ↦ inr (r.2 k m) ])
    go f g (inr t) = let r = g t in (r.0, r.1, λ k a. inr (r.2 k a))

sublist_some : (p : List ℕ → Bool) (q : ℕ → Bool) (xs : List ℕ) → p (filter q xs) ≡ true → list_any p (sublists xs) ≡ true
unfolding sublists
sublist_some p q [] e = or_left (p []) false e
sublist_some p q (x ∷ xs) e =
    list_any-append p (map (λ (l : List ℕ). x ∷ l) (sublists xs)) (sublists xs)
    ∙ go (sublist_some (λ l. p (x ∷ l)) q xs) (sublist_some p q xs) (q x) e
  where
    go : (p (x ∷ filter q xs) ≡ true → list_any (λ l. p (x ∷ l)) (sublists xs) ≡ true) → (p (filter q xs) ≡ true → list_any p (sublists xs) ≡ true) →
        (b : Bool) → p (cond b (x ∷ filter q xs) (filter q xs)) ≡ true →
        (list_any p (map (λ (l : List ℕ). x ∷ l) (sublists xs)) || list_any p (sublists xs)) ≡ true
    go f g true t =
        or_left (list_any p (map (λ (l : List ℕ). x ∷ l) (sublists xs))) (list_any p (sublists xs))
        (list_any-map p (λ (l : List ℕ). x ∷ l) (sublists xs) ∙ f t)
    go f g false t = or_right (list_any p (map (λ (l : List ℕ). x ∷ l) (sublists xs))) (list_any p (sublists xs)) (g t)

-- ---- the stuck set

module _ (before : ℕ → ℕ → Bool) (n : ℕ) where
  pub stuck_has : (k : ℕ) → is_stuck before n k ≡ true → (set : List ℕ) × IsStuckSet before n set × Among k set
  unfolding is_stuck
  stuck_has k e = (
    r.0,
    record {
      inside = λ i a. range_among n i (r.2 i a);
      held = λ j a. some_among (λ i. before i j) r.0 (all_among (λ i. list_any (λ h. before h i) r.0) r.0 parts.1 j a);
    },
    has_among k r.0 parts.0,
  )
    where
      r : (l : List ℕ) × ((has k l && list_all (λ j. list_any (λ i. before i j) l) l) ≡ true) × ((i : ℕ) → Among i l → Among i (range_with_len 0 n))
      r = some_sublist (λ l. has k l && list_all (λ j. list_any (λ i. before i j) l) l) (range_with_len 0 n) e

      parts : (has k r.0 ≡ true) × (list_all (λ j. list_any (λ i. before i j) r.0) r.0 ≡ true)
      parts = and_parts (has k r.0) (list_all (λ j. list_any (λ i. before i j) r.0) r.0) r.1

  pub has_stuck : (k : ℕ) (set : List ℕ) → IsStuckSet before n set → Among k set → is_stuck before n k ≡ true
  unfolding is_stuck
  has_stuck k set s a =
      sublist_some (λ l. has k l && list_all (λ j. list_any (λ i. before i j) l) l) (λ x. has x set) (range_with_len 0 n)
      (and_from (has k same) (list_all (λ j. list_any (λ i. before i j) same) same) (among_has k same (to k a)) (among_all (λ j. list_any (λ i. before i j) same) same held))
    where
      same : List ℕ
      same = filter (λ x. has x set) (range_with_len 0 n)

      to : (i : ℕ) → Among i set → Among i same
      to i m = among_filter (λ x. has x set) (range_with_len 0 n) i (among_has i set m) (among_range n i (s.inside i m))

      held : (j : ℕ) → Among j same → list_any (λ i. before i j) same ≡ true
      held j m =
          let r = s.held j (has_among j set (filter_among (λ x. has x set) (range_with_len 0 n) j m).1) in
          among_some (λ i. before i j) same r.0 (to r.0 r.1) r.2

  pub not_stuck : (k : ℕ) → ((set : List ℕ) → IsStuckSet before n set → Among k set → ⊥) → is_stuck before n k ≡ false
  not_stuck k f = false_from_ne_true (is_stuck before n k) (λ e. let r = stuck_has k e in f r.0 r.1 r.2)

  pub stuck_inside : (k : ℕ) → is_stuck before n k ≡ true → k < n
  stuck_inside k e = let r = stuck_has k e in r.1.inside k r.2

  in_stuck_set : (k : ℕ) → is_stuck before n k ≡ true → Among k (stuck_set before n)
  in_stuck_set k e = among_filter (is_stuck before n) (range_with_len 0 n) k e (among_range n k (stuck_inside k e))

  greatest : IsStuckSet before n (stuck_set before n) × ((set : List ℕ) → IsStuckSet before n set → (k : ℕ) → Among k set → Among k (stuck_set before n))
  greatest = (
    record {
      inside = λ k a. range_among n k (filter_among (is_stuck before n) (range_with_len 0 n) k a).0;
      held = λ j a.
          let r = stuck_has j (filter_among (is_stuck before n) (range_with_len 0 n) j a).1 in
          let h = r.1.held j r.2 in
          (h.0, in_stuck_set h.0 (has_stuck h.0 r.0 r.1 h.1), h.2);
    },
    λ set s k a. in_stuck_set k (has_stuck k set s a),
  )

-- ---- the first

-- the least number of a range that passes
record IsLeastFrom (p : ℕ → Bool) (a n k : ℕ) : Type 0 where
  from : a ≤ k
  to : k < a + n
  passes : p k ≡ true
  least : (j : ℕ) → a ≤ j → j < k → p j ≡ false

abbrev NoneFrom : (ℕ → Bool) → ℕ → ℕ → Type 0
NoneFrom p a n = (j : ℕ) → a ≤ j → j < a + n → p j ≡ false

one_later : (p : ℕ → Bool) (a n : ℕ) → p a ≡ false → (o : Option ℕ) → MatchOption o (NoneFrom p (a + 1) n) (IsLeastFrom p (a + 1) n) → MatchOption o (NoneFrom p a (suc n)) (IsLeastFrom p a (suc n))
one_later p a n e None f = λ j low high. elim (cases_lt a j) [
  | inl h ↦ f j (omega arith) (omega arith)
  | inr h ↦ (let same : j ≡ a = (let g : j ≤ a = h in omega arith) in ap p same ∙ e)
]
one_later p a n e (Some k) f = record {
  from = (let h = f.from in omega arith);
  to = (let h = f.to in omega arith);
  passes = f.passes;
  least = λ j low high. elim (cases_lt a j) [
    | inl h ↦ f.least j (omega arith) high
    | inr h ↦ (let same : j ≡ a = (let g : j ≤ a = h in omega arith) in ap p same ∙ e)
  ];
}

find_least : (p : ℕ → Bool) (a n : ℕ) → MatchOption (find p (range_with_len a n)) (NoneFrom p a n) (IsLeastFrom p a n)
find_least p a zero = λ j low high. absurd (omega arith)
find_least p a (suc n) = go (find_least p (a + 1) n) (p a) refl
  where
    go : MatchOption (find p (range_with_len (a + 1) n)) (NoneFrom p (a + 1) n) (IsLeastFrom p (a + 1) n) → (b : Bool) → p a ≡ b →
        MatchOption (cond b (Some a) (find p (range_with_len (a + 1) n))) (NoneFrom p a (suc n)) (IsLeastFrom p a (suc n))
    go f true e = record { from = omega arith; to = omega arith; passes = e; least = λ j low high. absurd (omega arith) }
    go f false e = one_later p a n e (find p (range_with_len (a + 1) n)) f

least_of : (before : ℕ → ℕ → Bool) (n : ℕ) (o : Option ℕ) → MatchOption o (NoneFrom (is_stuck before n) 0 n) (IsLeastFrom (is_stuck before n) 0 n) →
    MatchOption o ((k : ℕ) → k < n → is_stuck before n k ≡ false) (IsLeastStuck before n)
least_of before n None f = λ k lt. f k (omega arith) (omega arith)
least_of before n (Some k) f = record {
  inside = (let h = f.to in omega arith);
  stuck = f.passes;
  least = λ j lt. f.least j (omega arith) lt;
}

pub first_least : (before : ℕ → ℕ → Bool) (n : ℕ) → MatchOption (first_stuck before n) ((k : ℕ) → k < n → is_stuck before n k ≡ false) (IsLeastStuck before n)
unfolding first_stuck
first_least before n = least_of before n (find (is_stuck before n) (range_with_len 0 n)) (find_least (is_stuck before n) 0 n)

module _ (before : ℕ → ℕ → Bool) (n : ℕ) where
  pub first_none : ((k : ℕ) → k < n → is_stuck before n k ≡ false) → first_stuck before n ≡ None
  first_none f = go (first_stuck before n) (first_least before n)
    where
      go : (o : Option ℕ) → MatchOption o ((k : ℕ) → k < n → is_stuck before n k ≡ false) (IsLeastStuck before n) → o ≡ None
      go None g = refl
      go (Some k) g = absurd (both_ways (is_stuck before n k) (f k g.inside) g.stuck)

  pub none_first : first_stuck before n ≡ None → (k : ℕ) → k < n → is_stuck before n k ≡ false
  none_first e = subst (λ o. MatchOption o ((k : ℕ) → k < n → is_stuck before n k ≡ false) (IsLeastStuck before n)) e (first_least before n)

  pub first_some : (i : ℕ) → IsLeastStuck before n i → first_stuck before n ≡ Some i
  first_some i l = go (first_stuck before n) (first_least before n)
    where
      go : (o : Option ℕ) → MatchOption o ((k : ℕ) → k < n → is_stuck before n k ≡ false) (IsLeastStuck before n) → o ≡ Some i
      go None g = absurd (both_ways (is_stuck before n i) (g i l.inside) l.stuck)
      go (Some k) g = elim (cases_lt k i) [
        | inl h ↦ absurd (both_ways (is_stuck before n k) (l.least k h) g.stuck)
        | inr h ↦ elim (cases_lt i k) [
          | inl m ↦ absurd (both_ways (is_stuck before n i) (g.least i m) l.stuck)
          | inr m ↦ (let same : k ≡ i = (let a : i ≤ k = h in let b : k ≤ i = m in omega arith) in ap (λ (x : ℕ). Some x) same)
        ]
      ]

-- ---- the laws

pub stuck_where_some_set_has : StuckWhereSomeSetHas
stuck_where_some_set_has before n k = (stuck_has before n k, λ r. has_stuck before n k r.0 r.1 r.2)

pub stuck_set_is_greatest : StuckSetIsGreatest
stuck_set_is_greatest before n = greatest before n

pub first_stuck_is_least : FirstStuckIsLeast
first_stuck_is_least = first_least

same_set : (b b' : ℕ → ℕ → Bool) (n : ℕ) → ((i j : ℕ) → i < n → j < n → b i j ≡ b' i j) → (set : List ℕ) → IsStuckSet b n set → IsStuckSet b' n set
same_set b b' n e set s = record {
  inside = s.inside;
  held = λ j a. let h = s.held j a in (h.0, h.1, sym (e h.0 j (s.inside h.0 h.1) (s.inside j a)) ∙ h.2);
}

pub same_before_same_stuck : SameBeforeSameStuck
unfolding first_stuck
same_before_same_stuck b b' n e = ap (λ p. find p (range_with_len 0 n)) (fun_ext same)
  where
    same : (k : ℕ) → is_stuck b n k ≡ is_stuck b' n k
    same k = same_from_decides {P = (set : List ℕ) × IsStuckSet b n set × Among k set} (is_stuck b n k) (is_stuck b' n k)
        (stuck_has b n k, λ r. has_stuck b n k r.0 r.1 r.2) (
          (λ t. let r = stuck_has b' n k t in (r.0, same_set b' b n (λ i j g h. sym (e i j g h)) r.0 r.1, r.2)),
          (λ r. has_stuck b' n k r.0 (same_set b b' n e r.0 r.1) r.2),
        )
