-- Links: what they say of delays, and how many lead to an operation.
use Rattle.std.proofs.Common.{◌≡◌, ◌≢◌, ℕ, zero, suc, ◌+◌, ◌-◌, ◌<◌, ◌≤◌, ◌||◌, Bool, true, false, cond, List, [], ◌∷◌, ◌++◌, length, take, drop, ◌⊎◌, inl, inr, refl, sym, ap, subst, ◌∙◌, arith, length-take, take-append-drop, Option, Some, None}
use Rattle.std.specs.Prelude.{nat_eq, ℤ, ◌≤ℤ◌, int_lt, is_some, slice_index}
use Rattle.std.specs.List.{Contains, list_any}
use Rattle.std.specs.Int.{int_max}
use Rattle.std.proofs.lemmas.Int.{ints, int_max_is}
use Rattle.std.proofs.lemmas.Bool.{cases_eq, ne_eqb, eq-eqb, false≢true}
use Rattle.std.proofs.lemmas.List.Sums.{sum_by-cons, sum_by-append, count_by-le-length}
use Rattle.block_links.specs.declared.links.Link.{Link}
use Rattle.block_links.specs.declared.links.Links.{Links}
use Rattle.block_links.specs.Links.{greater, delay_of, delay_to, count_to, row, is_linked, delay_along}

-- ---- one link

pub here : (l : Link) (ls : List Link) → Contains (l ∷ ls) l
here l ls = (0, omega arith, refl)

pub later : (l k : Link) (ls : List Link) → Contains ls k → Contains (l ∷ ls) k
later l k ls c = (suc c.0, (let lt = c.1 in omega arith), c.2)

greater_own : (d : ℤ) (o : Option ℤ) → d ≤ℤ greater d o
greater_own d None = omega (arith, ints)
greater_own d (Some e) = let m = int_max_is d e in omega (arith, ints)

greater_other : (d e : ℤ) → e ≤ℤ greater d (Some e)
greater_other d e = let m = int_max_is d e in omega (arith, ints)

greater_one : (d : ℤ) (o : Option ℤ) → (greater d o ≡ d) ⊎ ((e : ℤ) × (o ≡ Some e) × (greater d o ≡ e))
greater_one d None = inl refl
greater_one d (Some e) = go (int_lt e d) refl
  where
    go : (b : Bool) → int_lt e d ≡ b → (int_max d e ≡ d) ⊎ ((f : ℤ) × (Some e ≡ Some f) × (int_max d e ≡ f))
    go true h = inl (rw h refl)
    go false h = inr (e, refl, rw h refl)

-- ---- the delay by links

module _ (latency : ℕ → ℕ) (i : ℕ) where
  abbrev delays : List Link → ℕ → Option ℤ
  delays = delay_to latency i

  abbrev own : Link → ℤ
  own = delay_of latency i

  -- a link's delay is at most that of its operations
  pub at_most : (ls : List Link) (l : Link) → Contains ls l → (d : ℤ) × (delay_to latency i ls l.to ≡ Some d) × (delay_of latency i l ≤ℤ d)
  unfolding delay_to
  at_most [] l c = absurd (let lt = c.1 in omega arith)
  at_most (k ∷ ks) l (zero, lt, e) = subst (λ (m : Link). (d : ℤ) × (delays (k ∷ ks) m.to ≡ Some d) × (own m ≤ℤ d)) e
      (greater (own k) (delays ks k.to), rw (eq-eqb k.to k.to refl) refl, greater_own (own k) (delays ks k.to))
  at_most (k ∷ ks) l (suc n, lt, e) = go (cases_eq k.to l.to) (at_most ks l (n, omega arith, e))
    where
      go : (k.to ≡ l.to) ⊎ (k.to ≡ l.to → ⊥) → (d : ℤ) × (delays ks l.to ≡ Some d) × (own l ≤ℤ d) → (d : ℤ) × (delays (k ∷ ks) l.to ≡ Some d) × (own l ≤ℤ d)
      go (inl s) r = (
        greater (own k) (Some r.0),
        rw (eq-eqb k.to l.to s) (ap (λ o. Some (greater (own k) o)) r.1),
        (let g = greater_other (own k) r.0 in let m = r.2 in omega (arith, ints)),
      )
      go (inr f) r = (r.0, rw (ne_eqb k.to l.to f) r.1, r.2)

  -- and one link has it
  pub one_has : (ls : List Link) (j : ℕ) (d : ℤ) → delay_to latency i ls j ≡ Some d → (l : Link) × Contains ls l × (l.to ≡ j) × (delay_of latency i l ≡ d)
  unfolding delay_to
  one_has [] j d e = absurd (let k : ⊥ = cc in k)
  one_has (k ∷ ks) j d e = go (cases_eq k.to j) (one_has ks j)
    where
      again : ((l : Link) × Contains ks l × (l.to ≡ j) × (own l ≡ d)) → (l : Link) × Contains (k ∷ ks) l × (l.to ≡ j) × (own l ≡ d)
      again r = (r.0, later k r.0 ks r.1, r.2, r.3)

      go : (k.to ≡ j) ⊎ (k.to ≡ j → ⊥) → ((x : ℤ) → delays ks j ≡ Some x → (l : Link) × Contains ks l × (l.to ≡ j) × (own l ≡ x)) →
          (l : Link) × Contains (k ∷ ks) l × (l.to ≡ j) × (own l ≡ d)
      go (inr f) r = again (r d (subst (λ b. cond b (Some (greater (own k) (delays ks j))) (delays ks j) ≡ Some d) (ne_eqb k.to j f) e))
      go (inl s) r =
          let h : Some (greater (own k) (delays ks j)) ≡ Some d = subst (λ b. cond b (Some (greater (own k) (delays ks j))) (delays ks j) ≡ Some d) (eq-eqb k.to j s) e in
          let same : greater (own k) (delays ks j) ≡ d = cc in
          elim (greater_one (own k) (delays ks j)) [
            | inl o ↦ (k, here k ks, s, sym o ∙ same)
            | inr o ↦ again (r d (o.1 ∙ ap Some (sym o.2 ∙ same)))
          ]

  -- there is a delay exactly where links lead to an operation
  pub delay_linked : (ls : List Link) (j : ℕ) → is_some (delay_to latency i ls j) ≡ list_any (λ (k : Link). nat_eq k.to j) ls
  unfolding delay_to
  delay_linked [] j = refl
  delay_linked (k ∷ ks) j = go (nat_eq k.to j) (delay_linked ks j)
    where
      go : (b : Bool) → is_some (delays ks j) ≡ list_any (λ (l : Link). nat_eq l.to j) ks →
          is_some (cond b (Some (greater (own k) (delays ks j))) (delays ks j)) ≡ (b || list_any (λ (l : Link). nat_eq l.to j) ks)
      go true r = refl
      go false r = r

  -- ---- one more link

  pub push_other : (ls : List Link) (l : Link) (j : ℕ) → l.to ≢ j → delay_to latency i (ls ++ l ∷ []) j ≡ delay_to latency i ls j
  unfolding delay_to
  push_other [] l j ne = rw (ne_eqb l.to j ne) refl
  push_other (k ∷ ks) l j ne = ap (λ o. cond (nat_eq k.to j) (Some (greater (own k) o)) o) (push_other ks l j ne)

  pub push_first : (ls : List Link) (l : Link) → delay_to latency i ls l.to ≡ None → delay_to latency i (ls ++ l ∷ []) l.to ≡ Some (delay_of latency i l)
  unfolding delay_to
  push_first [] l e = rw (eq-eqb l.to l.to refl) refl
  push_first (k ∷ ks) l e = go (cases_eq k.to l.to) (push_first ks l)
    where
      go : (k.to ≡ l.to) ⊎ (k.to ≡ l.to → ⊥) → (delays ks l.to ≡ None → delays (ks ++ l ∷ []) l.to ≡ Some (own l)) → delays (k ∷ (ks ++ l ∷ [])) l.to ≡ Some (own l)
      go (inl s) r = absurd (
          let h = subst (λ b. cond b (Some (greater (own k) (delays ks l.to))) (delays ks l.to) ≡ None) (eq-eqb k.to l.to s) e in
          let x : ⊥ = cc in x)
      go (inr f) r = rw (ne_eqb k.to l.to f) (r (subst (λ b. cond b (Some (greater (own k) (delays ks l.to))) (delays ks l.to) ≡ None) (ne_eqb k.to l.to f) e))

pub along_linked : (latency : ℕ → ℕ) (l : Links) (i j : ℕ) → is_some (delay_along latency l i j) ≡ is_linked l i j
along_linked latency l i j = delay_linked latency i (row l i) j

-- ---- counts

-- links lead to an operation exactly where they are counted
pub counted_linked : (ls : List Link) (j : ℕ) → 0 < count_to ls j → list_any (λ (k : Link). nat_eq k.to j) ls ≡ true
counted_linked [] j h = absurd (omega arith)
counted_linked (k ∷ ks) j h = go (nat_eq k.to j) (sum_by-cons (λ (l : Link). cond (nat_eq l.to j) 1 0) k ks) (counted_linked ks j)
  where
    go : (b : Bool) → count_to (k ∷ ks) j ≡ cond b 1 0 + count_to ks j → (0 < count_to ks j → list_any (λ (l : Link). nat_eq l.to j) ks ≡ true) → (b || list_any (λ (l : Link). nat_eq l.to j) ks) ≡ true
    go true c r = refl
    go false c r = r (omega arith)

pub linked_counted : (ls : List Link) (j : ℕ) → list_any (λ (k : Link). nat_eq k.to j) ls ≡ true → 0 < count_to ls j
linked_counted [] j h = absurd (false≢true h)
linked_counted (k ∷ ks) j h = go (nat_eq k.to j) (sum_by-cons (λ (l : Link). cond (nat_eq l.to j) 1 0) k ks) (linked_counted ks j) h
  where
    go : (b : Bool) → count_to (k ∷ ks) j ≡ cond b 1 0 + count_to ks j → (list_any (λ (l : Link). nat_eq l.to j) ks ≡ true → 0 < count_to ks j) → (b || list_any (λ (l : Link). nat_eq l.to j) ks) ≡ true → 0 < count_to (k ∷ ks) j
    go true c r t = omega arith
    go false c r t = let m = r t in omega arith

pub count_push : (ls : List Link) (l : Link) (j : ℕ) → count_to (ls ++ l ∷ []) j ≡ count_to ls j + cond (nat_eq l.to j) 1 0
count_push ls l j = let e = sum_by-append (λ (k : Link). cond (nat_eq k.to j) 1 0) ls (l ∷ []) in e ∙ (omega arith)

pub count_short : (links : List Link) (j : ℕ) → count_to links j ≤ length links
count_short links j = count_by-le-length (λ (l : Link). nat_eq l.to j) links

pub count_take : (links : List Link) (m j : ℕ) → count_to (take m links) j ≤ count_to links j
count_take links m j =
    let e = sum_by-append (λ (k : Link). cond (nat_eq k.to j) 1 0) (take m links) (drop m links) in
    let s = ap (λ l. count_to l j) (take-append-drop m links) in
    omega arith

-- a row is as long as the numbers say at the most
pub row_short : (l : Links) (i : ℕ) → length (row l i) ≤ slice_index l.starts.items (i + 1) - slice_index l.starts.items i
row_short l i =
    let a = length-take (slice_index l.starts.items (i + 1) - slice_index l.starts.items i) (drop (slice_index l.starts.items i) l.links.items) in
    omega arith
