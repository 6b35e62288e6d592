-- The queue of operations: its entries, and which is the first.
use Rattle.std.proofs.Common.{◌≡◌, ℕ, suc, ◌+◌, ◌<◌, ◌≤◌, Bool, true, false, cond, ◌&&◌, List, [], ◌∷◌, length, map, ◌⊎◌, inl, inr, refl, sym, ap, subst, ◌∙◌, arith}
use Rattle.std.specs.Prelude.{slice_index, nat_eq, nat_lt, IsPermutation}
use Rattle.std.specs.List.{All, Contains}
use Rattle.std.specs.Ordering.{is_lt}
use Rattle.std.specs.BinaryHeap.{IsUpperBound, IsHeap}
use Rattle.std.proofs.lemmas.Bool.{cases_lt, cases_eq, ne_eqb, eq-eqb, lt-ltb, le-ltb, false≢true}
use Rattle.std.proofs.lemmas.List.Elements.{All-contains, All-from_recursion, All-head, All-tail, All-cons}
use Rattle.std.proofs.lemmas.List.Sorted.{All-permutation, sum_by_pushed, sum_by_popped}
use Rattle.std.proofs.lemmas.Grind.{common_steps}
use Rattle.serial_order.specs.Lists.{Among, EachOnce}
use Rattle.serial_order.specs.Counts.{one_where}
use Rattle.operation.specs.declared.UnitKind.{UnitKind}
use Rattle.operation.specs.declared.LatKind.{LatKind}
use Rattle.list_sched.specs.Queue.{Entry, IsQueue, IsMore, Beats, IsFirst, entries_of, entry_cmp, is_branch, can_go}
use Rattle.list_sched.proofs.Counts.{count_cons}
use Rattle.list_sched.proofs.Outs.{below, lt_below}
use Rattle.list_sched.proofs.Short.{length-below}
use Rattle.list_sched.proofs.Steps.{once_within}

-- ---- entries

entries_cons : (e : Entry) (queue : List Entry) (j : ℕ) → entries_of (e ∷ queue) j ≡ cond (nat_eq e.1.0 j) 1 0 + entries_of queue j
entries_cons e queue j = count_cons (λ (x : Entry). nat_eq x.1.0 j) e queue

-- an operation that is counted has an entry
pub entry_of : (queue : List Entry) (j : ℕ) → 0 < entries_of queue j → (e : Entry) × Contains queue e × (e.1.0 ≡ j)
entry_of [] j more = absurd (omega arith)
entry_of (e ∷ queue) j more = go (cases_eq e.1.0 j) (entry_of queue j)
  where
    go : (e.1.0 ≡ j) ⊎ (e.1.0 ≡ j → ⊥) → (0 < entries_of queue j → (x : Entry) × Contains queue x × (x.1.0 ≡ j)) → (x : Entry) × Contains (e ∷ queue) x × (x.1.0 ≡ j)
    go (inl same) r = (e, (0, omega arith, refl), same)
    go (inr other) r =
        let none : cond {A = ℕ} (nat_eq e.1.0 j) 1 0 ≡ 0 = ap (λ b. cond {A = ℕ} b 1 0) (ne_eqb e.1.0 j other) in
        let c = entries_cons e queue j in
        let x = r (omega arith) in
        (x.0, (suc x.1.0, (let lt = x.1.1 in omega arith), x.1.2), x.2)

-- the numbers of the operations
abbrev pub numbers : List Entry → List ℕ
numbers queue = map (λ (e : Entry). e.1.0) queue

among_counted : (queue : List Entry) (j : ℕ) → Among j (numbers queue) → 0 < entries_of queue j
among_counted [] j a = elim a [ ]
among_counted (e ∷ queue) j (inl same) =
    let one : cond {A = ℕ} (nat_eq e.1.0 j) 1 0 ≡ 1 = ap (λ b. cond {A = ℕ} b 1 0) (eq-eqb e.1.0 j same) in
    let c = entries_cons e queue j in
    omega arith
among_counted (e ∷ queue) j (inr a) = let r = among_counted queue j a in let c = entries_cons e queue j in omega arith

numbers_once : (queue : List Entry) → ((j : ℕ) → entries_of queue j ≤ 1) → EachOnce (numbers queue)
numbers_once [] once = tt
numbers_once (e ∷ queue) once = (
  λ a.
      (let r = among_counted queue e.1.0 a in
      let one : cond {A = ℕ} (nat_eq e.1.0 e.1.0) 1 0 ≡ 1 = ap (λ b. cond {A = ℕ} b 1 0) (eq-eqb e.1.0 e.1.0 refl) in
      let c = entries_cons e queue e.1.0 in
      let o = once e.1.0 in
      omega arith),
  numbers_once queue (λ j. let c = entries_cons e queue j in let o = once j in omega arith),
)

among_high : (n : ℕ) (queue : List Entry) → All (λ (e : Entry). e.1.0 < n) queue → (j : ℕ) → Among j (numbers queue) → j < n
among_high n [] high j a = elim a [ ]
among_high n (e ∷ queue) high j (inl same) = subst (λ m. m < n) same (All-head (λ (x : Entry). x.1.0 < n) e queue high)
among_high n (e ∷ queue) high j (inr a) = among_high n queue (All-tail (λ (x : Entry). x.1.0 < n) e queue high) j a

-- an entry's number and height
abbrev pub High : List ℕ → Entry → Type 0
High heights e = (e.1.0 < length heights) × (e.0 ≡ slice_index heights e.1.0)

module _ (heights : List ℕ) (queue : List Entry) (q : IsQueue heights queue) where
  pub entry_inside : (j : ℕ) → 0 < entries_of queue j → j < length heights
  entry_inside j more =
      let e = entry_of queue j more in
      let f = All-contains (High heights) queue e.0 q.high e.1 in
      subst (λ m. m < length heights) e.2 f.0

  -- there is room for one more
  pub room_for : (i : ℕ) → i < length heights → entries_of queue i ≡ 0 → length queue + 1 ≤ length heights
  room_for i lt none =
      let once = numbers_once queue q.once in
      let new : Among i (numbers queue) → ⊥ = λ a. (let m = among_counted queue i a in omega arith) in
      let w = once_within (i ∷ numbers queue) (below (length heights)) (new, once) (λ k a. lt_below (length heights) k (inside k a)) in
      let z = length-below (length heights) in
      let m : length (numbers queue) ≡ length queue = grind (arith, common_steps) in
      omega arith
    where
      inside : (k : ℕ) → Among k (i ∷ numbers queue) → k < length heights
      inside k (inl e) = subst (λ m. m < length heights) e lt
      inside k (inr a) = among_high (length heights) queue (λ j d below. (q.high j d below).0) k a

  -- ---- the first

  cmp_beats : (x y : Entry) → is_lt (entry_cmp x y) ≡ false → (y.0 < x.0) ⊎ ((y.0 ≡ x.0) × (x.1.0 ≤ y.1.0))
  cmp_beats x y e = go (cases_lt x.0 y.0) (cases_eq x.0 y.0) (cases_lt y.1.0 x.1.0)
    where
      go : (x.0 < y.0) ⊎ (y.0 ≤ x.0) → (x.0 ≡ y.0) ⊎ (x.0 ≡ y.0 → ⊥) → (y.1.0 < x.1.0) ⊎ (x.1.0 ≤ y.1.0) → (y.0 < x.0) ⊎ ((y.0 ≡ x.0) × (x.1.0 ≤ y.1.0))
      go (inl lt) s t = absurd (false≢true (sym e ∙ (rw (lt-ltb x.0 y.0 lt) refl)))
      go (inr ge) (inr ne) t = inl (omega arith)
      go (inr ge) (inl same) (inr le) = inr (sym same, le)
      go (inr ge) (inl same) (inl lt) = absurd (false≢true (sym e ∙ (rw (le-ltb x.0 y.0 ge, eq-eqb x.0 y.0 same, lt-ltb y.1.0 x.1.0 lt) refl)))

  pub first_of : (x : Entry) (new : List Entry) → Contains queue x → IsPermutation queue (x ∷ new) → IsUpperBound entry_cmp x queue → IsFirst heights queue new x.1.0
  first_of x new there moved bound = record {
    more = λ j. sym (sum_by_popped (λ (e : Entry). cond {A = ℕ} (nat_eq e.1.0 j) 1 0) x queue new moved);
    first = λ k more.
        let e = entry_of queue k more in
        let low = All-contains (λ (y : Entry). is_lt (entry_cmp x y) ≡ false) queue e.0 (All-from_recursion (λ (y : Entry). is_lt (entry_cmp x y) ≡ false) queue bound) e.1 in
        let own = All-contains (High heights) queue x q.high there in
        let other = All-contains (High heights) queue e.0 q.high e.1 in
        beats k e.0 e.2 own.1 other.1 (cmp_beats x e.0 low);
  }
    where
      beats : (k : ℕ) (y : Entry) → y.1.0 ≡ k → x.0 ≡ slice_index heights x.1.0 → y.0 ≡ slice_index heights y.1.0 → (y.0 < x.0) ⊎ ((y.0 ≡ x.0) × (x.1.0 ≤ y.1.0)) → Beats heights x.1.0 k
      beats k y same own other b = subst (Beats heights x.1.0) same (elim b [ inl lt ↦ inl (omega arith) | inr e ↦ inr ((let f = e.0 in omega arith), e.1) ])

  -- without the first it is a queue still
  pub popped_queue : (x : Entry) (new : List Entry) → IsPermutation queue (x ∷ new) → IsHeap entry_cmp new → IsQueue heights new
  popped_queue x new moved heap = record {
    ordered = heap;
    high = All-tail (High heights) x new (All-permutation (High heights) queue (x ∷ new) moved q.high);
    once = λ j. let e = sum_by_popped (λ (e : Entry). cond {A = ℕ} (nat_eq e.1.0 j) 1 0) x queue new moved in let o = q.once j in omega arith;
  }

  -- and with one more operation
  module _ (i : ℕ) (lt : i < length heights) (none : entries_of queue i ≡ 0) (x : Entry) (number : x.1.0 ≡ i) (height : x.0 ≡ slice_index heights i) (new : List Entry) (moved : IsPermutation (x ∷ queue) new) where
    pub pushed_more : IsMore queue i new
    pushed_more j =
        let e = sum_by_pushed (λ (e : Entry). cond {A = ℕ} (nat_eq e.1.0 j) 1 0) x queue new moved in
        let n = ap (λ m. cond {A = ℕ} (nat_eq m j) 1 0) number in
        omega arith

    pub pushed_queue : IsHeap entry_cmp new → IsQueue heights new
    pushed_queue heap = record {
      ordered = heap;
      high = All-permutation (High heights) (x ∷ queue) new moved (All-cons (High heights) x queue ((let n = number in omega arith), height ∙ ap (slice_index heights) (sym number)) q.high);
      once = λ j. elim (cases_eq i j) [
        | inl e ↦ (let m = pushed_more j in let one = ap one_where (eq-eqb i j e) in let z = subst (λ k. entries_of queue k ≡ 0) e none in omega arith)
        | inr ne ↦ (let m = pushed_more j in let zero = ap one_where (ne_eqb i j ne) in let o = q.once j in omega arith)
      ];
    }

-- ---- those that are ready, up to one operation and with it

module _ (f : ℕ → Bool) (i : ℕ) (e : ℕ → ℕ) (so_far : (j : ℕ) → e j ≡ one_where (nat_lt j i && f j)) where
  pub ready_more : f i ≡ true → (e' : ℕ → ℕ) → ((j : ℕ) → e' j ≡ e j + one_where (nat_eq i j)) → (j : ℕ) → e' j ≡ one_where (nat_lt j (i + 1) && f j)
  ready_more t e' more j = go (cases_eq i j) (cases_lt j i)
    where
      go : (i ≡ j) ⊎ (i ≡ j → ⊥) → (j < i) ⊎ (i ≤ j) → e' j ≡ one_where (nat_lt j (i + 1) && f j)
      go (inl s) lt =
          let m = more j in
          let one = ap one_where (eq-eqb i j s) in
          let none = so_far j ∙ ap (λ b. one_where (b && f j)) (le-ltb j i (omega arith)) in
          let now : one_where (nat_lt j (i + 1) && f j) ≡ 1 = (rw (lt-ltb j (i + 1) (omega arith), sym (ap f s), t) refl) in
          omega arith
      go (inr ne) (inl lt) =
          let m = more j in
          let zero = ap one_where (ne_eqb i j ne) in
          let was = so_far j ∙ ap (λ b. one_where (b && f j)) (lt-ltb j i lt ∙ sym (lt-ltb j (i + 1) (omega arith))) in
          omega arith
      go (inr ne) (inr ge) =
          let m = more j in
          let zero = ap one_where (ne_eqb i j ne) in
          let was = so_far j ∙ ap (λ b. one_where (b && f j)) (le-ltb j i ge ∙ sym (le-ltb j (i + 1) (omega arith))) in
          omega arith

  pub ready_same : f i ≡ false → (j : ℕ) → e j ≡ one_where (nat_lt j (i + 1) && f j)
  ready_same t j = so_far j ∙ go (cases_eq i j) (cases_lt j i)
    where
      off : (b : Bool) → (b && false) ≡ false
      off true = refl
      off false = refl

      go : (i ≡ j) ⊎ (i ≡ j → ⊥) → (j < i) ⊎ (i ≤ j) → one_where (nat_lt j i && f j) ≡ one_where (nat_lt j (i + 1) && f j)
      go (inl s) lt = ap one_where (ap (λ b. nat_lt j i && b) (ap f (sym s) ∙ t) ∙ off (nat_lt j i) ∙ sym (off (nat_lt j (i + 1))) ∙ ap (λ b. nat_lt j (i + 1) && b) (sym (ap f (sym s) ∙ t)))
      go (inr ne) (inl lt) = ap (λ b. one_where (b && f j)) (lt-ltb j i lt ∙ sym (lt-ltb j (i + 1) (omega arith)))
      go (inr ne) (inr ge) = ap (λ b. one_where (b && f j)) (le-ltb j i ge ∙ sym (le-ltb j (i + 1) (omega arith)))

-- ---- who can go

pub goes : (kinds : List (UnitKind × LatKind)) (waits : List ℕ) (i : ℕ) → slice_index waits i ≡ 0 → is_branch kinds i ≡ false → can_go kinds waits i ≡ true
goes kinds waits i none straight = rw (eq-eqb (slice_index waits i) 0 none, straight) refl

pub stays : (kinds : List (UnitKind × LatKind)) (waits : List ℕ) (i : ℕ) → (slice_index waits i ≡ 0 → ⊥) ⊎ (is_branch kinds i ≡ true) → can_go kinds waits i ≡ false
stays kinds waits i (inl some) = rw (ne_eqb (slice_index waits i) 0 some) refl
stays kinds waits i (inr b) = rw b (off (nat_eq (slice_index waits i) 0))
  where
    off : (c : Bool) → (c && false) ≡ false
    off true = refl
    off false = refl
