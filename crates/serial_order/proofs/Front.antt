-- The front of a serial order, one operation after another.
use Rattle.std.proofs.Common.{◌≡◌, ℕ, ◌<◌, Bool, true, not, List, [], ◌∷◌, ◌++◌, inl, inr, sym, subst, arith, None, Some}
use Rattle.std.specs.Prelude.{filter}
use Rattle.std.specs.List.{range_with_len}
use Rattle.std.proofs.lemmas.Bool.{not_from_false}
use Rattle.serial_order.specs.Lists.{Among, Earlier, EachOnce, has}
use Rattle.serial_order.specs.SerialOrder.{IsOrder, IsStuckSet, first_stuck}
use Rattle.serial_order.specs.Counts.{ones, unplaced_before}
use Rattle.serial_order.proofs.Members.{among_push, earlier_push, earlier_last, once_push, among_filter, filter_among, among_range, range_among, not_among, not_has}
use Rattle.serial_order.proofs.Counting.{zero_all, positive_one, one_true, true_one, not_true}
use Rattle.serial_order.proofs.Stuck.{has_stuck, not_stuck, first_none, first_some}

module _ (before : ℕ → ℕ → Bool) (n : ℕ) where
  -- operations in order, each after all that are before it, and none of them stuck
  pub record IsFront (order : List ℕ) : Type 0 where
    pub once : EachOnce order
    pub inside : (k : ℕ) → Among k order → k < n
    pub closed : (i j : ℕ) → i < n → Among j order → before i j ≡ true → Earlier order i j
    pub free : (k : ℕ) → Among k order → (set : List ℕ) → IsStuckSet before n set → Among k set → ⊥

  pub front_none : IsFront []
  front_none = record { once = tt; inside = λ k a. elim a [ ]; closed = λ i j lt a. elim a [ ]; free = λ k a. elim a [ ] }

  -- an operation can follow where all that are before it are placed
  pub front_more : (order : List ℕ) (x : ℕ) → IsFront order → x < n → (Among x order → ⊥) → ((i : ℕ) → i < n → before i x ≡ true → Among i order) → IsFront (order ++ x ∷ [])
  front_more order x f lt un after = record {
    once = once_push order x f.once un;
    inside = λ k a. elim (among_push order x k a) [ inl b ↦ f.inside k b | inr e ↦ subst (λ m. m < n) e lt ];
    closed = λ i j h a t. elim (among_push order x j a) [
      | inl b ↦ earlier_push order x i j (f.closed i j h b t)
      | inr e ↦ subst (Earlier (order ++ x ∷ []) i) e (earlier_last order x i (after i h (subst (λ m. before i m ≡ true) (sym e) t)))
    ];
    free = λ k a set s m. elim (among_push order x k a) [
      | inl b ↦ f.free k b set s m
      | inr e ↦ (let r = s.held x (subst (λ j. Among j set) (sym e) m) in f.free r.0 (after r.0 (s.inside r.0 r.1) r.2) set s r.1)
    ];
  }

  pub front_next : (order : List ℕ) (x : ℕ) → IsFront order → x < n → (Among x order → ⊥) → unplaced_before before order x n ≡ 0 → IsFront (order ++ x ∷ [])
  front_next order x f lt un e = front_more order x f lt un (λ i below t. zero_all (ones before) order x n e i below (true_one (before i x) t))

  -- all are placed
  pub front_order : (order : List ℕ) → IsFront order → ((k : ℕ) → k < n → Among k order) → IsOrder before n order
  front_order order f all = record {
    each_once = f.once;
    complete = λ k. (f.inside k, all k);
    kept = λ i j a b t. f.closed i j a (all j b) t;
  }

  pub front_first_none : (order : List ℕ) → IsFront order → ((k : ℕ) → k < n → Among k order) → first_stuck before n ≡ None
  front_first_none order f all = first_none before n (λ k lt. not_stuck before n k (f.free k (all k lt)))

  -- the operations that aren't placed
  abbrev pub left : List ℕ → List ℕ
  left order = filter (λ k. not (has k order)) (range_with_len 0 n)

  pub in_left : (order : List ℕ) (k : ℕ) → k < n → (Among k order → ⊥) → Among k (left order)
  in_left order k lt un = among_filter (λ i. not (has i order)) (range_with_len 0 n) k (not_from_false (has k order) (not_has k order un)) (among_range n k lt)

  -- where none of them can follow, they are a stuck set
  pub left_stuck : (order : List ℕ) → ((j : ℕ) → j < n → (Among j order → ⊥) → unplaced_before before order j n ≡ 0 → ⊥) → IsStuckSet before n (left order)
  left_stuck order none = record {
    inside = λ k a. range_among n k (filter_among (λ i. not (has i order)) (range_with_len 0 n) k a).0;
    held = λ j a.
        let m = filter_among (λ i. not (has i order)) (range_with_len 0 n) j a in
        let ne = none j (range_among n j m.0) (not_among j order (not_true (has j order) m.1)) in
        let r = positive_one (ones before) order j n (grind arith) in
        (r.0, in_left order r.0 r.1 r.3, one_true (before r.0 j) r.2);
  }

  -- the least of them is the first that is stuck
  pub front_first_some : (order : List ℕ) (i : ℕ) → IsFront order → ((j : ℕ) → j < n → (Among j order → ⊥) → unplaced_before before order j n ≡ 0 → ⊥) →
      i < n → (Among i order → ⊥) → ((k : ℕ) → k < i → Among k order) → first_stuck before n ≡ Some i
  front_first_some order i f none lt un least = first_some before n i (record {
    inside = lt;
    stuck = has_stuck before n i (left order) (left_stuck order none) (in_left order i lt un);
    least = λ k h. not_stuck before n k (f.free k (least k h));
  })
