-- Placing one operation after another, by counts and marks.
use Rattle.std.proofs.Common.{◌≡◌, ℕ, ◌+◌, ◌<◌, ◌≤◌, Bool, true, false, List, [], ◌∷◌, ◌++◌, length, inl, inr, sym, subst, ◌∙◌, None, Some, arith}
use Rattle.std.specs.Prelude.{slice_index, slice_index_or, slice_set}
use Rattle.std.proofs.lemmas.Bool.{cases_eq}
use Rattle.std.proofs.lemmas.List.{length-set, get_or-set_same, get_or-set_other}
use Rattle.serial_order.specs.Lists.{Among, has}
use Rattle.serial_order.specs.SerialOrder.{IsOrder, first_stuck}
use Rattle.serial_order.specs.Counts.{one_where, ones, unplaced_before}
use Rattle.serial_order.proofs.Members.{has_among, not_among, not_has, has_push_same, has_push_other}
use Rattle.serial_order.proofs.Counting.{count_placed}
use Rattle.serial_order.proofs.Front.{IsFront, front_next, front_order, front_first_none, front_first_some}

module _ (before : ℕ → ℕ → Bool) (n : ℕ) where
  -- those in the order are marked, each is counted off from those that it is before, and the order is right so far
  pub record IsProgress (counts : List ℕ) (marks : List Bool) (order : List ℕ) : Type 0 where
    pub counts_size : length counts ≡ n
    pub marks_size : length marks ≡ n
    pub counted : (j : ℕ) → j < n → slice_index counts j ≡ unplaced_before before order j n
    pub marked : (j : ℕ) → j < n → slice_index_or marks j true ≡ has j order
    pub front : IsFront before n order

  module _ (counts : List ℕ) (marks : List Bool) (order : List ℕ) (p : IsProgress counts marks order) where
    unmarked : (i : ℕ) → i < n → slice_index_or marks i true ≡ false → Among i order → ⊥
    unmarked i lt e = not_among i order (sym (p.marked i lt) ∙ e)

    -- what is taken off was counted
    pub enough : (i : ℕ) → i < n → slice_index_or marks i true ≡ false → (j : ℕ) → j < n → one_where (before i j) ≤ slice_index counts j
    enough i lt e j within =
        let c = count_placed (ones before) order i j n (unmarked i lt e) lt in
        let d = p.counted j within in
        omega arith

    -- fewer are left
    pub fewer : (i : ℕ) → i < n → slice_index_or marks i true ≡ false → unplaced_before (λ a b. true) (order ++ i ∷ []) 0 n < unplaced_before (λ a b. true) order 0 n
    fewer i lt e = let c = count_placed (ones (λ a b. true)) order i 0 n (unmarked i lt e) lt in omega arith

    pub step : (i : ℕ) → i < n → slice_index_or marks i true ≡ false → slice_index counts i ≡ 0 → (counts' : List ℕ) → length counts' ≡ length counts →
        ((j : ℕ) → j < n → slice_index counts' j + one_where (before i j) ≡ slice_index counts j) → IsProgress counts' (slice_set marks i true) (order ++ i ∷ [])
    step i lt e z counts' size off = record {
      counts_size = size ∙ p.counts_size;
      marks_size = length-set marks i true ∙ p.marks_size;
      counted = λ j within.
          let c = count_placed (ones before) order i j n (unmarked i lt e) lt in
          let d = p.counted j within in
          let o = off j within in
          omega arith;
      marked = λ j within. elim (cases_eq j i) [
        | inl same ↦ subst (λ k. slice_index_or (slice_set marks i true) k true ≡ has k (order ++ i ∷ [])) (sym same)
            (get_or-set_same marks i true true (let s = p.marks_size in omega arith) ∙ sym (has_push_same order i))
        | inr ne ↦ get_or-set_other marks i j true true ne ∙ p.marked j within ∙ sym (has_push_other order i j ne)
      ];
      front = front_next before n order i p.front lt (unmarked i lt e) (sym (p.counted i lt) ∙ z);
    }

    -- where all are marked
    all : ((k : ℕ) → k < length marks → slice_index_or marks k true ≡ true) → (k : ℕ) → k < n → Among k order
    all f k lt = has_among k order (sym (p.marked k lt) ∙ f k (let s = p.marks_size in omega arith))

    pub all_order : ((k : ℕ) → k < length marks → slice_index_or marks k true ≡ true) → IsOrder before n order
    all_order f = front_order before n order p.front (all f)

    pub all_none : ((k : ℕ) → k < length marks → slice_index_or marks k true ≡ true) → first_stuck before n ≡ None
    all_none f = front_first_none before n order p.front (all f)

    -- where none can follow, and i is the least that isn't marked
    pub least_first : ((k : ℕ) → k < length counts → slice_index_or marks k true ≡ false → slice_index counts k ≡ 0 → ⊥) → (i : ℕ) → i < n → slice_index_or marks i true ≡ false →
        ((k : ℕ) → k < i → slice_index_or marks k true ≡ true) → first_stuck before n ≡ Some i
    least_first none i lt e least =
        front_first_some before n order i p.front
        (λ j within un z. none j (let s = p.counts_size in omega arith) (p.marked j within ∙ not_has j order un) (p.counted j within ∙ z))
        lt (unmarked i lt e) (λ k below. has_among k order (sym (p.marked k (omega arith)) ∙ least k below))
