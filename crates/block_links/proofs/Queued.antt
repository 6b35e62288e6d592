-- The order as its own queue: the links of the first so many operations were followed.
use Rattle.std.proofs.Common.{◌≡◌, ℕ, ◌+◌, ◌<◌, ◌≤◌, Bool, true, List, [], ◌∷◌, ◌++◌, length, take, get_or, inl, inr, refl, sym, ap, subst, ◌∙◌, arith, append-nil, append_assoc, None, Some}
use Rattle.std.specs.Prelude.{slice_index}
use Rattle.std.proofs.lemmas.Bool.{cases_lt}
use Rattle.std.proofs.lemmas.List.{take_more}
use Rattle.std.proofs.Math.Seq.{take-append-le, take_all}
use Rattle.serial_order.specs.Lists.{Among, EachOnce}
use Rattle.serial_order.specs.SerialOrder.{IsOrder, first_stuck}
use Rattle.serial_order.specs.Counts.{waiting, ones, unplaced_before}
use Rattle.serial_order.proofs.Members.{among_left}
use Rattle.serial_order.proofs.Counting.{count_placed, zero_all, positive_one, true_one}
use Rattle.serial_order.proofs.Front.{IsFront, front_none, front_more, front_order, front_first_none, front_first_some}
use Rattle.block_links.specs.declared.links.Links.{Links}
use Rattle.block_links.specs.Links.{row, is_linked}
use Rattle.block_links.specs.Idle.{AreIdle}
use Rattle.block_links.proofs.Rows.{counted_linked, linked_counted}
use Rattle.block_links.proofs.Counted.{links_of}
use Rattle.block_links.proofs.Idle.{among_take, once_apart, at_among, at_new, idle_inside}

-- several operations can follow, each after those that stand
pub front_many : (before : ℕ → ℕ → Bool) (n : ℕ) (order more : List ℕ) → IsFront before n order → EachOnce (order ++ more) → ((y : ℕ) → Among y more → y < n) →
    ((y : ℕ) → Among y more → (i : ℕ) → i < n → before i y ≡ true → Among i order) → IsFront before n (order ++ more)
front_many before n order [] f o inside after = subst (IsFront before n) (sym (append-nil order)) f
front_many before n order (y ∷ ys) f o inside after =
    subst (IsFront before n) split
    (front_many before n (order ++ y ∷ []) ys (front_more before n order y f (inside y (inl refl)) (once_apart order y ys o) (after y (inl refl)))
    (subst EachOnce (sym split) o) (λ k a. inside k (inr a)) (λ k a i lt t. among_left order y i (after k (inr a) i lt t)))
  where
    split : (order ++ y ∷ []) ++ ys ≡ order ++ y ∷ ys
    split = append_assoc order (y ∷ []) ys

module _ (l : Links) (n : ℕ) where
  pub record IsQueued (next : ℕ) (waits order : List ℕ) : Type 0 where
    pub size : length waits ≡ n
    pub counted : (j : ℕ) → slice_index waits j ≡ waiting (links_of l) (take next order) j n
    pub idle : AreIdle n waits order
    pub front : IsFront (is_linked l) n order

  -- at first those that no link leads to
  pub queued_first : (waits order : List ℕ) → length waits ≡ n → ((j : ℕ) → slice_index waits j ≡ waiting (links_of l) [] j n) → AreIdle n waits order → IsQueued 0 waits order
  queued_first waits order size counted idle = record {
    size = size;
    counted = λ j. counted j ∙ ap (λ list. waiting (links_of l) list j n) (sym (nothing order));
    idle = idle;
    front =
        front_many (is_linked l) n [] order (front_none (is_linked l) n) idle.once (idle_inside n waits order idle)
        (λ y a i lt t. zero_all (links_of l) [] y n (sym (counted y) ∙ ((idle.all y).0 a).1) i lt (linked_counted (row l i) y t));
  }
    where
      nothing : (list : List ℕ) → take 0 list ≡ []
      nothing [] = refl
      nothing (x ∷ xs) = refl

  module _ (next : ℕ) (waits order : List ℕ) (q : IsQueued next waits order) where
    abbrev x : ℕ
    x = get_or order next 0

    module _ (lt : next < length order) where
      pub next_inside : x < n
      next_inside = idle_inside n waits order q.idle x (at_among order next lt)

      placing : (j : ℕ) → waiting (links_of l) (take (next + 1) order) j n + links_of l x j ≡ slice_index waits j
      placing j =
          ap (λ list. waiting (links_of l) list j n + links_of l x j) (take_more order next 0 lt)
          ∙ count_placed (links_of l) (take next order) x j n (at_new order next lt q.idle.once) next_inside
          ∙ sym (q.counted j)

      -- what is taken off was counted
      pub enough : (j : ℕ) → links_of l x j ≤ slice_index waits j
      enough j = let p = placing j in omega arith

      pub queued_more : (waits' more : List ℕ) → length waits' ≡ length waits → ((j : ℕ) → slice_index waits' j + links_of l x j ≡ slice_index waits j) →
          AreIdle n waits' (order ++ more) → IsQueued (next + 1) waits' (order ++ more)
      queued_more waits' more size off idle = record {
        size = size ∙ q.size;
        counted = λ j. left j ∙ ap (λ list. waiting (links_of l) list j n) (sym front_same);
        idle = idle;
        front =
            front_many (is_linked l) n order more q.front idle.once (λ y a. idle_inside n waits' (order ++ more) idle y (behind order y a))
            (λ y a i below t.
            among_take (next + 1) order i (zero_all (links_of l) (take (next + 1) order) y n (sym (left y) ∙ ((idle.all y).0 (behind order y a)).1) i below (linked_counted (row l i) y t)));
      }
        where
          front_same : take (next + 1) (order ++ more) ≡ take (next + 1) order
          front_same = take-append-le (next + 1) order more (omega arith)

          left : (j : ℕ) → slice_index waits' j ≡ waiting (links_of l) (take (next + 1) order) j n
          left j = let o = off j in let p = placing j in omega arith

          behind : (xs : List ℕ) (y : ℕ) → Among y more → Among y (xs ++ more)
          behind [] y a = a
          behind (z ∷ zs) y a = inr (behind zs y a)

    module _ (all : length order ≤ next) where
      whole : take next order ≡ order
      whole = take_all next order all

      -- where none waits all are in order
      pub queued_order : ((j : ℕ) → slice_index waits j ≡ 0) → IsOrder (is_linked l) n order
      queued_order none = front_order (is_linked l) n order q.front (λ k lt. (q.idle.all k).1 (lt, none k))

      pub queued_none : ((j : ℕ) → slice_index waits j ≡ 0) → first_stuck (is_linked l) n ≡ None
      queued_none none = front_first_none (is_linked l) n order q.front (λ k lt. (q.idle.all k).1 (lt, none k))

      -- an operation that waits does so for one that isn't in order
      none_follows : (j : ℕ) → j < n → (Among j order → ⊥) → unplaced_before (is_linked l) order j n ≡ 0 → ⊥
      none_follows j lt un e = elim (cases_lt 0 (slice_index waits j)) [
        | inr z ↦ un ((q.idle.all j).1 (lt, omega arith))
        | inl some ↦
            (let c = q.counted j ∙ ap (λ list. waiting (links_of l) list j n) whole in
            let p = positive_one (links_of l) order j n (omega arith) in
            p.3 (zero_all (ones (is_linked l)) order j n e p.0 p.1 (true_one (is_linked l p.0 j) (counted_linked (row l p.0) j p.2))))
      ]

      -- and the least that waits is the first that is stuck
      pub queued_some : (i : ℕ) → i < n → 0 < slice_index waits i → ((k : ℕ) → k < i → slice_index waits k ≡ 0) → first_stuck (is_linked l) n ≡ Some i
      queued_some i lt some least =
          front_first_some (is_linked l) n order i q.front none_follows lt (λ a. let z = ((q.idle.all i).0 a).1 in omega arith)
          (λ k below. (q.idle.all k).1 (omega arith, least k below))
