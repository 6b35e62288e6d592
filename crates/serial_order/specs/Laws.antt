-- What holds of serial orders and of the stuck set.
use Rattle.std.specs.Prelude.{ℕ, ◌≡◌, ◌<◌, ◌↔◌, Bool, IsTrue, IsFalse, List, filter, None, MatchOption}
use Rattle.std.specs.List.{range_with_len}
use Rattle.serial_order.specs.Lists.{Among}
use Rattle.serial_order.specs.SerialOrder.{IsOrder, IsStuckSet, is_stuck, first_stuck}

-- an operation is stuck exactly where some set has it of which each member has a member before it
abbrev pub StuckWhereSomeSetHas : Type 0
StuckWhereSomeSetHas =
    (before : ℕ → ℕ → Bool) (n k : ℕ) →
    IsTrue (is_stuck before n k) ↔ ((set : List ℕ) × IsStuckSet before n set × Among k set)

-- all operations that are stuck
abbrev pub stuck_set : (ℕ → ℕ → Bool) → ℕ → List ℕ
stuck_set before n = filter (is_stuck before n) (range_with_len 0 n)

-- they are such a set together, and the greatest
abbrev pub StuckSetIsGreatest : Type 0
StuckSetIsGreatest =
    (before : ℕ → ℕ → Bool) (n : ℕ) →
    IsStuckSet before n (stuck_set before n) × ((set : List ℕ) → IsStuckSet before n set → (k : ℕ) → Among k set → Among k (stuck_set before n))

-- the operation below n is stuck, and none below it
pub record IsLeastStuck (before : ℕ → ℕ → Bool) (n k : ℕ) : Type 0 where
  pub inside : k < n
  pub stuck : IsTrue (is_stuck before n k)
  pub least : (j : ℕ) → j < k → IsFalse (is_stuck before n j)

-- `first_stuck` is the least of them, and none exactly where there is none
abbrev pub FirstStuckIsLeast : Type 0
FirstStuckIsLeast =
    (before : ℕ → ℕ → Bool) (n : ℕ) →
    MatchOption (first_stuck before n) ((k : ℕ) → k < n → IsFalse (is_stuck before n k)) (IsLeastStuck before n)

-- there is an order exactly where nothing is stuck
abbrev pub OrderedWhereNoneStuck : Type 0
OrderedWhereNoneStuck =
    (before : ℕ → ℕ → Bool) (n : ℕ) → ((order : List ℕ) × IsOrder before n order) ↔ (first_stuck before n ≡ None)

-- only what `before` says of the operations below n decides
abbrev pub SameBeforeSameStuck : Type 0
SameBeforeSameStuck =
    (before before' : ℕ → ℕ → Bool) (n : ℕ) →
    ((i j : ℕ) → i < n → j < n → before i j ≡ before' i j) → first_stuck before n ≡ first_stuck before' n
