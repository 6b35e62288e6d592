-- What is counted while the operations are put in order.
use Rattle.std.specs.Prelude.{ℕ, zero, suc, ◌+◌, Bool, if◌then◌else◌, List}
use Rattle.serial_order.specs.Lists.{has}

-- 1 where the test holds
abbrev pub one_where : Bool → ℕ
one_where test = if test then 1 else 0

-- for how much j waits: what the operations below m that aren't placed count at j
unfoldable pub waiting : (ℕ → ℕ → ℕ) → (placed : List ℕ) → (j m : ℕ) → ℕ
waiting counted placed j zero = 0
waiting counted placed j (suc i) = waiting counted placed j i + (if has i placed then 0 else counted i j)

-- an operation counts 1 at each that it is before
abbrev pub ones : (ℕ → ℕ → Bool) → ℕ → ℕ → ℕ
ones before i j = one_where (before i j)

-- how many of the operations below m that aren't placed are before j
abbrev pub unplaced_before : (ℕ → ℕ → Bool) → (placed : List ℕ) → (j m : ℕ) → ℕ
unplaced_before before = waiting (ones before)
