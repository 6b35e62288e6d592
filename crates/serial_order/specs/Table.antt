-- The table of delays of a block's operations.
use Rattle.std.specs.Prelude.{ℕ, ◌≡◌, ◌+◌, ◌*◌, ◌≤◌, ◌&&◌, Bool, nat_lt, if◌then◌else◌, List, length, slice_index_or, Option, None, is_some, ℤ}

-- a row of cells for each operation, which are the delays of that operation before each; cells behind the rows are spare
pub record Table : Type 0 where
  pub count : ℕ
  pub cells : List (Option ℤ)

-- the delay of i before j; none where i isn't before j
unfoldable pub delay_of : Table → ℕ → ℕ → Option ℤ
delay_of t i j = if nat_lt i t.count && nat_lt j t.count then slice_index_or t.cells (i * t.count + j) None else None

-- i is before j
abbrev pub before : Table → ℕ → ℕ → Bool
before t i j = is_some (delay_of t i j)

-- a table has room for so many operations
abbrev pub HasRoom : Table → ℕ → Type 0
HasRoom t most = most * most ≤ length t.cells

-- a table of at most 512 operations, in which nothing is before itself
pub record IsTable (t : Table) : Type 0 where
  pub few : t.count ≤ 512
  pub room : HasRoom t t.count
  pub itself : (i : ℕ) → delay_of t i i ≡ None
