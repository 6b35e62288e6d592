-- The rows of a block table: a block's entry and how many operations it has.
use Rattle.std.specs.Prelude.{ℕ, ◌+◌, ◌*◌, ◌%◌, ◌^◌, ◌<◌, ◌≤◌, zero, suc, List, length, slice_index_or, map}
use Rattle.std.specs.List.Sorted.{IsStrictlyIncreasing}

abbrev pub Rows : Type 0
Rows = List (ℕ × ℕ)

-- the entry and the count of the row k; both are 0 where there is no such row
abbrev pub entry_of : Rows → ℕ → ℕ
entry_of rows k = (slice_index_or rows k (0, 0)).0

abbrev pub count_of : Rows → ℕ → ℕ
count_of rows k = (slice_index_or rows k (0, 0)).1

-- the address behind the block of the row k
abbrev pub end_of : Rows → ℕ → ℕ
end_of rows k = entry_of rows k + count_of rows k

-- the address behind the block of the row before, 0 before the first
abbrev pub end_before : Rows → ℕ → ℕ
end_before rows zero = 0
end_before rows (suc k) = end_of rows k

-- the entries, in order of the rows
abbrev pub entries : Rows → List ℕ
entries rows = map (λ row. row.0) rows

-- the entries rise and stand on pages below 65,536, no block is empty, and none begins before the end of the one before
pub record IsRising (rows : Rows) : Type 0 where
  pub entries : IsStrictlyIncreasing (entries rows)
  pub apart : (k : ℕ) → k < length rows → end_before rows k ≤ entry_of rows k
  pub inside : (k : ℕ) → k < length rows → entry_of rows k < 2 ^ 25
  pub counted : (k : ℕ) → k < length rows → 0 < count_of rows k
  pub few : length rows ≤ 2 ^ 26

-- the block ends on the page that it begins on
abbrev pub IsOnPage : Rows → ℕ → Type 0
IsOnPage rows k = entry_of rows k % 512 + count_of rows k ≤ 512

-- such rows, whose blocks each end on the page that they begin on
pub record IsTable (rows : Rows) : Type 0 where
  pub rising : IsRising rows
  pub on_page : (k : ℕ) → k < length rows → IsOnPage rows k

-- each block stands on the first so many pages
abbrev pub AreInside : Rows → ℕ → Type 0
AreInside rows pages = (k : ℕ) → k < length rows → end_of rows k ≤ 512 * pages
