-- The words that stand in no block.
use Rattle.std.specs.Prelude.{ℕ, ◌≡◌, ◌≢◌, ◌<◌, ◌≤◌, ◌+◌, ◌&&◌, Bool, not, nat_eq, nat_lt, nat_le, List, length, find, slice_index, Option}
use Rattle.std.specs.List.{list_any, range_with_len}
use Rattle.block_table.specs.Rows.{Rows}

-- the address stands in a block
abbrev pub is_in_block : Rows → ℕ → Bool
is_in_block rows address = list_any (λ row. nat_le row.0 address && nat_lt address (row.0 + row.1)) rows

-- the address stands in no block, and its word isn't 0
abbrev pub is_unpadded : Rows → List ℕ → ℕ → Bool
is_unpadded rows words address = not (is_in_block rows address) && not (nat_eq (slice_index words address) 0)

-- Padding: the least such address
abbrev pub first_unpadded : Rows → List ℕ → Option ℕ
first_unpadded rows words = find (is_unpadded rows words) (range_with_len 0 (length words))

-- the words from an address up to another are 0; beyond the list there are zeros
abbrev pub AreZero : List ℕ → (begin end : ℕ) → Type 0
AreZero words begin end = (a : ℕ) → begin ≤ a → a < end → slice_index words a ≡ 0

-- the first of them that isn't 0
pub record IsFirstFilled (words : List ℕ) (begin end a : ℕ) : Type 0 where
  pub from : begin ≤ a
  pub below : a < end
  pub there : a < length words
  pub filled : slice_index words a ≢ 0
  pub zeros : AreZero words begin a
