-- For contracts within the crate. What is looked at row by row.
use Rattle.std.specs.Prelude.{ℕ, ◌≡◌, ◌<◌, ◌≤◌, ◌%◌, List, slice_index}
use Rattle.block_table.specs.Rows.{Rows, entry_of}
use Rattle.size_invariance.specs.Shape.{HaveSameOperations, block_words}

-- the words from one place up to another are equal
abbrev pub AreEqualWithin : (a b : List ℕ) → (begin end : ℕ) → Type 0
AreEqualWithin a b begin end = (i : ℕ) → begin ≤ i → i < end → slice_index a i ≡ slice_index b i

-- from a place up to the block of the row k the words are equal, and the block has the same operations
pub record IsSameRow (rows : Rows) (k begin : ℕ) (a b : List ℕ) : Type 0 where
  pub before : AreEqualWithin a b begin (entry_of rows k % 512)
  pub operations : HaveSameOperations (block_words rows k a) (block_words rows k b)
