-- What holds of shapes.
use Rattle.std.specs.Prelude.{ℕ, ◌≡◌, ◌+◌, ◌*◌, ◌/◌, ◌<◌, ◌↔◌, List, length, map, slice_index, IsFalse}
use Rattle.std.specs.List.{AllZip, range_with_len}
use Rattle.std.specs.List.Sorted.{IsPermutation}
use Rattle.block_table.specs.Rows.{Rows, entry_of}
use Rattle.block_table.specs.Padding.{is_in_block}
use Rattle.size_invariance.specs.Shape.{AreAlike, operation_part, IsRearrangement, HaveSameOperations, block_words, AreSameShape}

-- a page has its own shape
abbrev pub ShapesAreReflexive : Type 0
ShapesAreReflexive = (rows : Rows) (page : ℕ) (a : List ℕ) → length a ≡ 512 → AreSameShape rows page a a

abbrev pub ShapesAreSymmetric : Type 0
ShapesAreSymmetric = (rows : Rows) (page : ℕ) (a b : List ℕ) → AreSameShape rows page a b → AreSameShape rows page b a

abbrev pub ShapesAreTransitive : Type 0
ShapesAreTransitive =
    (rows : Rows) (page : ℕ) (a b c : List ℕ) → AreSameShape rows page a b → AreSameShape rows page b c → AreSameShape rows page a c

-- words are alike exactly where their operation parts are equal
abbrev pub PartsDecideLikeness : Type 0
PartsDecideLikeness = (old new : ℕ) → AreAlike old new ↔ (operation_part old ≡ operation_part new)

-- a rearrangement is a permutation, and a permutation a rearrangement
abbrev pub RearrangementsArePermutations : Type 0
RearrangementsArePermutations = (xs ys : List ℕ) → IsRearrangement xs ys ↔ IsPermutation xs ys

-- the new words are the old ones in another order, with other head marks and pauses: the word at each place is alike to the
-- old word of the number that is listed there, and the list is a rearrangement of the numbers of the old words
pub record AreReordered (old new : List ℕ) : Type 0 where
  pub listed : List ℕ
  pub numbers : IsRearrangement (range_with_len 0 (length old)) listed
  pub alike : AllZip AreAlike (map (slice_index old) listed) new

-- they have the same operations
abbrev pub ReorderingsKeepOperations : Type 0
ReorderingsKeepOperations = (old new : List ℕ) → AreReordered old new → HaveSameOperations old new

-- of two versions of a page the words of each block are reordered, and the words in no block are 0
pub record IsPageReordered (rows : Rows) (page : ℕ) (old new : List ℕ) : Type 0 where
  pub first : length old ≡ 512
  pub second : length new ≡ 512
  pub blocks : (k : ℕ) → k < length rows → entry_of rows k / 512 ≡ page → AreReordered (block_words rows k old) (block_words rows k new)
  pub old_zero : (i : ℕ) → i < 512 → IsFalse (is_in_block rows (512 * page + i)) → slice_index old i ≡ 0
  pub new_zero : (i : ℕ) → i < 512 → IsFalse (is_in_block rows (512 * page + i)) → slice_index new i ≡ 0

-- they have the same shape
abbrev pub ReorderingsKeepTheShape : Type 0
ReorderingsKeepTheShape = (rows : Rows) (page : ℕ) (old new : List ℕ) → IsPageReordered rows page old new → AreSameShape rows page old new
