-- When two versions of a page have the same shape.
use Rattle.std.specs.Prelude.{ℕ, ◌≡◌, ◌+◌, ◌*◌, ◌/◌, ◌%◌, ◌^◌, ◌<◌, List, length, map, take, drop, slice_index, count_by, nat_eq, IsFalse}
use Rattle.block_table.specs.Rows.{Rows, entry_of, count_of}
use Rattle.block_table.specs.Padding.{is_in_block}
use Rattle.list_encoding.specs.Word.{unit_in}

-- two words that are the same but for head mark and pause: they have one unit, and the low 54 bits, which hold the guarded
-- operation, are the same
pub record AreAlike (old new : ℕ) : Type 0 where
  pub unit : unit_in new ≡ unit_in old
  pub operation : new % 2 ^ 54 ≡ old % 2 ^ 54

-- what of a word is its operation, as a number: the unit, and behind it the low 54 bits
abbrev pub operation_part : ℕ → ℕ
operation_part word = unit_in word * 2 ^ 54 + word % 2 ^ 54

-- how often a number stands in a list
abbrev pub occurrences : ℕ → List ℕ → ℕ
occurrences n list = count_by (nat_eq n) list

-- a rearrangement: each number stands equally often in both
abbrev pub IsRearrangement : List ℕ → List ℕ → Type 0
IsRearrangement xs ys = (n : ℕ) → occurrences n xs ≡ occurrences n ys

-- the words have the same operations, in any order and with any head marks and pauses
abbrev pub HaveSameOperations : List ℕ → List ℕ → Type 0
HaveSameOperations a b = IsRearrangement (map operation_part a) (map operation_part b)

-- of the words of a page those of the row k's block
abbrev pub block_words : Rows → ℕ → List ℕ → List ℕ
block_words rows k words = take (count_of rows k) (drop (entry_of rows k % 512) words)

-- the two are versions of the page of this number, 512 words each: the page's blocks have the same operations, and the words
-- in no block are equal
pub record AreSameShape (rows : Rows) (page : ℕ) (a b : List ℕ) : Type 0 where
  pub first : length a ≡ 512
  pub second : length b ≡ 512
  pub blocks : (k : ℕ) → k < length rows → entry_of rows k / 512 ≡ page → HaveSameOperations (block_words rows k a) (block_words rows k b)
  pub others : (i : ℕ) → i < 512 → IsFalse (is_in_block rows (512 * page + i)) → slice_index a i ≡ slice_index b i
