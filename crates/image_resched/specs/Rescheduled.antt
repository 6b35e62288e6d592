-- An image in another generation.
use Rattle.std.specs.Prelude.{ℕ, ◌≡◌, ◌<◌, List, length, take, drop, slice_index, IsFalse}
use Rattle.machine_desc.specs.Description.{Description}
use Rattle.block_table.specs.Rows.{Rows, entry_of, count_of}
use Rattle.block_table.specs.Padding.{is_in_block}
use Rattle.image_format.specs.Image.{Image}
use Rattle.image_format.specs.Bytes.{bytes_of}
use Rattle.image_check.specs.Blocks.{rows_of, block_of}
use Rattle.page_resched.specs.Form.{AreInForm}

-- of some words those of the row k's block
abbrev pub words_at : Rows → List ℕ → ℕ → List ℕ
words_at rows words k = take (count_of rows k) (drop (entry_of rows k) words)

-- the words of an image in form: each block stays at its entry with its words in form, and the words in no block are 0
pub record AreWordsInForm (image : Image) (g : Description) (words : List ℕ) : Type 0 where
  pub as_many : length words ≡ length image.words
  pub blocks : (k : ℕ) → k < length image.rows → AreInForm g (block_of image k) (words_at (rows_of image) words k)
  pub padding : (a : ℕ) → a < length words → IsFalse (is_in_block (rows_of image) a) → slice_index words a ≡ 0

-- the image with another description and other words
abbrev pub with_words : Image → Description → List ℕ → Image
with_words image g words = record {
  description = g;
  entry = image.entry;
  rows = image.rows;
  memory = image.memory;
  init = image.init;
  words = words;
}

-- the image in another generation
pub record IsRescheduled (image : Image) (g : Description) (new : Image) : Type 0 where
  -- where the generation's description equals the image's it is the image itself
  pub same : image.description ≡ g → new ≡ image
  -- else it has the generation's description and its words in form, and all else as the image has it
  pub other : ¬ (image.description ≡ g) → (words : List ℕ) × AreWordsInForm image g words × (new ≡ with_words image g words)

-- bytes that are the file of the image in another generation
pub record IsRescheduledFile (image : Image) (g : Description) (bytes : List ℕ) : Type 0 where
  pub new : Image
  pub rescheduled : IsRescheduled image g new
  pub written : bytes ≡ bytes_of new
