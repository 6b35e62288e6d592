-- For contracts within the crate. The words of an image, page by page.
use Rattle.std.specs.Prelude.{ℕ, ◌≡◌, ◌*◌, ◌<◌, List, length, take, drop}
use Rattle.machine_desc.specs.Description.{Description}
use Rattle.image_format.specs.Image.{Image, page_count}
use Rattle.image_check.specs.Blocks.{page_of}
use Rattle.page_resched.specs.Form.{IsFormOfPage}

-- the words of the page n
abbrev pub words_on : ℕ → List ℕ → List ℕ
words_on n words = take 512 (drop (512 * n) words)

-- as many words as the image has, and on each page below n the form of the image's page
pub record AreFormsBelow (n : ℕ) (image : Image) (g : Description) (words : List ℕ) : Type 0 where
  pub as_many : length words ≡ length image.words
  pub pages : (k : ℕ) → k < n → IsFormOfPage image.description g (page_of image k) (words_on k words)

-- on all pages
abbrev pub AreFormsOfPages : Image → Description → List ℕ → Type 0
AreFormsOfPages image g words = AreFormsBelow (page_count image) image g words
