-- What holds of images in other generations.
use Rattle.std.specs.Prelude.{ℕ, ◌≡◌, ◌*◌, ◌<◌, List, length, take, drop, None}
use Rattle.machine_desc.specs.Description.{Description, IsDescription}
use Rattle.timed_meaning.specs.Program.{mean, after}
use Rattle.latency_deps.specs.Timing.{ops_of}
use Rattle.latency_deps.specs.Delays.{before_in}
use Rattle.image_format.specs.Image.{Image, image_in, page_count}
use Rattle.image_format.specs.Bytes.{bytes_of}
use Rattle.image_check.specs.Rules.{first_broken}
use Rattle.image_check.specs.Blocks.{rows_of, words_of, block_of, page_of, program_in}
use Rattle.image_check.specs.Accepted.{IsAccepted}
use Rattle.size_invariance.specs.Shape.{AreSameShape}
use Rattle.page_resched.specs.Form.{IsPageInForm}
use Rattle.image_check.specs.Units.{HasUnits}
use Rattle.image_resched.specs.Rescheduled.{AreWordsInForm, IsRescheduled}

-- an accepted image, and a generation that has its units
pub record IsMovable (image : Image) (g : Description) : Type 0 where
  pub accepted : IsAccepted image
  pub machine : IsDescription g
  pub units : HasUnits image g

-- the image in the generation is accepted
abbrev pub RescheduledIsAccepted : Type 0
RescheduledIsAccepted = (image : Image) (g : Description) (new : Image) → IsMovable image g → IsRescheduled image g new → IsAccepted new

-- its program has the same meaning, and the same state and entry after each number of blocks, for every input and limit
abbrev pub RescheduledMeansTheSame : Type 0
RescheduledMeansTheSame =
    (image : Image) (g : Description) (new : Image) → IsMovable image g → IsRescheduled image g new → (input : List ℕ) (limit n : ℕ) →
    (mean (program_in image) input limit n ≡ mean (program_in new) input limit n)
    × (after (program_in image) input limit n ≡ after (program_in new) input limit n)

-- the row k's blocks of two images have the same operations: operation m of the second is one of the first, each of the
-- first is one of the second, and of two the one comes before the other in both
pub record IsSameRelation (image new : Image) (k : ℕ) : Type 0 where
  pub number : ℕ → ℕ
  pub inside : (m : ℕ) → m < length (words_of new k) → number m < length (words_of image k)
  pub each : (i : ℕ) → i < length (words_of image k) → (m : ℕ) × (m < length (words_of new k)) × (number m ≡ i)
  pub same : (m : ℕ) → m < length (words_of new k) → ops_of (words_of new k) m ≡ ops_of (words_of image k) (number m)
  pub before : (m j : ℕ) → m < length (words_of new k) → j < length (words_of new k) →
      before_in (block_of new k) m j ≡ before_in (block_of image k) (number m) (number j)

abbrev pub RescheduledKeepsBefore : Type 0
RescheduledKeepsBefore =
    (image : Image) (g : Description) (new : Image) → IsMovable image g → IsRescheduled image g new →
    (length new.rows ≡ length image.rows) × ((k : ℕ) → k < length image.rows → IsSameRelation image new k)

-- so the image can be moved on to each generation that has the units of the first, through any number of generations
abbrev pub RescheduledMovesOn : Type 0
RescheduledMovesOn =
    (image : Image) (g h : Description) (new : Image) → IsMovable image g → IsMovable image h → IsRescheduled image g new → IsMovable new h

-- the file of the image in another generation breaks no rule, and holds that image
pub record IsFileOf (bytes : List ℕ) (image : Image) : Type 0 where
  pub kept : first_broken bytes ≡ None
  pub same : image_in bytes ≡ image

abbrev pub RescheduledFilesAreAccepted : Type 0
RescheduledFilesAreAccepted =
    (image : Image) (g : Description) (new : Image) → IsMovable image g → IsRescheduled image g new → IsFileOf (bytes_of new) new

-- there is one image at most
abbrev pub OneRescheduled : Type 0
OneRescheduled =
    (image : Image) (g : Description) (new new' : Image) → IsMovable image g → IsRescheduled image g new → IsRescheduled image g new' → new ≡ new'

-- and there is one
abbrev pub EachIsRescheduled : Type 0
EachIsRescheduled = (image : Image) (g : Description) → IsMovable image g → (new : Image) × IsRescheduled image g new

-- what gives images in other generations
abbrev pub Forms : Type 0
Forms = Image → Description → Image

-- each accepted image as it is in each generation that has its units
abbrev pub AreForms : Forms → Type 0
AreForms forms = (image : Image) (g : Description) → IsMovable image g → IsRescheduled image g (forms image g)

-- there is such a function
abbrev pub FormsAreThere : Type 0
FormsAreThere = (forms : Forms) × AreForms forms

-- the words of an image are in form where those of each page are
abbrev pub PagesMakeTheImage : Type 0
PagesMakeTheImage =
    (image : Image) (g : Description) (words : List ℕ) → IsAccepted image → length words ≡ length image.words →
    ((n : ℕ) → n < page_count image → IsPageInForm g (page_of image n) (take 512 (drop (512 * n) words))) →
    AreWordsInForm image g words

-- each page has the shape that it had: the same operations in each block, and all other words equal
abbrev pub RescheduledKeepsTheShape : Type 0
RescheduledKeepsTheShape =
    (image : Image) (g : Description) (new : Image) → IsMovable image g → IsRescheduled image g new → (n : ℕ) → n < page_count image →
    AreSameShape (rows_of image) n (page_of image n).words (page_of new n).words
