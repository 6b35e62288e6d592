-- The words of a block and of a page in form under a generation.
use Rattle.std.specs.Prelude.{ℕ, ◌≡◌, ◌≢◌, ◌+◌, ◌<◌, ◌^◌, ◌⊎◌, ◌↔◌, List, [], ◌∷◌, length, take, drop, slice_index, IsTrue, IsFalse}
use Rattle.machine_desc.specs.Description.{Description}
use Rattle.block_table.specs.Padding.{is_in_block}
use Rattle.serial_order.specs.Lists.{Among}
use Rattle.list_encoding.specs.Word.{is_head, pause_in}
use Rattle.size_invariance.specs.Shape.{AreAlike}
use Rattle.latency_deps.specs.Block.{Block}
use Rattle.latency_deps.specs.Page.{Page, place_at, block_at, rows_on}
use Rattle.list_sched.specs.Extremes.{IsLeast}
use Rattle.list_sched.specs.Schedule.{Schedule, IsSchedule}
use Rattle.list_sched.specs.Laws.{IsUsed}
use Rattle.page_resched.specs.Block.{problem, HasUnits, IsListing}

-- a later used cycle, or the end
abbrev pub IsLater : Schedule → ℕ → ℕ → Type 0
IsLater s c d = (c < d) × (IsUsed s d ⊎ (d ≡ s.end))

-- the new word of operation k, whose word was old, where the operations of the past are listed before it
pub record IsFormOf (s : Schedule) (past : List ℕ) (k old new : ℕ) : Type 0 where
  pub alike : AreAlike old new
  pub word : new < 2 ^ 64
  -- the first word of a cycle has the head mark
  pub head : IsTrue (is_head new) ↔ ((i : ℕ) → Among i past → s.cycle i ≢ s.cycle k)
  -- its pause is the distance to the next used cycle, or to the end, less one
  pub pause : IsTrue (is_head new) → IsLeast (IsLater s (s.cycle k)) (s.cycle k + 1 + pause_in new)
  pub no_pause : IsFalse (is_head new) → pause_in new ≡ 0

-- the new words of listed operations, after those of the past
abbrev pub AreForms : List ℕ → Schedule → List ℕ → List ℕ → List ℕ → Type 0
AreForms old s past [] [] = Unit {0}
AreForms old s past (k ∷ ks) (w ∷ ws) = IsFormOf s past k (slice_index old k) w × AreForms old s (k ∷ past) ks ws
AreForms old s past [] (w ∷ ws) = ⊥
AreForms old s past (k ∷ ks) [] = ⊥

-- the words are those of the block in form: its words in the order of its list schedule
pub record AreInForm (g : Description) (b : Block) (new : List ℕ) : Type 0 where
  pub schedule : Schedule
  pub listed : List ℕ
  pub scheduled : IsSchedule (problem g b) schedule
  pub listing : IsListing schedule listed
  pub forms : AreForms b.words schedule [] listed new

-- the generation has the units that the blocks of the page need
abbrev pub HasPageUnits : Description → Page → Type 0
HasPageUnits g p = (k : ℕ) → k < length p.blocks → HasUnits g (block_at p k)

-- of a page's words, those at the place of the block k
abbrev pub words_at : Page → ℕ → List ℕ → List ℕ
words_at p k words = take (length (block_at p k).words) (drop (place_at p k) words)

-- the words of a page in form: each block stays at its place with its words in form, and the words in no block are 0
pub record IsPageInForm (g : Description) (p : Page) (new : List ℕ) : Type 0 where
  pub whole : length new ≡ 512
  pub blocks : (k : ℕ) → k < length p.blocks → AreInForm g (block_at p k) (words_at p k new)
  pub padding : (a : ℕ) → a < 512 → IsFalse (is_in_block (rows_on p) a) → slice_index new a ≡ 0

-- the form of a page that was made for the description `own`: where the generation's is equal to it, the page itself
pub record IsFormOfPage (own g : Description) (p : Page) (new : List ℕ) : Type 0 where
  pub same : own ≡ g → new ≡ p.words
  pub other : ¬ (own ≡ g) → IsPageInForm g p new
