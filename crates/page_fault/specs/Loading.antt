-- Programs whose pages are loaded, and the pages that are.
use Rattle.std.specs.Prelude.{ℕ, ◌≡◌, ◌<◌, Bool, false, not, List, length, slice_get, Some, None, IfSome, All, Contains, ◌⊎◌}
use Rattle.tnk_base.specs.declared.Key.{Key}
use Rattle.machine_desc.specs.Same.{are_same}
use Rattle.machine_desc.specs.Value.{description_of}
use Rattle.image_format.specs.Image.{page_count}
use Rattle.image_check.specs.Blocks.{page_of}
use Rattle.image_check.specs.Units.{HasUnits}
use Rattle.page_resched.specs.Form.{IsFormOfPage}
use Rattle.paging.specs.Pages.{Page, Paging, need}
use Rattle.page_cache.specs.declared.Slot.{Slot}
use Rattle.page_cache.specs.Cache.{Held, Cache, empty, pages_of, page_in}
use Rattle.page_fault.specs.declared.Loaded.{Loaded}
use Rattle.page_fault.specs.declared.loader.Counts.{Counts}

-- each program's generation has the units that its image needs
abbrev pub HaveUnits : List Loaded → Type 0
HaveUnits programs = All (λ p. HasUnits p.image (description_of p.chosen)) programs

-- a page has the words of its form: its program runs as its generation, and the page was made for the image's
pub record HasForm (programs : List Loaded) (page : Page) : Type 0 where
  pub program : Loaded
  pub there : slice_get programs page.key.program ≡ Some program
  pub form : IsFormOfPage program.image.description (description_of program.chosen) (page_of program.image page.key.page) page.words

-- the key's program is there, and has the page
abbrev pub IsThere : List Loaded → Key → Type 0
IsThere programs k = (k.program < length programs) × IfSome (slice_get programs k.program) (λ p. k.page < page_count p.image)

-- whether the key's program runs in another generation than it was made for
abbrev pub runs_elsewhere : List Loaded → Key → Bool
runs_elsewhere programs k = elim (slice_get programs k.program) [
  | None ↦ false
  | Some p ↦ not (are_same p.image.description (description_of p.chosen))
]

-- the programs, the cache of their pages, and the counts
pub record Loading : Type 0 where
  pub programs : List Loaded
  pub cache : Cache
  pub loaded : ℕ
  pub rescheduled : ℕ
  pub restored : ℕ

-- the programs, and no page of them, in so many frames and with so many saved pages at most
abbrev pub opened : List Loaded → ℕ → ℕ → Loading
opened programs frames most_saved = record { programs = programs; cache = empty frames most_saved; loaded = 0; rescheduled = 0; restored = 0 }

-- the lists and counts of a loader
abbrev pub paging_of : Loading → Paging
paging_of l = record { pages = pages_of l.cache; loaded = l.loaded; rescheduled = l.rescheduled; restored = l.restored }

-- its four counts
abbrev pub counts_of : Loading → Counts
counts_of l = record { loaded = l.loaded; rescheduled = l.rescheduled; restored = l.restored; evicted = l.cache.evicted }

-- each resident page but the key's stands where it stood before
abbrev pub KeepOtherFrames : Key → List Held → List Held → Type 0
KeepOtherFrames k old new = All (λ h. (h.page.key ≡ k) ⊎ Contains old h) new

-- what a key's need comes to: its page, in its form, stands in the slot, which is one of the frames, and the lists and counts are
-- those of its need
pub record IsNeeded (old new : Loading) (k : Key) (slot : Slot) : Type 0 where
  pub page : Page
  pub stands : page_in new.cache slot ≡ Some page
  pub key : page.key ≡ k
  pub form : HasForm old.programs page
  pub paging : paging_of new ≡ need page (runs_elsewhere old.programs k) (paging_of old)
  pub frame : slot.frame < new.cache.frames
  pub frames_stay : new.cache.frames ≡ old.cache.frames
  pub frames : KeepOtherFrames k old.cache.held new.cache.held
  pub programs : new.programs ≡ old.programs
