-- What a cache of pages is: the pages with the frames in which they stand.
use Rattle.std.specs.Prelude.{ℕ, nat_eq, List, [], map, find, Option, option_map, All, Contains}
use Rattle.page_cache.specs.declared.Slot.{Slot}
use Rattle.paging.specs.Pages.{Page, Pages}

-- a page in the frame of a slot
pub record Held : Type 0 where
  pub frame : ℕ
  pub page : Page

-- the resident pages in their frames, most recent first, the saved pages, oldest first, and the rest of `Pages`
pub record Cache : Type 0 where
  pub held : List Held
  pub saved : List Page
  pub frames : ℕ
  pub most_saved : ℕ
  pub evicted : ℕ

-- no page, in so many frames and with so many saved pages at most
abbrev pub empty : ℕ → ℕ → Cache
empty frames most_saved = record { held = []; saved = []; frames = frames; most_saved = most_saved; evicted = 0 }

-- the pages of a cache, wherever they stand
abbrev pub pages_of : Cache → Pages
pages_of c = record {
  resident = map (λ h. h.page) c.held;
  saved = c.saved;
  frames = c.frames;
  most_saved = c.most_saved;
  evicted = c.evicted;
}

-- the page in the frame of a slot
abbrev pub page_in : Cache → Slot → Option Page
page_in c slot = option_map (λ h. h.page) (find (λ h. nat_eq h.frame slot.frame) c.held)

-- each resident page stands where it stood before
abbrev pub KeepFrames : List Held → List Held → Type 0
KeepFrames old new = All (λ h. Contains old h) new
