-- For contracts within the crate. What a cache keeps about its frames.
use Rattle.std.specs.Prelude.{ℕ, ◌≡◌, ◌≤◌, List, length, map, reverse}
use Rattle.std.specs.List.{IsDistinct}
use Rattle.tnk_base.specs.declared.Key.{Key}
use Rattle.paging.specs.Pages.{Page, same_key, with_saved}
use Rattle.page_cache.specs.Cache.{Held, Cache}
use Rattle.page_cache.specs.Frames.{Filled}

-- no two pages have one key
abbrev pub KeysDiffer : List Held → Type 0
KeysDiffer held = IsDistinct (λ a b. same_key a.page.key b.page.key) held

-- the pages in some frames
abbrev pub pages_in : List Held → List Page
pages_in held = map (λ h. h.page) held

-- the frames for resident pages and those for saved ones, at least one for resident ones; in neither a key stands twice
pub record AreCached (resident saved : Filled) : Type 0 where
  pub some : 1 ≤ resident.size
  pub keys : KeysDiffer resident.held
  pub room : length resident.held ≤ resident.size
  pub saved_keys : KeysDiffer saved.held
  pub saved_room : length saved.held ≤ saved.size

-- the page with a key and words
abbrev pub page_with : Key → List ℕ → Page
page_with key words = record { key = key; words = words }

-- the pages in some frames are those of others, and one more that was saved
abbrev pub AreSaved : Filled → Filled → Page → Type 0
AreSaved old new page = pages_in new.held ≡ with_saved old.size page (pages_in old.held)

-- the cache of some frames, in which the page touched last stands last
abbrev pub cache_of : Filled → Filled → ℕ → Cache
cache_of resident saved evicted = record {
  held = reverse resident.held;
  saved = pages_in saved.held;
  frames = resident.size;
  most_saved = saved.size;
  evicted = evicted;
}
