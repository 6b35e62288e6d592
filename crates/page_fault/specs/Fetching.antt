-- For contracts within the crate. What a loader keeps, and where the words of a page come from.
use Rattle.std.specs.Prelude.{ℕ, ◌≡◌, Bool, true, false, List, length, Some, None, All}
use Rattle.paging.specs.Pages.{Page, under}
use Rattle.page_cache.specs.Cache.{Cache, pages_of}
use Rattle.page_fault.specs.declared.Loaded.{Loaded}
use Rattle.page_fault.specs.declared.fetching.Source.{Source}
use Rattle.page_fault.specs.declared.fetching.Source.TheVariants.{Saved, Own, Rescheduled}
use Rattle.page_fault.specs.Loading.{HasForm, HaveUnits, runs_elsewhere}

-- the words under each key are those of its form
pub record KeepsForms (programs : List Loaded) (cache : Cache) : Type 0 where
  pub resident : All (HasForm programs) (pages_of cache).resident
  pub saved : All (HasForm programs) cache.saved

-- so it is in a loader, whose programs have their units and which has room for a page
pub record IsLoader (programs : List Loaded) (cache : Cache) (out : List ℕ) : Type 0 where
  pub units : HaveUnits programs
  pub forms : KeepsForms programs cache
  pub room : length out ≡ 512

-- whether the words of a page were saved, and whether it was rescheduled for them
abbrev pub is_restored : Source → Bool
is_restored Saved = true
is_restored _ = false

abbrev pub is_moved : Source → Bool
is_moved Rescheduled = true
is_moved _ = false

-- where the words of a page were taken from
abbrev pub CameFrom : List Loaded → Cache → Page → Source → Type 0
CameFrom programs cache page Saved = under page.key cache.saved ≡ Some page
CameFrom programs cache page Own = (under page.key cache.saved ≡ None) × (runs_elsewhere programs page.key ≡ false)
CameFrom programs cache page Rescheduled = (under page.key cache.saved ≡ None) × (runs_elsewhere programs page.key ≡ true)

-- a key's page has been fetched
pub record IsFetched (programs : List Loaded) (cache : Cache) (page : Page) (from : Source) : Type 0 where
  pub form : HasForm programs page
  pub came : CameFrom programs cache page from
