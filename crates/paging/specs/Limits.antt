-- What holds of the two lists: their greatest lengths, and that a key stands once.
use Rattle.std.specs.Prelude.{◌≤◌, Bool, length}
use Rattle.std.specs.List.{IsDistinct}
use Rattle.paging.specs.Pages.{Page, Pages, same_key}

-- at least one frame, no more resident pages than frames, and no more saved pages than may be
pub record AreWithin (p : Pages) : Type 0 where
  pub some : 1 ≤ p.frames
  pub resident : length p.resident ≤ p.frames
  pub saved : length p.saved ≤ p.most_saved

-- whether two pages have one key
abbrev pub same_page : Page → Page → Bool
same_page a b = same_key a.key b.key

-- no key stands twice among the resident pages, nor among the saved ones
pub record AreApart (p : Pages) : Type 0 where
  pub resident : IsDistinct same_page p.resident
  pub saved : IsDistinct same_page p.saved
