-- What holds of the two lists, whatever page is needed, evicted or dropped.
use Rattle.std.specs.Prelude.{Bool}
use Rattle.tnk_base.specs.declared.Key.{Key}
use Rattle.paging.specs.Pages.{Page, Paging, evict, drop_saved, need}
use Rattle.paging.specs.Limits.{AreWithin, AreApart}

-- neither list comes to be longer than it may be
pub record StayWithin (p : Paging) : Type 0 where
  pub needed : (form : Page) (elsewhere : Bool) → AreWithin (need form elsewhere p).pages
  pub evicted : (k : Key) → AreWithin (evict k p.pages)
  pub dropped : (k : Key) → AreWithin (drop_saved k p.pages)

abbrev pub ListsStayWithin : Type 0
ListsStayWithin = (p : Paging) → AreWithin p.pages → StayWithin p

-- and no key comes to stand twice in one
pub record StayApart (p : Paging) : Type 0 where
  pub needed : (form : Page) (elsewhere : Bool) → AreApart (need form elsewhere p).pages
  pub evicted : (k : Key) → AreApart (evict k p.pages)
  pub dropped : (k : Key) → AreApart (drop_saved k p.pages)

abbrev pub KeysStayApart : Type 0
KeysStayApart = (p : Paging) → AreApart p.pages → StayApart p
