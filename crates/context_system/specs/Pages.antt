-- What holds of the pages after every list of events.
use Rattle.std.specs.Prelude.{ℕ, ◌≡◌, ◌<◌, ◌≤◌, ◌+◌, ◌-◌, ◌^◌, ◌%◌, min, List, length, ◌++◌, take, drop, slice_get, Some, None, All, IsTrue, IsFalse}
use Rattle.tnk_base.specs.declared.Key.{Key}
use Rattle.block_table.specs.Rows.{count_of}
use Rattle.image_format.specs.Image.{Image}
use Rattle.timed_meaning.specs.Program.{Block, block_at}
use Rattle.image_check.specs.Blocks.{rows_of, words_of, page_of, timed_block}
use Rattle.paging.specs.Pages.{Page, Paging, under}
use Rattle.paging.specs.Limits.{AreWithin, AreApart}
use Rattle.context_system.specs.declared.Event.{Event}
use Rattle.context_system.specs.declared.Event.TheVariants.{Turn}
use Rattle.context_system.specs.Context.{Setup, Context, running}
use Rattle.context_system.specs.System.{first, step, play, share_program, key_of, present_key, page_in_form, runs_elsewhere}
use Rattle.context_system.specs.Meant.{IsReady}

-- a page is that under its key in a program of the setups, in its form
abbrev pub HasItsForm : List Setup → Page → Type 0
HasItsForm setups page = (s : Setup) × (slice_get setups page.key.program ≡ Some s) × (page ≡ page_in_form s page.key)

-- the words under each key, resident or saved, are those of its form
abbrev pub PagesKeepTheirForms : Type 0
PagesKeepTheirForms =
    (setups : List Setup) (frames saved : ℕ) (events : List Event) →
    let pages = (play (first setups frames saved) events).paging.pages in
    All (HasItsForm setups) pages.resident × All (HasItsForm setups) pages.saved

-- the lists of resident and of saved pages stay within their greatest lengths
abbrev pub ListsStayWithin : Type 0
ListsStayWithin =
    (setups : List Setup) (frames saved : ℕ) (events : List Event) → 1 ≤ frames →
    AreWithin (play (first setups frames saved) events).paging.pages

-- the words under a key after an eviction and a reload, and whatever else came, are those before
abbrev pub WordsComeBack : Type 0
WordsComeBack =
    (setups : List Setup) (frames saved : ℕ) (events events' : List Event) (k : Key) (before behind : Page) →
    under k (play (first setups frames saved) events).paging.pages.resident ≡ Some before →
    under k (play (first setups frames saved) (events ++ events')).paging.pages.resident ≡ Some behind →
    behind ≡ before

-- contexts that share a program run one image
abbrev pub SharedRunOneImage : Type 0
SharedRunOneImage = (s r : Setup) → IsReady s → IsReady r → IsTrue (share_program s r) → s.formed ≡ r.formed

-- a context finds the words of the image that it runs under the keys of its program, whichever contexts share it
abbrev pub ContextsFindTheirWords : Type 0
ContextsFindTheirWords =
    (setups : List Setup) → All IsReady setups → (frames saved : ℕ) (events : List Event) (c : ℕ) (x : Context) →
    let s = play (first setups frames saved) events in
    slice_get s.contexts c ≡ Some x → (n : ℕ) (page : Page) →
    under (key_of s.contexts x.setup n) s.paging.pages.resident ≡ Some page →
    page.words ≡ (page_of x.setup.formed n).words

-- a block of an image is made of the words at its place in a page
pub record StandsOn (words : List ℕ) (image : Image) (b : Block) : Type 0 where
  pub row : ℕ
  pub there : row < length image.rows
  pub same : b ≡ timed_block image row
  pub placed : words_of image row ≡ take (count_of (rows_of image) row) (drop (b.entry % 512) words)

-- a turn of a context plays words that are resident: its present block stands on the page that it has needed
abbrev pub TurnsPlayTheirPages : Type 0
TurnsPlayTheirPages =
    (setups : List Setup) → All IsReady setups →
    (frames saved : ℕ) (events : List Event) (c : ℕ) (x : Context) (b : Block) →
    let s = play (first setups frames saved) events in
    slice_get s.contexts c ≡ Some x → x.end ≡ None → block_at (running x.setup) x.entry ≡ Some b →
    (page : Page) × (under (present_key s.contexts x) (step s (Turn c)).paging.pages.resident ≡ Some page)
    × StandsOn page.words x.setup.formed b

-- How the four counts agree; a count stays at 2 ^ 64 - 1 once there.
pub record CountsAgree (p : Paging) : Type 0 where
  -- each page that was loaded is resident still, or was evicted
  pub loaded : p.loaded ≡ min (length p.pages.resident + p.pages.evicted) (2 ^ 64 - 1)
  -- to load a page reschedules it or restores it, or neither
  pub reformed : min (p.rescheduled + p.restored) (2 ^ 64 - 1) ≤ p.loaded

-- no key stands twice among the resident pages, nor among the saved ones, and the counts agree
abbrev pub PagesAreCounted : Type 0
PagesAreCounted =
    (setups : List Setup) (frames saved : ℕ) (events : List Event) →
    let paging = (play (first setups frames saved) events).paging in AreApart paging.pages × CountsAgree paging

-- where each context runs in the generation that its image was made for, no page is rescheduled
abbrev pub NoneRescheduledAtHome : Type 0
NoneRescheduledAtHome =
    (setups : List Setup) (frames saved : ℕ) (events : List Event) → All (λ s. IsFalse (runs_elsewhere s)) setups →
    (play (first setups frames saved) events).paging.rescheduled ≡ 0
