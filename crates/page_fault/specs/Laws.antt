-- What holds of pages in their form.
use Rattle.std.specs.Prelude.{◌≡◌, ◌<◌, List, slice_get, Some}
use Rattle.machine_desc.specs.Value.{description_of}
use Rattle.image_format.specs.Image.{Image, page_count}
use Rattle.image_check.specs.Blocks.{page_of}
use Rattle.image_resched.specs.Rescheduled.{IsRescheduled}
use Rattle.image_resched.specs.Laws.{IsMovable}
use Rattle.paging.specs.Pages.{Page}
use Rattle.page_fault.specs.declared.Loaded.{Loaded}
use Rattle.page_fault.specs.Loading.{HasForm}

-- a page in its form has the words that the image has there in its program's generation
abbrev pub FormsAreOfTheImage : Type 0
FormsAreOfTheImage =
    (programs : List Loaded) (page : Page) (p : Loaded) (formed : Image) →
    HasForm programs page → slice_get programs page.key.program ≡ Some p → page.key.page < page_count p.image →
    IsMovable p.image (description_of p.chosen) → IsRescheduled p.image (description_of p.chosen) formed →
    page.words ≡ (page_of formed page.key.page).words
