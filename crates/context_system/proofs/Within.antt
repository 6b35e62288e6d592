-- The lists of pages stay within their greatest lengths.
use Rattle.std.proofs.Common.{arith}
use Rattle.paging.specs.Limits.{AreWithin}
use Rattle.paging.proofs.Limits.{evict_within, drop_within, need_within}
use Rattle.context_system.specs.System.{page_in_form, runs_elsewhere}
use Rattle.context_system.specs.Pages.{ListsStayWithin}
use Rattle.context_system.proofs.Played.{kept}

pub lists_stay_within : ListsStayWithin
lists_stay_within setups frames saved events some =
    kept setups (λ p. AreWithin p.pages)
    (λ s k p there h. need_within (page_in_form s k) (runs_elsewhere s) p h)
    (λ k p h. evict_within k p.pages h) (λ k p h. drop_within k p.pages h)
    frames saved events (record { some = some; resident = omega arith; saved = omega arith })
