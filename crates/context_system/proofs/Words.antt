-- The words under a key are always those of its form.
use Rattle.std.proofs.Common.{◌≡◌, List, ◌++◌, refl, sym, ap, ◌∙◌, Some}
use Rattle.std.specs.Prelude.{slice_get}
use Rattle.std.proofs.lemmas.List.Elements.{All-nil}
use Rattle.tnk_base.specs.declared.Key.{Key}
use Rattle.paging.specs.Pages.{Page}
use Rattle.paging.proofs.Kept.{AreGood, found, found_key, without_good, evict_good, need_good}
use Rattle.context_system.specs.Context.{Setup}
use Rattle.context_system.specs.System.{play, first, page_in_form, runs_elsewhere}
use Rattle.context_system.specs.Pages.{HasItsForm, PagesKeepTheirForms, WordsComeBack}
use Rattle.context_system.proofs.Played.{kept}

pub pages_keep_their_forms : PagesKeepTheirForms
pages_keep_their_forms setups frames saved events =
    let all = kept setups (λ p. AreGood (HasItsForm setups) p.pages)
    (λ s k p there h. need_good (HasItsForm setups) (page_in_form s k) (runs_elsewhere s) p (s, there, refl) h)
    (λ k p h. evict_good (HasItsForm setups) k p.pages h)
    (λ k p h. record { resident = h.resident; saved = without_good (HasItsForm setups) k p.pages.saved h.saved })
    frames saved events (record { resident = All-nil (HasItsForm setups); saved = All-nil (HasItsForm setups) }) in
    (all.resident, all.saved)

-- two pages of one key in their forms are equal
same_form : (setups : List Setup) (k : Key) (p q : Page) → p.key ≡ k → q.key ≡ k → HasItsForm setups p → HasItsForm setups q → q ≡ p
same_form setups k p q a b (s, there, is) (r, here, was) =
    let one : slice_get setups k.program ≡ Some s = ap (λ (k : Key). slice_get setups k.program) (sym a) ∙ there in
    let two : slice_get setups k.program ≡ Some r = ap (λ (k : Key). slice_get setups k.program) (sym b) ∙ here in
    let same : r ≡ s = cc in
    was ∙ ap (page_in_form r) b ∙ ap (λ (z : Setup). page_in_form z k) same ∙ ap (page_in_form s) (sym a) ∙ sym is

pub words_come_back : WordsComeBack
words_come_back setups frames saved events events' k before behind h h' =
    same_form setups k before behind
    (found_key k (play (first setups frames saved) events).paging.pages.resident before h)
    (found_key k (play (first setups frames saved) (events ++ events')).paging.pages.resident behind h')
    (found (HasItsForm setups) k (play (first setups frames saved) events).paging.pages.resident before (pages_keep_their_forms setups frames saved events).0 h)
    (found (HasItsForm setups) k (play (first setups frames saved) (events ++ events')).paging.pages.resident behind (pages_keep_their_forms setups frames saved (events ++ events')).0 h')
