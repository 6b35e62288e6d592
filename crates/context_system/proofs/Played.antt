-- What is kept as the pages of programs are needed, evicted and dropped holds after every list of events.
use Rattle.std.proofs.Common.{◌≡◌, ℕ, List, [], ◌∷◌, refl, sym, ap, ◌∙◌, Option, Some, None}
use Rattle.std.specs.Prelude.{slice_get, slice_set, option_map}
use Rattle.tnk_base.specs.declared.Key.{Key}
use Rattle.operation.specs.declared.End.{End}
use Rattle.paging.specs.Pages.{Paging, evict, drop_saved, need}
use Rattle.context_system.specs.declared.Event.{Event}
use Rattle.context_system.specs.declared.Event.TheVariants.{Turn, Evict, Drop, Prefetch}
use Rattle.context_system.specs.Context.{Setup, Context, turn}
use Rattle.context_system.specs.System.{System, step, play, first, empty, needed, page_in_form, runs_elsewhere, present_key, paging_for_turn}
use Rattle.context_system.proofs.Setups.{HasSetups, step_has, opened_have}

module _
    (setups : List Setup) (Kept : Paging → Type 0)
    (needs : (s : Setup) (k : Key) (p : Paging) → slice_get setups k.program ≡ Some s → Kept p → Kept (need (page_in_form s k) (runs_elsewhere s) p))
    (evicts : (k : Key) (p : Paging) → Kept p → Kept (record p { pages = evict k p.pages }))
    (drops : (k : Key) (p : Paging) → Kept p → Kept (record p { pages = drop_saved k p.pages }))
  where
    needed_kept : (s : System) (k : Key) → HasSetups setups s → Kept s.paging → Kept (needed s.contexts k s.paging)
    needed_kept s k own h = go (slice_get s.contexts k.program) refl
      where
        go : (o : Option Context) → slice_get s.contexts k.program ≡ o →
            Kept (elim o [ None ↦ s.paging | Some x ↦ need (page_in_form x.setup k) (runs_elsewhere x.setup) s.paging ])
        go None e = h
        go (Some x) e = needs x.setup k s.paging (sym (own.each k.program) ∙ ap (option_map (λ (x : Context). x.setup)) e) h

    turn_kept : (s : System) (c : ℕ) → HasSetups setups s → Kept s.paging → Kept (step s (Turn c)).paging
    turn_kept s c own h = go (slice_get s.contexts c)
      where
        at_end : (x : Context) (o : Option End) → Kept (elim o [ None ↦ needed s.contexts (present_key s.contexts x) s.paging | Some e ↦ s.paging ])
        at_end x None = needed_kept s (present_key s.contexts x) own h
        at_end x (Some e) = h

        go : (o : Option Context) →
            let t : System = elim o [
              | None ↦ s
              | Some x ↦ record { contexts = slice_set s.contexts c (turn x); paging = paging_for_turn s.contexts x s.paging }
            ] in Kept t.paging
        go None = h
        go (Some x) = at_end x x.end

    step_kept : (s : System) (e : Event) → HasSetups setups s → Kept s.paging → Kept (step s e).paging
    step_kept s (Turn c) own h = turn_kept s c own h
    step_kept s (Evict k) own h = evicts k s.paging h
    step_kept s (Drop k) own h = drops k s.paging h
    step_kept s (Prefetch k) own h = needed_kept s k own h

    play_kept : (s : System) (events : List Event) → HasSetups setups s → Kept s.paging → Kept (play s events).paging
    play_kept s [] own h = h
    play_kept s (e ∷ es) own h = play_kept (step s e) es (step_has setups s e own) (step_kept s e own h)

    pub kept : (frames saved : ℕ) (events : List Event) → Kept (empty frames saved) → Kept (play (first setups frames saved) events).paging
    kept frames saved events h = play_kept (first setups frames saved) events (record { each = opened_have setups }) h
