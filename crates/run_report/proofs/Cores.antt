-- What a core shows of the contexts of its system.
use Rattle.std.proofs.Common.{◌≡◌, ℕ, zero, suc, List, [], ◌∷◌, length, Option, Some, None, refl, sym, ap, ◌∙◌}
use Rattle.std.specs.Prelude.{Bool, slice_get}
use Rattle.operation.specs.declared.End.{End}
use Rattle.block_steps.specs.Steps.{Moment}
use Rattle.page_fault.specs.declared.Loaded.{Loaded}
use Rattle.context_system.specs.Context.{Context}
use Rattle.context_system.specs.System.{System}
use Rattle.contexts.specs.Core.{Seat, Contexts, IsSeated, Holds}
use Rattle.tinker_texts.specs.Report.{part, cycles_line}
use Rattle.run_report.specs.Run.{texts_from}
use Rattle.run_report.specs.Seats.{seat_part, seat_cycles}
use Rattle.run_report.proofs.Texts.{texts_same}
use Rattle.run_report.proofs.Reports.{part_of, cycles_of}

-- a list of the same length has one at the same place
pub there : {X Y : Type 0} (xs : List X) (ys : List Y) (c : ℕ) (y : Y) → length xs ≡ length ys → slice_get ys c ≡ Some y → (x : X) × (slice_get xs c ≡ Some x)
there xs [] c y e h = absurd (let none : ⊥ = cc in none)
there [] (z ∷ ys) c y e h = absurd (let none : ⊥ = cc in none)
there (x ∷ xs) (z ∷ ys) zero y e h = (x, refl)
there (x ∷ xs) (z ∷ ys) (suc c) y e h = let n : length xs ≡ length ys = cc in there xs ys c y n h

same_part : (dump : Bool) (n : ℕ) (xs : List Context) (own : Loaded) (seat : Seat) (x : Context) → IsSeated xs own seat x → seat_part dump n seat ≡ part_of dump n x
same_part dump n xs own seat x h = go x.end seat.end h.end
  where
    go : (o e : Option End) → o ≡ e →
        let s : List ℕ = elim e [ None ↦ [] | Some e ↦ part n dump e seat.blocks seat.moment.state.output seat.moment.state.memory ] in
        let t : List ℕ = elim o [ None ↦ [] | Some e ↦ part n dump e x.blocks x.moment.state.output x.moment.state.memory ] in s ≡ t
    go None None is = refl
    go None (Some e) is = absurd (let none : ⊥ = cc in none)
    go (Some o) None is = absurd (let none : ⊥ = cc in none)
    go (Some o) (Some e) is =
        let same : o ≡ e = cc in
        ap (λ (z : End). part n dump z seat.blocks seat.moment.state.output seat.moment.state.memory) (sym same)
        ∙ ap (λ b. part n dump o b seat.moment.state.output seat.moment.state.memory) (sym h.blocks)
        ∙ ap (λ (m : Moment). part n dump o x.blocks m.state.output m.state.memory) (sym h.moment)

module _ (core : Contexts) (s : System) (h : Holds core s) where
  pub seated : (c : ℕ) (seat : Seat) (x : Context) → slice_get core.seats c ≡ Some seat → slice_get s.contexts c ≡ Some x → (own : Loaded) × IsSeated s.contexts own seat x
  seated c seat x at found = let own = there core.loading.programs s.contexts c x h.programs found in (own.0, h.each c own.0 seat x own.1 at found)

  pub shows_parts : (dump : Bool) → texts_from (seat_part dump) 0 core.seats ≡ texts_from (part_of dump) 0 s.contexts
  shows_parts dump =
      texts_same (seat_part dump) (part_of dump) core.seats s.contexts 0 h.seats
      (λ c seat x at found n. let q = seated c seat x at found in same_part dump n s.contexts q.0 seat x q.1)

  pub shows_cycles : texts_from seat_cycles 0 core.seats ≡ texts_from cycles_of 0 s.contexts
  shows_cycles =
      texts_same seat_cycles cycles_of core.seats s.contexts 0 h.seats
      (λ c seat x at found n. let q = seated c seat x at found in ap (λ (m : Moment). cycles_line n m.cycles) (sym q.1.moment))
