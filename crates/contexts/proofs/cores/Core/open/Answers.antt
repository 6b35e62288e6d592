-- The contexts are seated, beside their programs and no page.
use Rattle.std.proofs.Common.{List, refl, sym, subst}
use Rattle.std.specs.Prelude.{All}
use Rattle.machine_desc.specs.Value.{description_of}
use Rattle.image_check.specs.Units.{HasUnits}
use Rattle.page_fault.specs.Loading.{Loading}
use Rattle.context_system.specs.System.{first}
use Rattle.contexts.specs.declared.Setup.{Setup}
use Rattle.contexts.specs.Core.{Holds, Runs}
use Rattle.contexts.specs.Standing.{IsCore, contexts_of}
use Rattle.contexts.proofs.Opened.{movable, programs_have_units, runs_setups, holds, core, out_of_memory}
use Rattle.contexts.proofs.cores.Core.open.Goals as goal

pub new-requires-clause-units : goal.new-requires-clause-units
new-requires-clause-units c =
    programs_have_units c.args.setups.items c.in_ok-seats.seats.items c.in_ok-seats.programs.items c.in_ok-seats.ensures
    (subst (λ (l : List Setup). All (λ s. HasUnits s.image (description_of s.chosen)) l) c.deref.ensures.value (c.in_default.ensures.units refl))

pub returns-in_err-pages-clause-core : goal.returns-in_err-pages-clause-core
returns-in_err-pages-clause-core c = out_of_memory _ c.args.setups.items c.from_residual-in_err-pages.result c.from_residual-in_err-pages.ensures

module _ (c : goal.In_ok-pages) where
  units : All (λ s. HasUnits s.image (description_of s.chosen)) c.args.setups.items
  units = subst (λ (l : List Setup). All (λ s. HasUnits s.image (description_of s.chosen)) l) c.deref.ensures.value (c.in_default.ensures.units refl)

pub invariant_of-result : goal.invariant_of-result
invariant_of-result c =
    let forms = c.forms_are_there.ensures in
    subst (λ (l : Loading). IsCore c.in_ok-seats.seats.items l c.in_ok-pages.pages) (sym c.in_ok-loader.ensures)
    (core c.args.setups.items c.in_ok-seats.seats.items c.in_ok-seats.programs.items c.in_ok-seats.ensures (units c)
    c.reads_back.ensures c.ready_at_entry.ensures forms.0 forms.1 c.requires.bound c.requires.few c.args.frames c.args.saved
    c.in_ok-pages.pages c.in_ok-pages.ensures.unread c.in_ok-pages.ensures.size)

pub returns-clause-core : goal.returns-clause-core
returns-clause-core c = λ given are.
    subst (λ (l : Loading). Holds (contexts_of c.in_ok-seats.seats.items l) (first given c.args.frames c.args.saved)) (sym c.in_ok-loader.ensures)
    (holds c.args.setups.items c.in_ok-seats.seats.items c.in_ok-seats.programs.items c.in_ok-seats.ensures (units c) given are
    c.reads_back.ensures c.args.frames c.args.saved)

pub returns-clause-movable : goal.returns-clause-movable
returns-clause-movable c = movable c.args.setups.items c.in_ok-seats.seats.items c.in_ok-seats.programs.items c.in_ok-seats.ensures (units c)

pub returns-clause-runs : goal.returns-clause-runs
returns-clause-runs c =
    subst (λ (l : Loading). Runs c.args.setups.items (contexts_of c.in_ok-seats.seats.items l)) (sym c.in_ok-loader.ensures)
    (runs_setups c.args.setups.items c.in_ok-seats.seats.items c.in_ok-seats.programs.items c.in_ok-seats.ensures (units c) c.args.frames c.args.saved)
