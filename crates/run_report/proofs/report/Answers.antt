-- Contexts that can run have run, and their report is told.
use Rattle.std.proofs.Common.{◌≡◌, List, map, Vec, Global, None, Some, Result, Ok, Err, IsErr, IsErrAnd, sym, ap, subst, ◌∙◌}
use Rattle.std.specs.Prelude.{All}
use Rattle.context_system.specs.Context.{Setup}
use Rattle.context_system.specs.Needs.{first_without}
use Rattle.context_system.specs.System.{first}
use Rattle.context_system.specs.Meant.{IsReady}
use Rattle.contexts.specs.declared.Setup.{Setup as Given}
use Rattle.contexts.specs.declared.cores.OpenFault.{OpenFault}
use Rattle.contexts.specs.declared.cores.OpenFault.TheVariants.{NoUnit, NoMemory}
use Rattle.contexts.specs.Core.{Holds, IsOpenFault}
use Rattle.image_resched.specs.Laws.{Forms}
use Rattle.event_script.specs.declared.reading.Line.{Line}
use Rattle.tinker_words.specs.declared.settings.Number.TheVariants.{Frames, Saved, Bound}
use Rattle.tinker_words.specs.Settings.{Settings, number}
use Rattle.run_report.specs.Setups.{IsReport, as_given, all_given}
use Rattle.run_report.proofs.Given.{setups_are, all_ready, bounds_are, runs_are, lines_are_for}
use Rattle.run_report.proofs.report.Goals as goal

pub told-requires : goal.told-requires
told-requires c = lines_are_for c.args.setups.items c.in_ok-core.core c.args.lines.now c.in_ok-core.ensures.runs c.requires.there

pub returns : goal.returns
returns c = λ forms are.
    let s = c.args.settings.now in
    let setups = c.args.setups.items in
    let xs : List Setup = map (as_given forms) setups in
    let ready : All IsReady xs = all_ready forms are s setups c.in_ok-core.ensures.movable c.requires.given.bounds in
    let bounds : All (λ y. y.bound ≡ number s Bound) xs = bounds_are forms s setups c.requires.given.bounds in
    let held : Holds c.in_ok-core.core (first xs c.number-frames.result c.number-saved.result) =
    c.in_ok-core.ensures.core xs (setups_are forms are setups c.in_ok-core.ensures.movable) in
    let begun : Holds c.in_ok-core.core (first xs (number s Frames) (number s Saved)) =
    subst (λ n. Holds c.in_ok-core.core (first xs n (number s Saved))) c.number-frames.ensures.value
    (subst (λ n. Holds c.in_ok-core.core (first xs c.number-frames.result n)) c.number-saved.ensures.value held) in
    (ap (first_without 0) (runs_are forms setups) ∙ c.in_ok-core.ensures.units, c.in_ok-told.ensures xs ready bounds begun)

-- contexts that can't be opened: the fault is handed on
refused : (forms : Forms) (s : Settings) (lines : List Line) (setups : Vec Given Global) (fault : OpenFault) → IsOpenFault setups.items fault →
    IsReport s (all_given forms setups) lines (Err fault)
refused forms s lines setups (NoUnit c kind) lack = ap (first_without 0) (runs_are forms setups.items) ∙ lack
refused forms s lines setups NoMemory h = tt

handed_on : {V : Type 0} (r : Result V OpenFault) (fault : OpenFault) → IsErr r × IsErrAnd r (λ e. e ≡ fault) → r ≡ Err fault
handed_on (Ok v) fault h = absurd (let k : ⊥ = h.1 in k)
handed_on (Err e) fault h = ap Err h.1

pub returns-in_err-core : goal.returns-in_err-core
returns-in_err-core c = λ forms are.
    let s = c.args.settings.now in
    let lines = c.args.lines.now in
    subst (IsReport s (all_given forms c.args.setups) lines) (sym (handed_on c.from_residual.result c.in_err-core.field-0.0 c.from_residual.ensures))
    (refused forms s lines c.args.setups c.in_err-core.field-0.0 c.in_err-core.ensures.core)
