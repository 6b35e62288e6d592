-- The report of contexts is told, or the first that lacks a unit.
use Rattle.std.proofs.Common.{◌≡◌, ℕ, List, map, Option, Some, None, Err, sym, ap, subst, ◌∙◌}
use Rattle.operation.specs.declared.UnitKind.{UnitKind}
use Rattle.context_system.specs.Context.{Setup}
use Rattle.context_system.specs.Needs.{first_without}
use Rattle.tinker_texts.specs.Refusals.{context_name, no_unit_text}
use Rattle.run_report.specs.Run.{report, runs_as}
use Rattle.run_report.specs.Setups.{IsReport, all_given}
use Rattle.tinker_top.specs.Outcome.{Outcome, says, refused}
use Rattle.tinker_top.proofs.running.ran.Goals as goal

-- what contexts come to, by the first of them that lacks a unit
abbrev told : (report : List ℕ) → Option (ℕ × UnitKind) → Outcome
told report lacking = elim lacking [ Some lack ↦ refused (context_name lack.0) (no_unit_text lack.1) | None ↦ says 0 report ]

pub returns-in-Ok-clause-run : goal.returns-in-Ok-clause-run
returns-in-Ok-clause-run c = λ forms are.
    let s = c.args.settings.now in
    let lines = c.args.lines.now in
    let xs : List Setup = all_given forms c.args.setups in
    let is : IsReport s xs lines c.report.result = c.report.ensures forms are in
    let so = subst (IsReport s xs lines) c.in-Ok.is is in
    ap (told (report s lines xs)) so.0 ∙ ap (says 0) (sym so.1)

pub returns-in_ok-no_unit_for_context-in-Err-NoUnit-clause-run : goal.returns-in_ok-no_unit_for_context-in-Err-NoUnit-clause-run
returns-in_ok-no_unit_for_context-in-Err-NoUnit-clause-run c = λ forms are.
    let xs : List Setup = all_given forms c.args.setups in
    let lack : first_without 0 (map runs_as xs) ≡ Some (c.in-Err-NoUnit.c, c.in-Err-NoUnit.kind) =
    subst (λ e. IsReport c.args.settings.now xs c.args.lines.now (Err e)) c.in-Err-NoUnit.field-0-is (c.in-Err-NoUnit.ensures forms are) in
    ap (told (report c.args.settings.now c.args.lines.now xs)) lack ∙ ap (says 1) (sym c.in_ok-no_unit_for_context-in-Err-NoUnit.ensures)
