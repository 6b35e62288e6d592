use Rattle.std.proofs.Common.{[], map, ap, ◌∙◌}
use Rattle.machine_desc.specs.Description.{Description}
use Rattle.run_report.specs.Run.{context_of}
use Rattle.tinker_top.specs.Command.{image_of}
use Rattle.run_report.specs.Setups.{as_given}
use Rattle.tinker_top.proofs.Made.{same_three}
use Rattle.tinker_top.proofs.generating.all_made.Goals as goal

pub returns-clause-given : goal.returns-clause-given
returns-clause-given c = λ forms.
    let s = c.args.settings.now in
    let image = image_of c.args.workload.now in
    ap (map (as_given forms)) c.in_ok-three.ensures
    ∙ same_three _ _ _ _ _ _
    (c.in_ok-as_t1.ensures.given forms ∙ ap (λ (g : Description). context_of forms s image g []) c.described.ensures)
    (c.in_ok-as_t2.ensures.given forms ∙ ap (λ (g : Description). context_of forms s image g []) c.described-2.ensures)
    (c.in_ok-as_t3.ensures.given forms ∙ ap (λ (g : Description). context_of forms s image g []) c.described-3.ensures)
