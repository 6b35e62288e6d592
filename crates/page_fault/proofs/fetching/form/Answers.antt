use Rattle.std.proofs.Common.{sym, ap, subst}
use Rattle.machine_desc.specs.Ranges.{in_description}
use Rattle.machine_desc.specs.Value.{description_of}
use Rattle.image_format.specs.Image.{Image}
use Rattle.page_resched.specs.Form.{HasPageUnits}
use Rattle.image_resched.proofs.Gathered.{page_units}
use Rattle.page_fault.proofs.Fetched.{tested}
use Rattle.page_fault.proofs.fetching.form.Goals as goal

pub page-requires-2-clause-units : goal.page-requires-2-clause-units
page-requires-2-clause-units c =
    subst (HasPageUnits (description_of c.args.program.now.chosen)) (sym c.page.ensures)
    (page_units c.args.program.now.image (description_of c.args.program.now.chosen) c.parts.ensures.accepted c.requires.units c.args.n)

pub returns-clause-moved : goal.returns-clause-moved
returns-clause-moved c =
    let g = c.args.program.now.chosen in
    tested c.args.program.now.image.description (description_of c.parts.result.now.description) (description_of g) c.same.result c.parts.ensures.accepted.written.description
    (in_description g.width g.units g.latencies g.busy_times g.in_range) (ap (λ (i : Image). i.description) c.parts.ensures.image) c.same.ensures
