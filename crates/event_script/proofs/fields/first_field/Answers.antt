use Rattle.event_script.proofs.Pieces.{field_at, no_field}
use Rattle.event_script.proofs.fields.first_field.Goals as goal

pub returns-in-Some : goal.returns-in-Some
returns-in-Some c =
    let at = field_at c.args.line.now _ _ c.in-Some.start c.in-Some.ensures.value c.in-Some.ensures.bound in
    at c.cut_field.ensures.field c.cut_field.ensures.rest

pub returns-in-None : goal.returns-in-None
returns-in-None c = no_field c.args.line.now c.in-None.ensures.value
