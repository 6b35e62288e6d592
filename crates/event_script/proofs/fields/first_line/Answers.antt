use Rattle.event_script.proofs.Pieces.{line_at, one_line}
use Rattle.event_script.proofs.fields.first_line.Goals as goal

pub returns-in-Some-clause-split : goal.returns-in-Some-clause-split
returns-in-Some-clause-split c = line_at c.args.text.now c.in-Some.end c.in-Some.ensures.value c.in-Some.ensures.bound

pub returns-in-None-clause-split : goal.returns-in-None-clause-split
returns-in-None-clause-split c = one_line c.args.text.now c.in-None.ensures.value
