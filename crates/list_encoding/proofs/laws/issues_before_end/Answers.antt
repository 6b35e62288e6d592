use Rattle.list_encoding.proofs.Bounds.{issues_before_end}
use Rattle.list_encoding.proofs.laws.issues_before_end.Goals as goal

pub returns : goal.returns
returns c = issues_before_end
