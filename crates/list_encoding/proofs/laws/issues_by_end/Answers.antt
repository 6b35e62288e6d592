use Rattle.list_encoding.proofs.Bounds.{issues_by_end}
use Rattle.list_encoding.proofs.laws.issues_by_end.Goals as goal

pub returns : goal.returns
returns c = issues_by_end
