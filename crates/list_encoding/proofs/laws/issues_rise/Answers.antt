use Rattle.list_encoding.proofs.Bounds.{issues_rise}
use Rattle.list_encoding.proofs.laws.issues_rise.Goals as goal

pub returns : goal.returns
returns c = issues_rise
