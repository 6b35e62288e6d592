use Rattle.list_encoding.proofs.Bounds.{ends_in_time}
use Rattle.list_encoding.proofs.laws.ends_in_time.Goals as goal

pub returns : goal.returns
returns c = ends_in_time
