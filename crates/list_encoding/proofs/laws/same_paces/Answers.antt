use Rattle.list_encoding.proofs.Readings.{same_paces}
use Rattle.list_encoding.proofs.laws.same_paces.Goals as goal

pub returns : goal.returns
returns c = same_paces
