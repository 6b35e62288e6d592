use Rattle.dependences.proofs.Clashes.{clashes_land_together}
use Rattle.dependences.proofs.laws.clashes_land_together.Goals as goal

pub returns : goal.returns
returns c = clashes_land_together
