use Rattle.dependences.proofs.Together.{none_land_together}
use Rattle.dependences.proofs.laws.none_land_together.Goals as goal

pub returns : goal.returns
returns c = none_land_together
