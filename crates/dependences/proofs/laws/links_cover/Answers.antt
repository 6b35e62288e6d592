use Rattle.dependences.proofs.Covering.{links_cover}
use Rattle.dependences.proofs.laws.links_cover.Goals as goal

pub returns : goal.returns
returns c = links_cover
