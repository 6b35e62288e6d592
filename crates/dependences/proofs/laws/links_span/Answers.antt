use Rattle.dependences.proofs.Spanning.{links_span}
use Rattle.dependences.proofs.laws.links_span.Goals as goal

pub returns : goal.returns
returns c = links_span
