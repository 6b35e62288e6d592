use Rattle.size_invariance.proofs.Shapes.{shapes_are_transitive}
use Rattle.size_invariance.proofs.laws.shapes_are_transitive.Goals as goal

pub returns : goal.returns
returns c = shapes_are_transitive
