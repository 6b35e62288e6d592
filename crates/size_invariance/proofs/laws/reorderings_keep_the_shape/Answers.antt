use Rattle.size_invariance.proofs.Shapes.{reorderings_keep_the_shape}
use Rattle.size_invariance.proofs.laws.reorderings_keep_the_shape.Goals as goal

pub returns : goal.returns
returns c = reorderings_keep_the_shape
