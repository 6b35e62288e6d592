use Rattle.size_invariance.proofs.Likeness.{reorderings_keep_operations}
use Rattle.size_invariance.proofs.laws.reorderings_keep_operations.Goals as goal

pub returns : goal.returns
returns c = reorderings_keep_operations
