use Rattle.operation.proofs.GuardedParts.{equal_by_parts}
use Rattle.operation.proofs.laws.equal_by_parts.Goals as goal

pub returns : goal.returns
returns c = equal_by_parts
