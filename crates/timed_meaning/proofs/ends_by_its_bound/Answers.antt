use Rattle.timed_meaning.proofs.Afterwards.{ends_by_its_bound_lem}
use Rattle.timed_meaning.proofs.ends_by_its_bound.Goals as goal

pub returns : goal.returns
returns c = ends_by_its_bound_lem
