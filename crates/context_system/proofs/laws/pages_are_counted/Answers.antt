use Rattle.context_system.proofs.PageCounts.{pages_are_counted as law}
use Rattle.context_system.proofs.laws.pages_are_counted.Goals as goal

pub returns : goal.returns
returns c = law
