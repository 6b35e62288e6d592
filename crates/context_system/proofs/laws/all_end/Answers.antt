use Rattle.context_system.proofs.Rounds.{all_end as law}
use Rattle.context_system.proofs.laws.all_end.Goals as goal

pub returns : goal.returns
returns c = law c.contexts_end.ensures
