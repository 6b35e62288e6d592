use Rattle.context_system.proofs.Still.{ended_stand_still as law}
use Rattle.context_system.proofs.laws.ended_stand_still.Goals as goal

pub returns : goal.returns
returns c = law
