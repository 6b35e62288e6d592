use Rattle.context_system.proofs.Example.{premises_can_be_met as law}
use Rattle.context_system.proofs.laws.premises_can_be_met.Goals as goal

pub returns : goal.returns
returns c = law
