use Rattle.context_system.proofs.Worked.{are_worked as law}
use Rattle.context_system.proofs.laws.example_is_as_worked.Goals as goal

pub returns : goal.returns
returns c = law
