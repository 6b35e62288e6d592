use Rattle.workload.proofs.Accepted.{generated_is_accepted}
use Rattle.workload.proofs.laws.generated_is_accepted.Goals as goal

pub returns : goal.returns
returns c = generated_is_accepted
