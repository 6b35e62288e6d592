use Rattle.context_system.proofs.Shared.{shared_run_one_image as law}
use Rattle.context_system.proofs.laws.shared_run_one_image.Goals as goal

pub returns : goal.returns
returns c = law c.reads_back.ensures c.one_rescheduled.ensures
