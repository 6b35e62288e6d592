use Rattle.context_system.proofs.PageCounts.{none_rescheduled_at_home as law}
use Rattle.context_system.proofs.laws.none_rescheduled_at_home.Goals as goal

pub returns : goal.returns
returns c = law
