use Rattle.list_sched.proofs.SlotCounts.{slots_count}
use Rattle.list_sched.proofs.laws.slots_count.Goals as goal

pub returns : goal.returns
returns c = slots_count
