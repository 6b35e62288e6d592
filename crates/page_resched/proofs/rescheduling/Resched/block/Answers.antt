-- By the schedule of the block.
use Rattle.std.proofs.Common.{arith}
use Rattle.page_resched.proofs.rescheduling.Resched.block.Goals as goal

pub write_block-requires-clause-room : goal.write_block-requires-clause-room
write_block-requires-clause-room g c = let few = c.plan_block.ensures.good.few in let room = c.self.invariant.order in omega arith
