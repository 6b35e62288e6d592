use Rattle.block_ops.proofs.Filled.{IsTimedTo}
use Rattle.block_ops.proofs.time_block.Given as goal

abbrev pub invariant-loop-k : goal.invariant-loop-k
invariant-loop-k g l = IsTimedTo (g.G.Generation.description l.g) l.words l.k l.present l.next l.ops
