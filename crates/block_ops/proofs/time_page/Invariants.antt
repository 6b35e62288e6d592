use Rattle.block_ops.proofs.Written.{AreWritten}
use Rattle.block_ops.proofs.time_page.Given as goal

abbrev pub invariant-loop-k : goal.invariant-loop-k
invariant-loop-k g l = AreWritten (g.G.Generation.description l.g) l.page l.words l.k l.ops l.ends
