use Rattle.page_resched.proofs.Pages.{AreWritten}
use Rattle.page_resched.proofs.rescheduling.Resched.blocks.Given as goal

abbrev pub invariant-loop-k : goal.invariant-loop-k
invariant-loop-k g l = AreWritten (g.G.Generation.description l.g) l.p l.k l.out
