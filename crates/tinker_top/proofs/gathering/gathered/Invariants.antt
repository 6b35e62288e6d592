use Rattle.tinker_top.proofs.Gathered.{AreFetched}
use Rattle.tinker_top.proofs.gathering.gathered.Given as goal

abbrev pub invariant-loop-i : goal.invariant-loop-i
invariant-loop-i g l = AreFetched l.settings l.named l.i l.setups.items (g.H.Host.shows l.fn.host) (g.H.Host.shows l.host)
