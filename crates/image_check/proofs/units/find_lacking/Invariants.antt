use Rattle.image_check.proofs.UsedKinds.{NoneBelow}
use Rattle.image_check.proofs.units.find_lacking.Given as goal

abbrev pub invariant-loop-kind : goal.invariant-loop-kind
invariant-loop-kind g l = NoneBelow l.a (g.G.Generation.description l.g) l.kind-index
