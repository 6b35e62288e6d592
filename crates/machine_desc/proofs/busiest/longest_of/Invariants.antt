use Rattle.std.proofs.Common.{◌≡◌, take}
use Rattle.machine_desc.specs.Busiest.{longest_among}
use Rattle.machine_desc.proofs.busiest.longest_of.Given as goal

abbrev pub invariant-loop-kind : goal.invariant-loop-kind
invariant-loop-kind g l = l.longest ≡ longest_among (g.G.Generation.description l.g) (take l.kind-index l.kinds)
