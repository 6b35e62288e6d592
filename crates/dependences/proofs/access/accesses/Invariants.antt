use Rattle.std.proofs.Common.{◌≡◌}
use Rattle.dependences.specs.Listed.{ops_at}
use Rattle.dependences.specs.Accesses.{all_accesses}
use Rattle.dependences.proofs.access.accesses.Given as goal

abbrev pub invariant-loop-number : goal.invariant-loop-number
invariant-loop-number l = l.list.items ≡ all_accesses (ops_at l.nodes) l.number
