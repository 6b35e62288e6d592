use Rattle.std.proofs.Common.{◌≤◌}
use Rattle.std.specs.Prelude.{vec_capacity}
use Rattle.list_sched.proofs.Filled.{IsFilled}
use Rattle.list_sched.proofs.links.fill.Given as goal

abbrev pub invariant-loop-i : goal.invariant-loop-i
invariant-loop-i l = record {
  filled : IsFilled l.d l.links.starts.items l.links.links.items l.i;
  starts : vec_capacity l.fn.links.starts ≤ vec_capacity l.links.starts;
  links : vec_capacity l.fn.links.links ≤ vec_capacity l.links.links;
}
