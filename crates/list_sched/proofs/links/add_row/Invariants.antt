use Rattle.std.proofs.Common.{◌≡◌, ◌+◌, ◌≤◌, ◌++◌, length}
use Rattle.std.specs.Prelude.{vec_capacity}
use Rattle.list_sched.specs.Links.{links_below}
use Rattle.list_sched.proofs.links.add_row.Given as goal

abbrev pub invariant-loop-j : goal.invariant-loop-j
invariant-loop-j l = record {
  items : l.links.items ≡ l.fn.links.items ++ links_below l.d l.i l.j;
  few : length l.links.items ≤ length l.fn.links.items + l.j;
  room : vec_capacity l.fn.links ≤ vec_capacity l.links;
}
