use Rattle.std.proofs.Common.{◌≡◌, ◌≤◌}
use Rattle.std.specs.Prelude.{replicate, vec_capacity}
use Rattle.block_links.proofs.lists.refill.Given as goal

abbrev pub invariant-loop : goal.invariant-loop
invariant-loop g l = record {
  items : l.list.items ≡ replicate l.counter l.value;
  room : l.count ≤ vec_capacity l.list;
  more : vec_capacity l.fn.list ≤ vec_capacity l.list;
}
