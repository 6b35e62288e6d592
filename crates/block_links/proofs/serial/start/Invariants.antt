use Rattle.std.proofs.Common.{◌≤◌}
use Rattle.std.specs.Prelude.{vec_capacity}
use Rattle.block_links.specs.Idle.{AreIdle}
use Rattle.block_links.proofs.serial.start.Given as goal

abbrev pub invariant-loop-i : goal.invariant-loop-i
invariant-loop-i l = record {
  idle : AreIdle l.i l.waits l.order.items;
  more : vec_capacity l.fn.order ≤ vec_capacity l.order;
}
