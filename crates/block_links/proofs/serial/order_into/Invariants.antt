use Rattle.std.proofs.Common.{◌≤◌, ◌-◌, length}
use Rattle.std.specs.Prelude.{vec_capacity}
use Rattle.block_links.proofs.Queued.{IsQueued}
use Rattle.block_links.proofs.serial.order_into.Given as goal

abbrev pub invariant-loop-next : goal.invariant-loop-next
invariant-loop-next l = record {
  queued : IsQueued l.links (length l.fn.waits) l.next l.waits l.order.items;
  so_far : l.next ≤ length l.order.items;
  more : vec_capacity l.fn.order ≤ vec_capacity l.order;
}

-- how many operations may still stand behind
abbrev pub decreases-loop-next : goal.decreases-loop-next
decreases-loop-next l = length l.fn.waits - l.next
