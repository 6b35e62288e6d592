use Rattle.std.proofs.Common.{◌+◌, ◌≤◌, ℕ, true, length}
use Rattle.std.specs.Prelude.{vec_capacity}
use Rattle.serial_order.specs.Table.{before}
use Rattle.serial_order.specs.Counts.{unplaced_before}
use Rattle.serial_order.proofs.Progress.{IsProgress}
use Rattle.serial_order.proofs.serial.order_into.Given as goal

abbrev pub invariant-loop-i : goal.invariant-loop-i
invariant-loop-i l = record {
  progress : IsProgress (before l.d) l.d.count l.waits l.placed l.order.items;
  left : length l.order.items + unplaced_before (λ i j. true) l.order.items 0 l.d.count ≤ l.d.count;
  room : l.d.count ≤ vec_capacity l.order;
  more : vec_capacity l.fn.order ≤ vec_capacity l.order;
}

-- how many operations aren't placed
abbrev pub decreases-loop-i : goal.decreases-loop-i
decreases-loop-i l = unplaced_before (λ i j. true) l.order.items 0 l.d.count
