use Rattle.std.proofs.Common.{◌≡◌, ℕ, ◌<◌, [], length, slice_index}
use Rattle.serial_order.specs.Table.{before}
use Rattle.serial_order.specs.Counts.{unplaced_before}
use Rattle.serial_order.proofs.serial.count_all.Given as goal

abbrev pub invariant-loop-i : goal.invariant-loop-i
invariant-loop-i l =
    record {
      size : length l.waits ≡ l.d.count;
      counts : (j : ℕ) → j < l.d.count → slice_index l.waits j ≡ unplaced_before (before l.d) [] j l.i;
    }
