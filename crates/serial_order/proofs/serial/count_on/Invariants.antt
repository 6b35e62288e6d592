use Rattle.std.proofs.Common.{◌≡◌, ℕ, ◌+◌, ◌<◌, ◌≤◌, slice_index}
use Rattle.serial_order.specs.Table.{before}
use Rattle.serial_order.specs.Counts.{one_where}
use Rattle.serial_order.proofs.serial.count_on.Given as goal

abbrev pub invariant-loop-j : goal.invariant-loop-j
invariant-loop-j l =
    record {
      done : (k : ℕ) → k < l.j → slice_index l.waits k ≡ slice_index l.initial.waits k + one_where (before l.d l.i k);
      rest : (k : ℕ) → l.j ≤ k → slice_index l.waits k ≡ slice_index l.initial.waits k;
    }
