use Rattle.std.proofs.Common.{◌≡◌, ◌≤◌, ◌&&◌, ℕ}
use Rattle.std.specs.Prelude.{nat_lt}
use Rattle.std.specs.BinaryHeap.{heap_items, heap_capacity}
use Rattle.serial_order.specs.Counts.{one_where}
use Rattle.list_sched.specs.Queue.{IsQueue, entries_of, can_go}
use Rattle.list_sched.proofs.waiting.find_ready.Given as goal

abbrev pub invariant-loop-i : goal.invariant-loop-i
invariant-loop-i l = record {
  queue : IsQueue l.heights (heap_items l.queue);
  entries : (j : ℕ) → entries_of (heap_items l.queue) j ≡ one_where (nat_lt j l.i && can_go l.kinds l.waits j);
  room : heap_capacity l.fn.queue ≤ heap_capacity l.queue;
}
