use Rattle.std.proofs.Common.{◌≡◌, ◌+◌, ◌≤◌, ◌<◌, ℕ, get_or, length, take}
use Rattle.std.specs.BinaryHeap.{heap_items, heap_capacity}
use Rattle.serial_order.specs.Counts.{one_where}
use Rattle.block_links.specs.Links.{count_to}
use Rattle.list_sched.specs.Queue.{IsQueue, entries_of, is_freed}
use Rattle.list_sched.proofs.waiting.release.Given as goal

abbrev pub invariant-loop-link : goal.invariant-loop-link
invariant-loop-link l = record {
  size : length l.waits ≡ length l.initial.waits;
  off : (j : ℕ) → get_or l.waits j 0 + count_to (take l.link-index l.links) j ≡ get_or l.initial.waits j 0;
  queue : IsQueue l.heights (heap_items l.queue);
  freed : (j : ℕ) → j < length l.waits → entries_of (heap_items l.queue) j ≡ entries_of (heap_items l.fn.queue) j + one_where (is_freed l.kinds l.initial.waits l.waits j);
  room : heap_capacity l.fn.queue ≤ heap_capacity l.queue;
}
