use Rattle.std.proofs.Common.{◌≡◌, ◌≤◌, ◌*◌, get_or, length}
use Rattle.std.specs.Prelude.{vec_capacity}
use Rattle.std.specs.BinaryHeap.{heap_items, heap_capacity}
use Rattle.list_sched.specs.Links.{linked}
use Rattle.list_sched.specs.Work.{IsKept}
use Rattle.list_sched.specs.Rooms.{IsKnown}
use Rattle.list_sched.proofs.Plans.{IsPlan}
use Rattle.list_sched.proofs.Waits.{IsWaiting}
use Rattle.list_sched.proofs.placing.place.Given as goal

abbrev pub invariant-loop-step : goal.invariant-loop-step
invariant-loop-step g l = record {
  count : length l.order.items ≡ l.step;
  plan : IsPlan (linked l.links l.kinds (g.G.Generation.description l.g)) (λ k. get_or l.heights k 0) l.order.items l.cycle l.work.rooms.slots l.end;
  waiting : IsWaiting l.links l.kinds (g.G.Generation.description l.g) l.heights l.order.items l.cycle l.work.waits.items l.work.least.items (heap_items l.work.queue);
  known : IsKnown (g.G.Generation.description l.g) l.work.rooms;
  used : l.work.rooms.count ≡ 32 * length l.kinds;
  queue : length l.kinds ≤ heap_capacity l.work.queue;
  room : length l.kinds ≤ vec_capacity l.order;
  more : vec_capacity l.fn.order ≤ vec_capacity l.order;
  kept : IsKept l.fn.work l.work;
}
