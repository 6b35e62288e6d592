-- One more entry.
use Rattle.std.proofs.Common.{◌≡◌, ◌<◌, length, rules, arith, refl}
use Rattle.std.specs.BinaryHeap.{heap_items, heap_len, heap_capacity}
use Rattle.list_sched.proofs.Queues.{room_for, pushed_more, pushed_queue}
use Rattle.list_sched.proofs.waiting.queue_up.Goals as goal

pub unreachable-requires : goal.unreachable-requires
unreachable-requires c =
    let r = room_for c.args.heights.now (heap_items c.args.queue.now) c.requires.queue c.args.i c.requires.inside c.requires.new in
    let many : heap_len c.args.queue.now ≡ length (heap_items c.args.queue.now) = search rules in
    let room : heap_len c.args.queue.now < heap_capacity c.args.queue.now = (let q = c.requires.room in omega arith) in
    let fine = c.push.ensures.succeeds room in
    search rules

pub returns-clause-queue : goal.returns-clause-queue
returns-clause-queue c = pushed_queue c.args.heights.now (heap_items c.args.queue.now) c.requires.queue c.args.i c.requires.inside c.requires.new _ refl refl (heap_items c.push.new.self) c.in-Ok.ensures.permutation (c.in-Ok.ensures.heap_order c.requires.queue.ordered)

pub returns-clause-more : goal.returns-clause-more
returns-clause-more c = pushed_more c.args.heights.now (heap_items c.args.queue.now) c.requires.queue c.args.i c.requires.inside c.requires.new _ refl refl (heap_items c.push.new.self) c.in-Ok.ensures.permutation
