-- Operation by operation.
use Rattle.std.proofs.Common.{◌≡◌, ◌⊎◌, sym, ap, subst, ◌∙◌, arith, inl, inr, true}
use Rattle.std.specs.Prelude.{slice_index}
use Rattle.std.specs.BinaryHeap.{heap_items, heap_capacity}
use Rattle.list_sched.specs.Queue.{IsQueue, entries_of, is_branch, can_go}
use Rattle.list_sched.proofs.Queues.{ready_more, ready_same, goes, stays}
use Rattle.list_sched.proofs.waiting.find_ready.Goals as goal
use Rattle.list_sched.proofs.waiting.find_ready.Goals.{then-waits-i-eq0+then-not-branches, else-waits-i-eq0, else-waits-i-eq0-via-then-waits-i-eq0+else-not-branches, else-waits-i-eq0-via-else-waits-i-eq0}

pub loop-i-preserved : goal.loop-i-preserved
loop-i-preserved c =
    let ready = can_go c.args.kinds.now c.args.waits.now in
    let i = c.loop-i.i in
    let was = entries_of (heap_items c.loop-i.queue) in
    let so_far = c.loop-i.invariant.entries in
    elim c.if-waits-i-eq0.branch [
      | then-waits-i-eq0+then-not-branches w ↦
          (let t = goes c.args.kinds.now c.args.waits.now i w.if-waits-i-eq0.true (sym w.branches.ensures ∙ w.if-not-branches.true) in
          record {
            queue = subst (λ q. IsQueue c.args.heights.now (heap_items q)) (sym w.queue-is) w.queue_up.ensures.queue;
            entries = λ j. ap (λ q. entries_of (heap_items q) j) w.queue-is ∙ ready_more ready i was so_far t (entries_of (heap_items w.queue_up.new.queue)) w.queue_up.ensures.more j;
            room = let a = c.loop-i.invariant.room in let b = w.queue_up.ensures.room in let e = ap heap_capacity w.queue-is in omega arith;
          })
      | else-waits-i-eq0 w ↦
          (let why : (slice_index c.args.waits.now i ≡ 0 → ⊥) ⊎ (is_branch c.args.kinds.now i ≡ true) = elim w.else-waits-i-eq0.branch [
            | else-waits-i-eq0-via-then-waits-i-eq0+else-not-branches v ↦ inr (sym v.branches.ensures ∙ v.if-not-branches.false)
            | else-waits-i-eq0-via-else-waits-i-eq0 v ↦ inl v.if-waits-i-eq0.false
          ] in
          let f = stays c.args.kinds.now c.args.waits.now i why in
          record {
            queue = subst (λ q. IsQueue c.args.heights.now (heap_items q)) (sym w.queue-is) c.loop-i.invariant.queue;
            entries = λ j. ap (λ q. entries_of (heap_items q) j) w.queue-is ∙ ready_same ready i was so_far f j;
            room = let a = c.loop-i.invariant.room in let e = ap heap_capacity w.queue-is in omega arith;
          })
    ]
