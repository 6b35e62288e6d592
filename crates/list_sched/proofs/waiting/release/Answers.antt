-- Link by link.
use Rattle.std.proofs.Common.{◌≡◌, ◌<◌, ◌≤◌, ◌-◌, ◌⊎◌, length, get_or, sym, ap, subst, ◌∙◌, arith, inl, inr, true}
use Rattle.std.specs.Prelude.{slice_index, slice_set}
use Rattle.std.specs.BinaryHeap.{heap_items, heap_capacity}
use Rattle.std.proofs.lemmas.List.{take_more, length-set}
use Rattle.block_links.specs.declared.links.Dependence.TheVariants.{Flow}
use Rattle.block_links.specs.declared.links.Link.{Link}
use Rattle.list_sched.specs.Queue.{IsQueue, entries_of, is_branch}
use Rattle.block_links.proofs.Counted.{waits_still, off_more}
use Rattle.list_sched.proofs.Releases.{no_entry, freed_more, freed_same}
use Rattle.list_sched.proofs.waiting.release.Goals as goal
use Rattle.list_sched.proofs.waiting.release.Goals.{then-waits-to-eq0+then-not-branches, else-waits-to-eq0, else-waits-to-eq0-via-then-waits-to-eq0+else-not-branches, else-waits-to-eq0-via-else-waits-to-eq0}

abbrev none : Link
none = record { to = 0; dependence = Flow }

pub overflow_sub-waits : goal.overflow_sub-waits
overflow_sub-waits c =
    let k = c.loop-link.link-index in
    let x : Link = get_or c.args.links.now k none in
    waits_still c.args.links.now k c.loop-link-test.true x (take_more c.args.links.now k none c.loop-link-test.true) c.args.waits.now c.loop-link.waits c.loop-link.invariant.size
    (let i = c.requires.inside k none c.loop-link-test.true in let w = c.requires.waits in omega arith) c.requires.counted c.loop-link.invariant.off

pub queue_up-requires-clause-new : goal.queue_up-requires-clause-new
queue_up-requires-clause-new c =
    let k = c.loop-link.link-index in
    let links = c.args.links.now in
    let x : Link = get_or links k none in
    let initial = c.args.waits.now in
    let waits = c.loop-link.waits in
    let inside : x.to < length initial = (let i = c.requires.inside k none c.loop-link-test.true in let w = c.requires.waits in omega arith) in
    let still = waits_still links k c.loop-link-test.true x (take_more links k none c.loop-link-test.true) initial waits c.loop-link.invariant.size inside c.requires.counted c.loop-link.invariant.off in
    let waited : 1 ≤ slice_index initial x.to = (let o = c.loop-link.invariant.off x.to in omega arith) in
    no_entry x.to initial waits c.loop-link.invariant.size inside still waited c.args.kinds.now (heap_items c.args.queue.now) (heap_items c.loop-link.queue) c.requires.idle c.loop-link.invariant.freed

pub loop-link-preserved : goal.loop-link-preserved
loop-link-preserved c =
    let links = c.args.links.now in
    let k = c.loop-link.link-index in
    let x : Link = get_or links k none in
    let next = take_more links k none c.loop-link-test.true in
    let waits = c.loop-link.waits in
    let inside : x.to < length c.args.waits.now = (let i = c.requires.inside k none c.loop-link-test.true in let w = c.requires.waits in omega arith) in
    let still = waits_still links k c.loop-link-test.true x next c.args.waits.now waits c.loop-link.invariant.size inside c.requires.counted c.loop-link.invariant.off in
    let waited : 1 ≤ slice_index c.args.waits.now x.to = (let o = c.loop-link.invariant.off x.to in omega arith) in
    let off = off_more links k c.loop-link-test.true x next c.args.waits.now waits c.loop-link.invariant.size inside c.requires.counted c.loop-link.invariant.off in
    let size = length-set waits x.to (slice_index waits x.to - 1) ∙ c.loop-link.invariant.size in
    elim c.if-waits-to-eq0.branch [
      | then-waits-to-eq0+then-not-branches w ↦ record {
        size = size;
        off = off;
        queue = subst (λ q. IsQueue c.args.heights.now (heap_items q)) (sym w.queue-is) w.queue_up.ensures.queue;
        freed = λ j lt. ap (λ q. entries_of (heap_items q) j) w.queue-is
            ∙ freed_more x.to c.args.waits.now waits c.loop-link.invariant.size inside still waited
            c.args.kinds.now (heap_items c.args.queue.now) (heap_items c.loop-link.queue) c.requires.idle c.loop-link.invariant.freed
            (heap_items w.queue_up.new.queue) w.if-waits-to-eq0.true (sym w.branches.ensures ∙ w.if-not-branches.true) w.queue_up.ensures.more j lt;
        room = let a = c.loop-link.invariant.room in let b = w.queue_up.ensures.room in let e = ap heap_capacity w.queue-is in omega arith;
      }
      | else-waits-to-eq0 w ↦
          (let why : (slice_index (slice_set waits x.to (slice_index waits x.to - 1)) x.to ≡ 0 → ⊥) ⊎ (is_branch c.args.kinds.now x.to ≡ true) = elim w.else-waits-to-eq0.branch [
            | else-waits-to-eq0-via-then-waits-to-eq0+else-not-branches v ↦ inr (sym v.branches.ensures ∙ v.if-not-branches.false)
            | else-waits-to-eq0-via-else-waits-to-eq0 v ↦ inl v.if-waits-to-eq0.false
          ] in
          record {
            size = size;
            off = off;
            queue = subst (λ q. IsQueue c.args.heights.now (heap_items q)) (sym w.queue-is) c.loop-link.invariant.queue;
            freed = λ j lt. ap (λ q. entries_of (heap_items q) j) w.queue-is
                ∙ freed_same x.to c.args.waits.now waits c.loop-link.invariant.size inside still waited
                c.args.kinds.now (heap_items c.args.queue.now) (heap_items c.loop-link.queue) c.requires.idle c.loop-link.invariant.freed why j lt;
            room = let a = c.loop-link.invariant.room in let e = ap heap_capacity w.queue-is in omega arith;
          })
    ]
