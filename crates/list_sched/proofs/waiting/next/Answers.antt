-- The first of the queue.
use Rattle.std.proofs.Common.{◌∷◌, arith, refl, inl}
use Rattle.std.specs.BinaryHeap.{heap_items}
use Rattle.std.proofs.lemmas.List.Sorted.{Contains-permutation, IsPermutation-sym}
use Rattle.list_sched.specs.Queue.{Entry}
use Rattle.list_sched.proofs.Queues.{popped_queue, first_of}
use Rattle.list_sched.proofs.waiting.next.Goals as goal

pub returns-in-Some-clause-queue : goal.returns-in-Some-clause-queue
returns-in-Some-clause-queue c = popped_queue c.args.heights.now (heap_items c.args.queue.now) c.requires.queue _ (heap_items c.pop.new.self) c.in-Some.ensures.permutation (c.in-Some.ensures.heap_order c.requires.queue.ordered).0

pub returns-in-Some-clause-next : goal.returns-in-Some-clause-next
returns-in-Some-clause-next c =
    let old = heap_items c.args.queue.now in
    let new = heap_items c.pop.new.self in
    let x : Entry = (c.in-Some.field-0-0, c.in-Some.field-0-1) in
    let moved = c.in-Some.ensures.permutation in
    let there = Contains-permutation (x ∷ new) old x (IsPermutation-sym old (x ∷ new) moved) (0, omega arith, refl) in
    inl (first_of c.args.heights.now old c.requires.queue x new there moved (c.in-Some.ensures.heap_order c.requires.queue.ordered).1)
