-- The links of one operation after another.
use Rattle.std.proofs.Common.{◌≡◌, ◌<◌, ◌≤◌, ◌+◌, ℕ, List, length, get_or, sym, ap, subst, ◌∙◌, arith, rules, length-append}
use Rattle.std.specs.Prelude.{slice_index, IfNone, IfSome, Option, Some, None}
use Rattle.std.proofs.lemmas.List.{get_or_default}
use Rattle.serial_order.specs.SerialOrder.{IsOrder, first_stuck}
use Rattle.block_links.specs.declared.links.Link.{Link}
use Rattle.block_links.specs.Idle.{AreIdle}
use Rattle.block_links.specs.Links.{LeadInside, row, count_to, is_linked}
use Rattle.block_links.proofs.Counted.{links_of}
use Rattle.block_links.proofs.Idle.{idle_short}
use Rattle.block_links.proofs.Queued.{IsQueued, queued_first, next_inside, enough, queued_more, queued_order, queued_none, queued_some}
use Rattle.block_links.proofs.serial.order_into.Goals as goal
use Rattle.block_links.proofs.serial.order_into.Goals.{After-index, After-first_waiting}

pub loop-next-init : goal.loop-next-init
loop-next-init c =
    let l = c.args.links.now in
    let n = length c.args.waits.now in
    record {
      queued = queued_first l n c.count_all.new.waits c.start.new.order.items c.count_all.ensures.size c.count_all.ensures.counted
          (subst (λ m. AreIdle m c.count_all.new.waits c.start.new.order.items) c.count_all.ensures.size c.start.ensures.idle);
      so_far = omega arith;
      more = let a = c.clear.ensures.capacity in let b = c.start.ensures.room in omega arith;
    }

-- what is read is the next operation
module _ (c : After-index) where
  abbrev next : ℕ
  next = get_or c.loop-next.order.items c.loop-next.next 0

  lt : c.loop-next.next < length c.loop-next.order.items
  lt = let many : length c.loop-next.order.items ≡ c.len.result = search rules in let t = c.loop-next-test.true in omega arith

  read : c.index.result.now ≡ next
  read = c.index.ensures ∙ get_or_default c.loop-next.order.items c.loop-next.next c.index.result.now 0 lt

  inside : next < length c.args.waits.now
  inside = next_inside c.args.links.now (length c.args.waits.now) c.loop-next.next c.loop-next.waits c.loop-next.order.items c.loop-next.invariant.queued lt

pub of-requires : goal.of-requires
of-requires c =
    let at = (goal.at.of-requires c).After-index in
    (length c.args.waits.now, c.requires.links, subst (λ x. x < length c.args.waits.now) (sym (read at)) (inside at))

pub release-requires-clause-inside : goal.release-requires-clause-inside
release-requires-clause-inside c =
    let at = (goal.at.release-requires-clause-inside c).After-index in
    subst (λ (m : ℕ). LeadInside m c.of.result.now) (sym c.loop-next.invariant.queued.size)
    (subst (LeadInside (length c.args.waits.now)) (sym (c.of.ensures ∙ ap (row c.args.links.now) (read at))) (c.requires.links.lead (next at) (inside at)))

pub release-requires-clause-counted : goal.release-requires-clause-counted
release-requires-clause-counted c = λ j.
    let at = (goal.at.release-requires-clause-counted c).After-index in
    let same = ap (λ (r : List Link). count_to r j) (c.of.ensures ∙ ap (row c.args.links.now) (read at)) in
    let few = enough c.args.links.now (length c.args.waits.now) c.loop-next.next c.loop-next.waits c.loop-next.order.items c.loop-next.invariant.queued (lt at) j in
    omega arith

pub loop-next-smaller : goal.loop-next-smaller
loop-next-smaller c =
    let below = lt (goal.at.loop-next-smaller c).After-index in
    let q = c.loop-next.invariant.queued in
    let s = idle_short (length c.args.waits.now) c.loop-next.waits c.loop-next.order.items q.idle in
    omega arith

pub loop-next-preserved : goal.loop-next-preserved
loop-next-preserved c =
    let at = (goal.at.loop-next-preserved c).After-index in
    let l = c.args.links.now in
    let n = length c.args.waits.now in
    let items = c.loop-next.order.items in
    let waits' = c.release.new.waits in
    let items' = c.release.new.order.items in
    let below = lt at in
    let q = c.loop-next.invariant.queued in
    let behind = c.release.ensures.behind in
    let off : (j : ℕ) → slice_index waits' j + links_of l (next at) j ≡ slice_index c.loop-next.waits j =
    λ j. (let o = c.release.ensures.off j in let same = ap (λ (r : List Link). count_to r j) (c.of.ensures ∙ ap (row l) (read at)) in omega arith) in
    let idle : AreIdle n waits' items' = subst (λ m. AreIdle m waits' items') (c.release.ensures.size ∙ q.size) c.release.ensures.idle in
    record {
      queued = subst (IsQueued l n (c.loop-next.next + 1) waits') (sym behind.1)
          (queued_more l n c.loop-next.next c.loop-next.waits items q below waits' behind.0 c.release.ensures.size off (subst (AreIdle n waits') behind.1 idle));
      so_far = let a = ap length behind.1 in let b = length-append items behind.0 in omega arith;
      more = let a = c.loop-next.invariant.more in let b = c.release.ensures.room in omega arith;
    }

-- what the end of the loop says where none waits, or of the least that waits
module _ (c : After-first_waiting) where
  abbrev n : ℕ
  n = length c.args.waits.now

  done : length c.loop-next.order.items ≤ c.loop-next.next
  done = let many : length c.loop-next.order.items ≡ c.len.result = search rules in let t = c.loop-next-test.false in omega arith

  is_order : (r : Option ℕ) → IfNone r ((i : ℕ) → slice_index c.loop-next.waits i ≡ 0) → IfNone r (IsOrder (is_linked c.args.links.now) n c.loop-next.order.items)
  is_order None none = queued_order c.args.links.now n c.loop-next.next c.loop-next.waits c.loop-next.order.items c.loop-next.invariant.queued done none
  is_order (Some i) none = tt

  is_first : (r : Option ℕ) → IfNone r ((i : ℕ) → slice_index c.loop-next.waits i ≡ 0) → IfSome r (λ i. (i < length c.loop-next.waits) × (0 < slice_index c.loop-next.waits i)) →
      IfSome r (λ i. (k : ℕ) → k < i → slice_index c.loop-next.waits k ≡ 0) → r ≡ first_stuck (is_linked c.args.links.now) n
  is_first None none some least = sym (queued_none c.args.links.now n c.loop-next.next c.loop-next.waits c.loop-next.order.items c.loop-next.invariant.queued done none)
  is_first (Some i) none some least =
      sym (queued_some c.args.links.now n c.loop-next.next c.loop-next.waits c.loop-next.order.items c.loop-next.invariant.queued done i
      (let size = c.loop-next.invariant.queued.size in let below = some.0 in omega arith) some.1 least)

pub returns-clause-order : goal.returns-clause-order
returns-clause-order c = is_order c c.first_waiting.result c.first_waiting.ensures.none

pub returns-clause-stuck : goal.returns-clause-stuck
returns-clause-stuck c = is_first c c.first_waiting.result c.first_waiting.ensures.none c.first_waiting.ensures.waits c.first_waiting.ensures.least
