use Rattle.std.proofs.Common.{◌≡◌, ◌<◌, ◌≤◌, ◌+◌, ◌++◌, ◌∷◌, ℕ, true, false, [], length, slice_index, slice_index_or, sym, ap, subst, ◌∙◌, arith, rules}
use Rattle.std.proofs.lemmas.Grind.{common_steps}
use Rattle.std.proofs.lemmas.List.{length_push}
use Rattle.std.specs.Prelude.{slice_set, IfNone, IfSome, Option, Some, None}
use Rattle.serial_order.specs.Table.{before}
use Rattle.serial_order.specs.SerialOrder.{IsOrder, first_stuck}
use Rattle.serial_order.specs.Lists.{has}
use Rattle.serial_order.specs.Counts.{unplaced_before}
use Rattle.serial_order.proofs.Counting.{count_most}
use Rattle.serial_order.proofs.Front.{IsFront, front_none}
use Rattle.serial_order.proofs.Progress.{IsProgress, enough, fewer, step, all_order, all_none, least_first}
use Rattle.serial_order.proofs.serial.order_into.Goals as goal
use Rattle.serial_order.proofs.serial.order_into.Goals.{In-Some, After-first_left}

pub loop-i-init : goal.loop-i-init
loop-i-init c = record {
  progress = record {
    counts_size = c.count_all.ensures.size;
    marks_size = c.fill.ensures.len ∙ c.requires.placed;
    counted = λ j lt. c.count_all.ensures.counts j lt ∙ ap (λ order. unplaced_before (before c.args.d.now) order j c.args.d.now.count) (sym c.clear.ensures.items);
    marked = λ j lt.
        let there = c.requires.placed in
        let e : slice_index_or c.fill.new.self j true ≡ false = grind (arith, common_steps) in
        e ∙ ap (has j) (sym c.clear.ensures.items);
    front = subst (IsFront (before c.args.d.now) c.args.d.now.count) (sym c.clear.ensures.items) (front_none (before c.args.d.now) c.args.d.now.count);
  };
  left =
      let none = ap length c.clear.ensures.items in
      let most = count_most (λ i j. 1) 1 (λ i j. omega arith) c.clear.new.self.items 0 c.args.d.now.count in
      omega arith;
  room = search rules;
  more = search rules;
}

pub next_free-requires-clause-few : goal.next_free-requires-clause-few
next_free-requires-clause-few c = let size = c.loop-i.invariant.progress.counts_size in let few = c.count_all.ensures.few in omega arith

-- the operation that comes next is one of the table's, unplaced, and waits for none
module _ (c : In-Some) where
  inside : c.in-Some.i < c.args.d.now.count
  inside = let free = c.in-Some.ensures.free.0 in let size = c.loop-i.invariant.progress.counts_size in omega arith

  less : unplaced_before (λ a b. true) (c.loop-i.order.items ++ c.in-Some.i ∷ []) 0 c.args.d.now.count < unplaced_before (λ a b. true) c.loop-i.order.items 0 c.args.d.now.count
  less = fewer (before c.args.d.now) c.args.d.now.count c.loop-i.waits c.loop-i.placed c.loop-i.order.items c.loop-i.invariant.progress c.in-Some.i inside c.in-Some.ensures.free.1

pub count_off-requires-clause-counted : goal.count_off-requires-clause-counted
count_off-requires-clause-counted c =
    let at = (goal.at.count_off-requires-clause-counted c).In-Some in
    enough (before c.args.d.now) c.args.d.now.count c.loop-i.waits c.loop-i.placed c.loop-i.order.items c.loop-i.invariant.progress c.in-Some.i (inside at) c.in-Some.ensures.free.1

pub add-requires : goal.add-requires
add-requires c =
    let at = (goal.at.add-requires c).In-Some in
    let fewer = less at in
    let left = c.loop-i.invariant.left in
    let room = c.loop-i.invariant.room in
    omega arith

pub loop-i-smaller : goal.loop-i-smaller
loop-i-smaller c =
    let at = (goal.at.loop-i-smaller c).In-Some in
    subst (λ list. unplaced_before (λ a b. true) list 0 c.args.d.now.count < unplaced_before (λ a b. true) c.loop-i.order.items 0 c.args.d.now.count) (sym c.add.ensures.items) (less at)

pub loop-i-preserved : goal.loop-i-preserved
loop-i-preserved c =
    let at = (goal.at.loop-i-preserved c).In-Some in
    let n = c.args.d.now.count in
    record {
      progress = subst (λ list. IsProgress (before c.args.d.now) n c.count_off.new.waits (slice_set c.loop-i.placed c.in-Some.i true) list) (sym c.add.ensures.items)
          (step (before c.args.d.now) n c.loop-i.waits c.loop-i.placed c.loop-i.order.items c.loop-i.invariant.progress c.in-Some.i (inside at) c.in-Some.ensures.free.1 c.in-Some.ensures.free.2
          c.count_off.new.waits c.count_off.auto.waits c.count_off.ensures);
      left =
          let fewer = less at in
          let left = c.loop-i.invariant.left in
          let one = ap length c.add.ensures.items ∙ length_push c.loop-i.order.items c.in-Some.i in
          let same = ap (λ list. unplaced_before (λ a b. true) list 0 n) c.add.ensures.items in
          omega arith;
      room = let a = c.loop-i.invariant.room in let b = c.add.ensures.room in omega arith;
      more = let a = c.loop-i.invariant.more in let b = c.add.ensures.room in omega arith;
    }

pub first_left-requires : goal.first_left-requires
first_left-requires c = record { few = let size = c.loop-i.invariant.progress.marks_size in let few = c.count_all.ensures.few in omega arith }

-- what the end of the loop says of all operations, or of the least that is left
module _ (c : After-first_left) where
  abbrev n : ℕ
  n = c.args.d.now.count

  is_order : (r : Option ℕ) → IfNone r ((k : ℕ) → k < length c.loop-i.placed → slice_index_or c.loop-i.placed k true ≡ true) →
      IfNone r (IsOrder (before c.args.d.now) n c.loop-i.order.items)
  is_order None all = all_order (before c.args.d.now) n c.loop-i.waits c.loop-i.placed c.loop-i.order.items c.loop-i.invariant.progress all
  is_order (Some i) all = tt

  is_first : (r : Option ℕ) → IfNone r ((k : ℕ) → k < length c.loop-i.placed → slice_index_or c.loop-i.placed k true ≡ true) →
      IfSome r (λ i. (i < length c.loop-i.placed) × (slice_index_or c.loop-i.placed i true ≡ false)) →
      IfSome r (λ i. (k : ℕ) → k < i → slice_index_or c.loop-i.placed k true ≡ true) → r ≡ first_stuck (before c.args.d.now) n
  is_first None all left least = sym (all_none (before c.args.d.now) n c.loop-i.waits c.loop-i.placed c.loop-i.order.items c.loop-i.invariant.progress all)
  is_first (Some i) all left least =
      sym (least_first (before c.args.d.now) n c.loop-i.waits c.loop-i.placed c.loop-i.order.items c.loop-i.invariant.progress
      c.in_default.ensures.none i (let size = c.loop-i.invariant.progress.marks_size in let below = left.0 in omega arith) left.1 least)

pub returns-clause-order : goal.returns-clause-order
returns-clause-order c = is_order (goal.at.returns-clause-order c).After-first_left c.first_left.result c.first_left.ensures.none

pub returns-clause-stuck : goal.returns-clause-stuck
returns-clause-stuck c =
    is_first (goal.at.returns-clause-stuck c).After-first_left c.first_left.result c.first_left.ensures.none c.first_left.ensures.left c.first_left.ensures.least
