use Rattle.std.proofs.Common.{◌≡◌, ◌+◌, [], length, slice_index, sym, ap, ◌∙◌, arith, rules}
use Rattle.std.proofs.lemmas.Grind.{common_steps}
use Rattle.serial_order.specs.Table.{before}
use Rattle.serial_order.specs.Counts.{one_where, ones, unplaced_before}
use Rattle.serial_order.proofs.Counting.{one_most, count_none, count_more, count_most}
use Rattle.serial_order.proofs.serial.count_all.Goals as goal

pub loop-i-init : goal.loop-i-init
loop-i-init c = record {
  size = search rules;
  counts = λ j lt.
      let e : slice_index c.fill.new.self j ≡ 0 = grind (arith, common_steps) in
      e ∙ sym (count_none (ones (before c.args.d.now)) [] j);
}

pub count_on-requires-clause-small : goal.count_on-requires-clause-small
count_on-requires-clause-small c = λ j lt.
    let e = c.loop-i.invariant.counts j lt in
    omega (arith, count_most (ones (before c.args.d.now)) 1 (λ i k. one_most (before c.args.d.now i k)) [] j c.loop-i.i)

pub loop-i-preserved : goal.loop-i-preserved
loop-i-preserved c = record {
  size = c.count_on.auto.waits ∙ c.loop-i.invariant.size;
  counts = λ j lt.
      c.count_on.ensures j lt
      ∙ ap (λ n. n + one_where (before c.args.d.now c.loop-i.i j)) (c.loop-i.invariant.counts j lt)
      ∙ sym (count_more (ones (before c.args.d.now)) j c.loop-i.i);
}
