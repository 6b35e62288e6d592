-- Row by row.
use Rattle.std.proofs.Common.{◌≡◌, [], length, slice_index, refl, sym, ap, ◌∙◌, arith}
use Rattle.std.proofs.lemmas.Grind.{common_steps}
use Rattle.serial_order.proofs.Counting.{count_none, count_more}
use Rattle.block_links.specs.Links.{count_to}
use Rattle.block_links.proofs.Rows.{row_short}
use Rattle.block_links.proofs.Counted.{links_of, count_rows}
use Rattle.block_links.proofs.serial.count_all.Goals as goal

pub loop-i-init : goal.loop-i-init
loop-i-init c = record {
  size = refl;
  counted = λ j. let e : slice_index c.fill.new.self j ≡ 0 = grind (arith, common_steps) in e ∙ sym (count_none (links_of c.args.links.now) [] j);
}

pub count_on-requires-clause-small : goal.count_on-requires-clause-small
count_on-requires-clause-small c = λ j.
    let l = c.args.links.now in
    let i = c.loop-i.i in
    let e = c.loop-i.invariant.counted j in
    let most = count_rows l (length c.args.waits.now) c.requires.links j i (let t = c.loop-i-test.true in omega arith) in
    let r = ap length c.of.ensures in
    let s = row_short l i in
    let a = c.requires.links.ends i (let t = c.loop-i-test.true in omega arith) in
    let b = c.requires.links.inside i (let t = c.loop-i-test.true in omega arith) in
    let f = c.requires.links.small in
    omega arith

pub loop-i-preserved : goal.loop-i-preserved
loop-i-preserved c = record {
  size = c.count_on.ensures.size ∙ c.loop-i.invariant.size;
  counted = λ j.
      c.count_on.ensures.counted j
      ∙ (let a = c.loop-i.invariant.counted j in let b = ap (λ l. count_to l j) c.of.ensures in let m = count_more (links_of c.args.links.now) j c.loop-i.i in omega arith);
}
