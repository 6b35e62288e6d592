use Rattle.std.proofs.Common.{◌+◌, ◌-◌, ◌/◌, arith}
use Rattle.size_invariance.proofs.Walking.{before_too, behind_too}
use Rattle.size_invariance.proofs.shape.first_on.Goals as goal

pub loop-low-preserved-then-page : goal.loop-low-preserved-then-page
loop-low-preserved-then-page c =
    let middle = c.loop-low.low + (c.loop-low.high - c.loop-low.low) / 2 in
    let here = c.page.ensures in
    let lt = c.if-page.true in
    let within = c.loop-low.invariant.within in
    record {
      within = within;
      ordered = omega arith;
      before = before_too c.args.table.now c.rows-high.ensures.table c.args.page middle (omega arith) (omega arith);
      behind = c.loop-low.invariant.behind;
    }

pub loop-low-preserved : goal.loop-low-preserved
loop-low-preserved c =
    let middle = c.loop-low.low + (c.loop-low.high - c.loop-low.low) / 2 in
    let here = c.page.ensures in
    let le = c.if-page.false in
    let within = c.loop-low.invariant.within in
    record {
      within = omega arith;
      ordered = omega arith;
      before = c.loop-low.invariant.before;
      behind = behind_too c.args.table.now c.rows-high.ensures.table c.args.page middle (omega arith);
    }
