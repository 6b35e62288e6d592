-- Operation by operation.
use Rattle.std.proofs.Common.{◌+◌, List, sym, subst, ap, arith}
use Rattle.std.specs.Prelude.{vec_capacity}
use Rattle.block_links.specs.Idle.{AreIdle}
use Rattle.block_links.proofs.Idle.{idle_none, idle_more, idle_same, idle_short}
use Rattle.block_links.proofs.serial.start.Goals as goal
use Rattle.block_links.proofs.serial.start.Goals.{then-waits-i-eq0, else-waits-i-eq0}

pub loop-i-init : goal.loop-i-init
loop-i-init c = record {
  idle = subst (λ (l : List _). AreIdle 0 c.args.waits.now l) (sym c.requires.empty) (idle_none c.args.waits.now);
  more = omega arith;
}

pub add-requires : goal.add-requires
add-requires c =
    let s = idle_short c.loop-i.i c.args.waits.now c.loop-i.order.items c.loop-i.invariant.idle in
    let m = c.loop-i.invariant.more in
    let r = c.requires.room in
    let t = c.loop-i-test.true in
    omega arith

pub loop-i-preserved : goal.loop-i-preserved
loop-i-preserved c =
    let i = c.loop-i.i in
    let waits = c.args.waits.now in
    elim c.if-waits-i-eq0.branch [
      | then-waits-i-eq0 w ↦ record {
        idle = subst (λ o. AreIdle (i + 1) waits o.items) (sym w.order-is) (subst (AreIdle (i + 1) waits) (sym w.add.ensures.items) (idle_more i waits c.loop-i.order.items c.loop-i.invariant.idle w.if-waits-i-eq0.true));
        more = let a = c.loop-i.invariant.more in let b = w.add.ensures.room in let e = ap vec_capacity w.order-is in omega arith;
      }
      | else-waits-i-eq0 w ↦ record {
        idle = subst (λ o. AreIdle (i + 1) waits o.items) (sym w.order-is) (idle_same i waits c.loop-i.order.items c.loop-i.invariant.idle w.if-waits-i-eq0.false);
        more = let a = c.loop-i.invariant.more in let e = ap vec_capacity w.order-is in omega arith;
      }
    ]
