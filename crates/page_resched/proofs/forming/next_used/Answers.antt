-- The first cycle that is another, or none is.
use Rattle.std.proofs.Common.{refl, arith}
use Rattle.page_resched.proofs.Pieces.{next_at, next_is_end}
use Rattle.page_resched.proofs.forming.next_used.Goals as goal

pub returns-then-next-c : goal.returns-then-next-c
returns-then-next-c c =
    let behind = c.loop-j.auto.j in
    next_at c.args.cycle.now c.args.end c.args.listed.now c.requires.listed c.args.m c.loop-j.j (omega arith) c.requires.place c.loop-j.invariant _ c.loop-j-test.true refl c.if-next-c.true

pub returns : goal.returns
returns c =
    let behind = c.loop-j.auto.j in
    next_is_end c.args.cycle.now c.args.end c.args.listed.now c.requires.listed c.args.m c.loop-j.j (omega arith) c.requires.place c.loop-j.invariant c.loop-j-test.false
