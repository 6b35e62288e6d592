use Rattle.std.proofs.Common.{arith}
use Rattle.contexts.proofs.Rounds.{turned_on, round_over}
use Rattle.contexts.proofs.cores.Core.round.Goals as goal

pub loop-c-preserved : goal.loop-c-preserved
loop-c-preserved c =
    turned_on _ c.loop-c.self-inside.seats.items c.turn.new.seats.items c.loop-c.self-inside.loader c.turn.new.loader c.loop-c.self-inside.pages c.turn.new.pages
    c.len-c-end.result c.loop-c.c c.loop-c.invariant (let t = c.loop-c-test.true in omega arith) c.turn.ensures.core c.turn.ensures.size c.turn.ensures.step

pub returns : goal.returns
returns c =
    round_over _ c.loop-c.self-inside.seats.items c.loop-c.self-inside.loader c.loop-c.self-inside.pages c.len-c-end.result c.loop-c.c c.loop-c.invariant
    (let t = c.loop-c-test.false in omega arith)
