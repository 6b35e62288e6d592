use Rattle.std.proofs.Common.{sym, ◌∙◌, arith}
use Rattle.contexts.proofs.Rounds.{rounds_over, one_more_round}
use Rattle.contexts.proofs.cores.Core.rounds.Goals as goal
use Rattle.std.specs.Prelude.{length}

pub returns-then-have_ended : goal.returns-then-have_ended
returns-then-have_ended c s held =
    rounds_over s (length s.contexts) c.loop.counter c.args.times c.loop.self c.loop.invariant.below (c.loop.invariant.held s held)
    (sym c.have_ended.ensures ∙ c.if-have_ended.true)

pub loop-preserved : goal.loop-preserved
loop-preserved c =
    one_more_round c.args.self.now c.loop.self c.round.new.self c.args.times c.loop.counter c.loop.invariant (let t = c.loop-test.true in omega arith) c.round.ensures
