use Rattle.std.proofs.Common.{sym, arith}
use Rattle.contexts.proofs.Again.{one_more_turn, all_turns, turns_over}
use Rattle.contexts.proofs.cores.Core.turns.Goals as goal

pub returns-then-is_some-clause-held : goal.returns-then-is_some-clause-held
returns-then-is_some-clause-held c = λ s held.
    turns_over c.args.self.now c.loop.self c.args.c c.args.times c.loop.counter c.loop.invariant
    (let here = c.requires in let many = c.loop.invariant.kept.contexts in omega arith) c.ended.result c.ended.ensures (sym c.if-is_some.ensures) s held

pub loop-preserved : goal.loop-preserved
loop-preserved c = one_more_turn c.args.self.now c.loop.self c.step.new.self c.args.c c.args.times c.loop.counter c.loop.invariant c.loop-test.true c.step.ensures.held c.step.ensures.kept

pub returns-clause-held : goal.returns-clause-held
returns-clause-held c = all_turns c.args.self.now c.loop.self c.args.c c.args.times c.loop.counter c.loop.invariant c.loop-test.false
