use Rattle.std.proofs.Common.{◌≡◌, [], reverse, ap}
use Rattle.timed_meaning.specs.Block.{fresh}
use Rattle.timed_meaning.specs.Evaluator.{start_of, state_with, progress_of}
use Rattle.timed_meaning.specs.declared.issue.Work.{Work}
use Rattle.timed_meaning.specs.declared.Answer.TheVariants.{GoOn}
use Rattle.timed_meaning.proofs.Fitting.{writes_fit}
use Rattle.timed_meaning.proofs.Reading.{ended_as_defined}
use Rattle.timed_meaning.proofs.evaluate.run_block.Goals as goal

begun : (p old : Work) → p.count ≡ 0 → p.writes.items ≡ [] → p.output.items ≡ old.output.items → p.position ≡ old.position → p.answer ≡ GoOn → progress_of p ≡ record { count = 0; writes = []; output = old.output.items; position = old.position; answer = GoOn }
begun p old a b d e f = let w = ap reverse b in cc

pub settle-requires : goal.settle-requires
settle-requires c =
    writes_fit (start_of c.args.cells.now c.args.input.now c.args.block.now.next c.args.limit) c.deref.result.now (progress_of c.begin.new.self) c.in_ok-trap.trap c.run.new.work
    (ap reverse c.begin.ensures.writes) c.in_ok-trap.ensures

pub returns-clause-ended : goal.returns-clause-ended
returns-clause-ended c =
    let m = c.args.cells.now in
    let old = c.args.work.now in
    let starts : progress_of c.begin.new.self ≡ fresh (state_with m old) =
    begun c.begin.new.self old c.begin.ensures.count c.begin.ensures.writes c.begin.ensures.output c.begin.ensures.position c.begin.ensures.answer in
    let ran = rw c.deref.ensures.value at c.in_ok-trap.ensures in
    ended_as_defined m c.settle.new.cells old c.run.new.work (progress_of c.begin.new.self) c.args.input.now c.args.block.now.next c.args.limit c.args.block.now.ops.items c.in_ok-trap.trap starts ran c.settle.ensures.state
