use Rattle.std.proofs.Common.{rules}
use Rattle.timed_meaning.specs.Evaluator.{state_of}
use Rattle.timed_meaning.proofs.Settling.{IsWhole, settled_lem, settled_memory}
use Rattle.timed_meaning.proofs.settle.settle.Goals as goal

pub returns-clause-state : goal.returns-clause-state
returns-clause-state c =
    let p = c.args.work.now in
    let whole : IsWhole (state_of c.args.cells.now) = record { general = search rules; predicates = search rules; targets = search rules } in
    let landed = rw c.deref.ensures.value at c.land.ensures in
    settled_lem (state_of c.args.cells.now) (state_of c.land.new.cells) p.writes.items p.output.items p.position p.count p.answer whole landed

pub returns-clause-memory : goal.returns-clause-memory
returns-clause-memory c =
    let landed = rw c.deref.ensures.value at c.land.ensures in
    settled_memory (state_of c.args.cells.now) (state_of c.land.new.cells) c.args.work.now.writes.items landed
