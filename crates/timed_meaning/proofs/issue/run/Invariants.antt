use Rattle.std.proofs.Common.{◌≡◌, ◌+◌, drop}
use Rattle.timed_meaning.specs.Block.{run}
use Rattle.timed_meaning.specs.Evaluator.{start_of, progress_of}
use Rattle.timed_meaning.proofs.issue.run.Given as goal

-- what is left, from what has been done, is the whole
abbrev pub invariant-loop-timed : goal.invariant-loop-timed
invariant-loop-timed l =
    let c = start_of l.cells l.input l.next l.limit in
    record {
      count : l.work.count ≡ l.fn.work.count + l.timed-index;
      rest : run c (drop l.timed-index l.ops) (progress_of l.work) ≡ run c l.ops (progress_of l.fn.work);
    }
