use Rattle.std.proofs.Common.{◌≡◌, drop, reverse}
use Rattle.timed_meaning.specs.Evaluator.{state_of, all_settled}
use Rattle.timed_meaning.proofs.settle.land.Given as goal

-- what is left, from the present cells, is the whole
abbrev pub invariant-loop-write : goal.invariant-loop-write
invariant-loop-write l = all_settled (reverse l.writes) (state_of l.cells) (drop l.write-index l.writes) ≡ all_settled (reverse l.writes) (state_of l.fn.cells) l.writes
