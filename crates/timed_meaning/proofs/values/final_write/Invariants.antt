use Rattle.std.proofs.Common.{◌≡◌, reverse, take}
use Rattle.timed_meaning.specs.Values.{last_write}
use Rattle.timed_meaning.proofs.values.final_write.Given as goal

abbrev pub invariant-loop-write : goal.invariant-loop-write
invariant-loop-write l = l.best ≡ last_write l.cell (reverse (take l.write-index l.writes))
