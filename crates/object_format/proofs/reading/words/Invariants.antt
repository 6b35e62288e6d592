use Rattle.std.proofs.Common.{◌≡◌}
use Rattle.image_format.specs.Layout.{words}
use Rattle.object_format.proofs.reading.words.Given as goal

abbrev pub invariant-loop-k : goal.invariant-loop-k
invariant-loop-k l = l.words.items ≡ words l.k l.bytes
