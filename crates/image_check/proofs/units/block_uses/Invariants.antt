use Rattle.std.proofs.Common.{◌≡◌, ℕ, ◌<◌}
use Rattle.image_check.specs.Units.{kind_of}
use Rattle.image_check.proofs.units.block_uses.Given as goal

abbrev pub invariant-loop-i : goal.invariant-loop-i
invariant-loop-i l = (k : ℕ) → k < l.i → kind_of l.block.words k ≡ l.kind → ⊥
