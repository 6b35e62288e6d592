use Rattle.std.proofs.Common.{ℕ, ◌<◌}
use Rattle.image_check.specs.Blocks.{page_of}
use Rattle.image_check.specs.UnitSearch.{IsUsedOn}
use Rattle.image_check.proofs.units.uses.Given as goal

abbrev pub invariant-loop-n : goal.invariant-loop-n
invariant-loop-n l = (m : ℕ) → m < l.n → IsUsedOn (page_of l.a m) l.kind → ⊥
