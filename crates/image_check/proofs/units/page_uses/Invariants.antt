use Rattle.std.proofs.Common.{ℕ, ◌<◌}
use Rattle.latency_deps.specs.Page.{block_at}
use Rattle.image_check.specs.Units.{IsUsedIn}
use Rattle.image_check.proofs.units.page_uses.Given as goal

abbrev pub invariant-loop-k : goal.invariant-loop-k
invariant-loop-k l = (j : ℕ) → j < l.k → IsUsedIn (block_at l.page j).words l.kind → ⊥
