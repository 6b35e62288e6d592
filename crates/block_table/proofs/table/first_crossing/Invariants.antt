use Rattle.std.proofs.Common.{◌≡◌, ℕ, ◌<◌, false}
use Rattle.block_table.specs.Rules.{crosses_page}
use Rattle.block_table.proofs.table.first_crossing.Given as goal

abbrev pub invariant-loop-k : goal.invariant-loop-k
invariant-loop-k l = (j : ℕ) → j < l.k → crosses_page l.rows j ≡ false
