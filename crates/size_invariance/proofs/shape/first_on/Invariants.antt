use Rattle.std.proofs.Common.{ℕ, ◌-◌, ◌/◌, ◌<◌, ◌≤◌, length}
use Rattle.block_table.specs.Rows.{entry_of}
use Rattle.size_invariance.proofs.shape.first_on.Given as goal

-- the rows below `low` stand before the page, and those from `high` on don't
abbrev pub invariant-loop-low : goal.invariant-loop-low
invariant-loop-low l =
    record {
      within : l.high ≤ length l.table;
      ordered : l.low ≤ l.high;
      before : (k : ℕ) → k < l.low → entry_of l.table k / 512 < l.page;
      behind : (k : ℕ) → l.high ≤ k → k < length l.table → l.page ≤ entry_of l.table k / 512;
    }

abbrev pub decreases-loop-low : goal.decreases-loop-low
decreases-loop-low l = l.high - l.low
