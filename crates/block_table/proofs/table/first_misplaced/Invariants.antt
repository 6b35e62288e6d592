use Rattle.std.proofs.Common.{◌≡◌, ℕ, ◌<◌, ◌≤◌, ◌^◌, false}
use Rattle.block_table.specs.Rows.{end_before}
use Rattle.block_table.specs.Rules.{breaks_table}
use Rattle.block_table.proofs.table.first_misplaced.Given as goal

-- no earlier row breaks the rule, so their blocks end behind as many addresses
abbrev pub invariant-loop-k : goal.invariant-loop-k
invariant-loop-k l =
    record {
      kept : (j : ℕ) → j < l.k → breaks_table l.rows l.pages j ≡ false;
      end : l.end ≡ end_before l.rows l.k;
      counted : l.k ≤ l.end;
      small : l.end ≤ 2 ^ 26;
    }
