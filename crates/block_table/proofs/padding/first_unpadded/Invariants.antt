use Rattle.std.proofs.Common.{◌≡◌, ℕ, ◌<◌, false}
use Rattle.block_table.specs.Rows.{end_before}
use Rattle.block_table.specs.Padding.{is_unpadded}
use Rattle.block_table.proofs.padding.first_unpadded.Given as goal

-- no earlier address breaks the rule
abbrev pub invariant-loop-row : goal.invariant-loop-row
invariant-loop-row l =
    record {
      end : l.end ≡ end_before l.rows l.row-index;
      clear : (a : ℕ) → a < l.end → is_unpadded l.rows l.words a ≡ false;
    }
