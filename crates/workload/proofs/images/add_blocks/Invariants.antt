use Rattle.std.proofs.Common.{◌≡◌, ◌≤◌, ◌*◌, ◌-◌, ◌++◌, length}
use Rattle.workload.specs.Draws.{after}
use Rattle.workload.specs.Layout.{rows_from, words_from}
use Rattle.workload.specs.Generated.{all_blocks}
use Rattle.workload.proofs.Adding.{left}
use Rattle.workload.proofs.images.add_blocks.Given as goal

-- what there is, with the blocks that are left, is all; and each block took a page at most
abbrev pub invariant-loop-i : goal.invariant-loop-i
invariant-loop-i l =
    record {
      rows : l.rows.items ++ rows_from (length l.words.items) (left l.number l.blocks l.ops l.i) ≡
          rows_from 0 (all_blocks l.number l.blocks l.ops);
      words : l.words.items ++ words_from (length l.words.items) (left l.number l.blocks l.ops l.i) ≡
          words_from 0 (all_blocks l.number l.blocks l.ops);
      state : l.draws.x ≡ after (5 * (l.i * (l.ops - 1))) l.number;
      near : length l.words.items ≤ 512 * l.i;
    }
