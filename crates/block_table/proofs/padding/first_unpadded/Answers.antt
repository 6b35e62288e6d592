use Rattle.std.proofs.Common.{arith, sym, ◌∙◌}
use Rattle.block_table.specs.Rows.{entry_of}
use Rattle.block_table.proofs.Rising.{end_before-next}
use Rattle.block_table.proofs.Gaps.{found_here, found_last, passed}
use Rattle.block_table.proofs.padding.first_unpadded.Goals as goal

pub loop-row-preserved : goal.loop-row-preserved
loop-row-preserved c =
    record {
      end = end_before-next c.args.rows.now c.loop-row.row-index;
      clear =
          passed c.args.rows.now c.args.words.now c.loop-row.row-index c.loop-row.end c.first_filled-filled.result c.first_filled-filled.ensures.none
          (sym c.is_some.ensures ∙ c.if-is_some.false) c.loop-row-test.true c.loop-row.invariant.clear;
    }

pub returns-then-is_some : goal.returns-then-is_some
returns-then-is_some c =
    found_here c.args.rows.now c.args.words.now c.requires.rising c.loop-row.row-index c.loop-row.end (entry_of c.args.rows.now c.loop-row.row-index)
    c.first_filled-filled.result c.first_filled-filled.ensures.some (sym c.is_some.ensures ∙ c.if-is_some.true) (omega arith) c.loop-row.invariant.end
    (λ more. omega arith) c.loop-row.invariant.clear

pub returns : goal.returns
returns c =
    found_last c.args.rows.now c.args.words.now c.requires.rising c.loop-row.row-index c.loop-row.end c.first_filled.result c.first_filled.ensures.none
    c.first_filled.ensures.some (omega arith) c.loop-row.invariant.end c.loop-row.invariant.clear
