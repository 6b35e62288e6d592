use Rattle.std.proofs.Common.{◌+◌, ◌%◌, sym, below_more, arith, length}
use Rattle.block_table.specs.Rows.{entry_of, count_of}
use Rattle.block_table.specs.Rules.{crosses_page}
use Rattle.block_table.proofs.Rising.{not_lt}
use Rattle.tnk_base.proofs.Searches.{finds_none, finds_some}
use Rattle.block_table.proofs.table.first_crossing.Goals as goal

pub returns-then-is_crossing-clause-first : goal.returns-then-is_crossing-clause-first
returns-then-is_crossing-clause-first c =
    sym (finds_some (crosses_page c.args.rows.now) (length c.args.rows.now) c.loop-k.k c.loop-k-test.true c.loop-k.invariant (sym c.if-is_crossing.ensures))

pub loop-k-preserved : goal.loop-k-preserved
loop-k-preserved c = below_more _ _ c.loop-k.invariant (sym c.if-is_crossing.ensures)

pub returns-clause-on_page : goal.returns-clause-on_page
returns-clause-on_page c = λ k below. not_lt 512 (entry_of c.args.rows.now k % 512 + count_of c.args.rows.now k) (c.loop-k.invariant k (omega arith))

pub returns-clause-first : goal.returns-clause-first
returns-clause-first c = sym (finds_none (crosses_page c.args.rows.now) (length c.args.rows.now) (λ j below. c.loop-k.invariant j (omega arith)))
