use Rattle.std.proofs.Common.{◌≡◌, ℕ, ◌*◌, ◌||◌, ap, sym, ◌∙◌, below_more, arith, length, false, Bool}
use Rattle.std.specs.Prelude.{nat_eq, nat_lt, nat_le}
use Rattle.block_table.specs.Rows.{Rows, entry_of, count_of}
use Rattle.block_table.specs.Rules.{breaks_table}
use Rattle.tnk_base.proofs.Searches.{finds_none, finds_some}
use Rattle.block_table.proofs.Rising.{kept, end_before-next, rising}
use Rattle.block_table.proofs.table.first_misplaced.Goals as goal

-- the test of a row, by where the row before ends
abbrev breaks : Rows → (pages k end : ℕ) → Bool
breaks rows pages k end = nat_eq (count_of rows k) 0 || (nat_le (pages * 512) (entry_of rows k) || nat_lt (entry_of rows k) end)

pub returns-then-is_misplaced-clause-first : goal.returns-then-is_misplaced-clause-first
returns-then-is_misplaced-clause-first c =
    let rows = c.args.rows.now in
    sym (finds_some (breaks_table rows c.args.pages) (length rows) c.loop-k.k c.loop-k-test.true c.loop-k.invariant.kept
    (sym (c.if-is_misplaced.ensures ∙ ap (breaks rows c.args.pages c.loop-k.k) c.loop-k.invariant.end)))

pub loop-k-preserved : goal.loop-k-preserved
loop-k-preserved c =
    let rows = c.args.rows.now in
    let here : breaks_table rows c.args.pages c.loop-k.k ≡ false =
    sym (c.if-is_misplaced.ensures ∙ ap (breaks rows c.args.pages c.loop-k.k) c.loop-k.invariant.end) in
    let row = kept rows c.args.pages c.loop-k.k here in
    record {
      kept = below_more _ _ c.loop-k.invariant.kept here;
      end = end_before-next rows c.loop-k.k;
      counted = omega arith;
      small = omega arith;
    }

pub returns-clause-first : goal.returns-clause-first
returns-clause-first c = sym (finds_none (breaks_table c.args.rows.now c.args.pages) (length c.args.rows.now) (λ j below. c.loop-k.invariant.kept j (omega arith)))

pub returns-clause-rising : goal.returns-clause-rising
returns-clause-rising c =
    record {
      entries = rising c.args.rows.now c.args.pages (λ j below. c.loop-k.invariant.kept j (omega arith));
      apart = λ k below. (kept c.args.rows.now c.args.pages k (c.loop-k.invariant.kept k (omega arith))).behind;
      inside = λ k below. let row = kept c.args.rows.now c.args.pages k (c.loop-k.invariant.kept k (omega arith)) in omega arith;
      counted = λ k below. (kept c.args.rows.now c.args.pages k (c.loop-k.invariant.kept k (omega arith))).counted;
      few = omega arith;
    }

pub returns-clause-inside : goal.returns-clause-inside
returns-clause-inside c = λ k below. let row = kept c.args.rows.now c.args.pages k (c.loop-k.invariant.kept k (omega arith)) in omega arith
