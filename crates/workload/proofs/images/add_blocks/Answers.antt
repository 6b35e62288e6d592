use Rattle.std.proofs.Common.{◌≡◌, ℕ, ◌+◌, ◌-◌, ◌++◌, ◌∷◌, List, length, refl, sym, ap, ◌∙◌, arith}
use Rattle.std.specs.Prelude.{nat_eq}
use Rattle.workload.specs.Layout.{rows_from, words_from}
use Rattle.workload.specs.Generated.{block_words, all_blocks}
use Rattle.workload.proofs.Placing.{is_placed}
use Rattle.workload.proofs.InnerWords.{is_block}
use Rattle.workload.proofs.Adding.{left, one_left, block_is, next_state, added_length, rows_go_on, words_go_on}
use Rattle.workload.proofs.images.add_blocks.Goals as goal

pub loop-i-preserved : goal.loop-i-preserved
loop-i-preserved c =
    let number = c.args.number in
    let blocks = c.args.blocks in
    let ops = c.args.ops in
    let i = c.loop-i.i in
    let x = c.loop-i.draws.x in
    let kept = c.loop-i.invariant in
    let old : List ℕ = c.loop-i.words.items in
    let new : List ℕ = c.add_block.new.words.items in
    let b : List ℕ = block_words i ops (nat_eq (i + 1) blocks) x in
    let rest = left number blocks ops (i + 1) in
    let is = is_block i ops (nat_eq (i + 1) blocks) x c.requires.size.ops_in_range.0 c.requires.size.ops_in_range.1 in
    let next : left number blocks ops i ≡ b ∷ rest =
    one_left number blocks ops i c.loop-i-test.true
    ∙ ap (λ (ws : List ℕ). ws ∷ rest) (sym (block_is number blocks ops i x (nat_eq (i + 1) blocks) kept.state refl)) in
    let long = added_length old new b is.few c.in_ok-add_block.ensures.words in
    let near = (is_placed (length old) (length b) is.few).near i kept.near in
    record {
      rows =
          rows_go_on (length old) (length new) b rest c.loop-i.rows.items c.add_block.new.rows.items
          (rows_from 0 (all_blocks number blocks ops)) long
          (ap (λ (bs : List (List ℕ)). c.loop-i.rows.items ++ rows_from (length old) bs) (sym next) ∙ kept.rows)
          c.in_ok-add_block.ensures.rows;
      words =
          words_go_on (length new) b rest old new (words_from 0 (all_blocks number blocks ops)) long
          (ap (λ (bs : List (List ℕ)). old ++ words_from (length old) bs) (sym next) ∙ kept.words) c.in_ok-add_block.ensures.words;
      state = next_state number i (ops - 1) x c.add_block.new.draws.x kept.state c.in_ok-add_block.ensures.state;
      near = omega arith;
    }
