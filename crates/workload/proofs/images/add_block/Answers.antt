use Rattle.std.proofs.Common.{◌≡◌, ◌∙◌, length, sym, arith}
use Rattle.std.proofs.lemmas.Result.{on_ok_weaker}
use Rattle.workload.specs.Layout.{placed}
use Rattle.workload.specs.Generated.{block_words}
use Rattle.workload.proofs.Placing.{is_placed}
use Rattle.workload.proofs.InnerWords.{short_ending, block_length}
use Rattle.workload.proofs.Adding.{whatever, gap_length, row_added, words_added}
use Rattle.workload.proofs.images.add_block.Goals as goal

pub overflow_cast-entry : goal.overflow_cast-entry
overflow_cast-entry c =
    let old = c.args.words.now.items in
    let n = c.word_count-count.result in
    let s = short_ending c.args.last in
    let l = gap_length old c.push_gap.new.words.items n (omega arith) c.in_ok-push_gap.ensures in
    let near = (is_placed (length old) n (omega arith)).near 256 (omega arith) in
    omega arith

pub returns-clause-rows : goal.returns-clause-rows
returns-clause-rows c =
    let old = c.args.words.now.items in
    let n = c.word_count-count.result in
    let b = block_words c.args.i c.args.ops c.args.last c.args.draws.now.x in
    let s = short_ending c.args.last in
    let l = gap_length old c.push_gap.new.words.items n (omega arith) c.in_ok-push_gap.ensures in
    let e : c.len-entry.result ≡ placed (length old) n = omega arith in
    whatever c.push_block.result _
    (row_added (length old) n c.len-entry.result b c.args.rows.now.items c.push.new.self.items
    (c.word_count-count.ensures ∙ sym (block_length c.args.i c.args.ops c.args.last c.args.draws.now.x c.requires.some)) e
    c.in_ok-push.ensures.items)

pub returns-clause-words : goal.returns-clause-words
returns-clause-words c =
    let n = c.word_count-count.result in
    on_ok_weaker c.push_block.result
    (words_added n (block_words c.args.i c.args.ops c.args.last c.args.draws.now.x) c.args.words.now.items
    c.push_gap.new.words.items c.push_block.new.words.items
    (c.word_count-count.ensures ∙ sym (block_length c.args.i c.args.ops c.args.last c.args.draws.now.x c.requires.some))
    c.in_ok-push_gap.ensures)
    c.push_block.ensures.words
