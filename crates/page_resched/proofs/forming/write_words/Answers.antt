-- One word more.
use Rattle.std.proofs.Common.{◌<◌, ℕ, length, get_or, take, subst, arith}
use Rattle.std.proofs.lemmas.List.{take_more_set}
use Rattle.list_sched.specs.Planned.{schedule_with}
use Rattle.page_resched.specs.Form.{IsFormOf}
use Rattle.page_resched.proofs.Pieces.{one_more}
use Rattle.page_resched.proofs.forming.write_words.Goals as goal

pub loop-m-preserved : goal.loop-m-preserved
loop-m-preserved c =
    let s = schedule_with c.args.listed.now c.args.cycle.now c.args.end in
    let listed = c.args.listed.now in
    let m = c.loop-m.m in
    let there : m < length c.loop-m.words = (let t = c.loop-m-test.true in let size = c.requires.size in let kept = c.loop-m.auto.words in omega arith) in
    one_more c.args.b.now.words s listed (take m c.loop-m.words) _ m c.word_at.result c.loop-m-test.true c.loop-m.invariant
    (subst (λ (old : ℕ). IsFormOf s (take m listed) (get_or listed m 0) old c.word_at.result) c.word.ensures c.word_at.ensures)
    (take_more_set c.loop-m.words m c.word_at.result there)
