use Rattle.std.proofs.Common.{◌+◌, ◌<◌, ◌++◌, ◌∷◌, [], ap, sym, ◌∙◌, length, arith}
use Rattle.list_encoding.proofs.Issues.{timed_head, timed_other, timed_at}
use Rattle.list_encoding.proofs.Bounds.{bounded}
use Rattle.list_encoding.proofs.timing.times.Goals as goal
use Rattle.list_encoding.proofs.timing.times.Goals.{then-is_head, else-is_head}

pub loop-word-preserved : goal.loop-word-preserved
loop-word-preserved c =
    let words = c.args.words.now in
    let k = c.loop-word.word-index in
    let present = c.loop-word.present in
    let next = c.loop-word.next in
    let before = c.loop-word.at.items in
    let below : k < length words = omega arith in
    let pushed = c.in_ok-push.ensures.items in
    elim c.if-is_head.branch [
      | then-is_head w ↦
          timed_at words (k + 1) next _ c.if-is_head.present c.if-is_head.next _ c.push.new.self.items
          (timed_head words k present next before c.loop-word.invariant below (sym w.if-is_head.ensures))
          w.present-is (w.next-is ∙ ap (λ n. next + (1 + n)) w.pause.ensures.value) (pushed ∙ ap (λ t. before ++ t ∷ []) w.present-is)
      | else-is_head w ↦
          timed_at words (k + 1) present next c.if-is_head.present c.if-is_head.next _ c.push.new.self.items
          (timed_other words k present next before c.loop-word.invariant below (sym w.if-is_head.ensures))
          w.present-is w.next-is (pushed ∙ ap (λ t. before ++ t ∷ []) w.present-is)
    ]

pub returns-clause-count : goal.returns-clause-count
returns-clause-count c = (bounded c.args.words.now c.loop-word.word-index _ _ _ c.loop-word.invariant (omega arith)).count

pub returns-clause-rising : goal.returns-clause-rising
returns-clause-rising c = (bounded c.args.words.now c.loop-word.word-index _ _ _ c.loop-word.invariant (omega arith)).rising

pub returns-clause-within : goal.returns-clause-within
returns-clause-within c = (bounded c.args.words.now c.loop-word.word-index _ _ _ c.loop-word.invariant (omega arith)).within
