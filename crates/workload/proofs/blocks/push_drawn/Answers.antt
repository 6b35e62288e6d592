use Rattle.std.proofs.Common.{◌∙◌, ap, sym}
use Rattle.workload.specs.Draws.{after}
use Rattle.workload.proofs.Stepping.{after_one_more}
use Rattle.workload.proofs.Pushing.{word_pushed}
use Rattle.workload.proofs.blocks.push_drawn.Goals as goal

pub loop-step-preserved : goal.loop-step-preserved
loop-step-preserved c =
    let n = c.loop-step._step in
    let start = c.args.draws.now.x in
    let kept = c.loop-step.invariant in
    record {
      words =
          word_pushed n start c.loop-step.draws.x c.word.result _ _ c.args.words.now.items
          c.loop-step.words.items c.push.new.self.items kept.words kept.state
          c.word.ensures c.drawn.ensures.guard c.drawn.ensures.operation c.in_ok-push.ensures.items;
      state = c.drawn.ensures.state ∙ ap (after 5) kept.state ∙ sym (after_one_more n start);
    }
