use Rattle.std.proofs.Common.{◌+◌, set, get_or, ap, sym, subst, ◌∙◌, arith}
use Rattle.list_encoding.specs.Word.{pause_in}
use Rattle.block_ops.proofs.Filled.{IsTimedTo, more_head, more_other, all_ops}
use Rattle.block_ops.proofs.time_block.Goals as goal
use Rattle.block_ops.proofs.time_block.Goals.{then-is_head, else-is_head}

pub loop-k-preserved : goal.loop-k-preserved
loop-k-preserved g c =
    let generation = g.G.Generation.description c.args.g.now in
    let words = c.args.words.now in
    let l = c.loop-k in
    let op = c.timed_op.result in
    let ops = set l.ops l.k op in
    let made = c.timed_op.ensures in
    elim c.if-is_head.branch [
      | then-is_head w ↦
          subst (λ n. IsTimedTo generation words (l.k + 1) c.if-is_head.present n ops) (sym (w.next-is ∙ ap (λ n. l.next + (1 + n)) w.pause.ensures.value))
          (subst (λ n. IsTimedTo generation words (l.k + 1) n (l.next + (1 + pause_in (get_or words l.k 0))) ops) (sym w.present-is)
          (more_head generation words l.k l.present l.next l.ops op c.loop-k-test.true (sym w.if-is_head.ensures) l.invariant made.guarded (made.at ∙ w.present-is) made.latency))
      | else-is_head w ↦
          subst (λ n. IsTimedTo generation words (l.k + 1) c.if-is_head.present n ops) (sym w.next-is)
          (subst (λ n. IsTimedTo generation words (l.k + 1) n l.next ops) (sym w.present-is)
          (more_other generation words l.k l.present l.next l.ops op c.loop-k-test.true (sym w.if-is_head.ensures) l.invariant made.guarded (made.at ∙ w.present-is) made.latency))
    ]

pub returns-clause-ops : goal.returns-clause-ops
returns-clause-ops g c = all_ops (g.G.Generation.description c.args.g.now) c.args.words.now c.loop-k.k _ _ c.loop-k.ops c.loop-k.invariant (omega arith)
