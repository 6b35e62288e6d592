use Rattle.std.proofs.Common.{◌+◌, ◌^◌, ◌<◌, ap, ◌∙◌, length, arith}
use Rattle.std.proofs.lemmas.List.Elements.{All-push}
use Rattle.std.proofs.lemmas.List.{length_push}
use Rattle.timed_meaning.specs.declared.TimedOp.{TimedOp}
use Rattle.calls.proofs.meanings.block.Goals as goal

pub loop-op-preserved : goal.loop-op-preserved
loop-op-preserved g c =
    let items = c.in_ok-push.ensures.items in
    let longer = ap length items ∙ length_push c.loop-op.listed.items c.timed.result in
    let lands : c.timed.result.at + c.timed.result.latency < 2 ^ 32 = omega (arith, c.timed.ensures.at, c.timed.ensures.latency) in
    record {
      few = omega (arith, longer, c.loop-op.invariant.few);
      landings = rw items (All-push (λ (k : TimedOp). k.at + k.latency < 2 ^ 32) c.loop-op.listed.items c.timed.result c.loop-op.invariant.landings lands);
    }
