use Rattle.std.proofs.Common.{sym, subst}
use Rattle.object_format.proofs.Walks.{Walked, walk_begun, walk_on, walk_ended}
use Rattle.object_format.proofs.rules.names_end.Goals as goal

pub loop-k-init : goal.loop-k-init
loop-k-init c = subst (Walked c.args.bytes.now c.args.count 0) (sym c.names_offset-end.ensures.offset) (walk_begun c.args.bytes.now c.args.count)

pub loop-k-preserved : goal.loop-k-preserved
loop-k-preserved c =
    walk_on c.args.bytes.now c.args.count c.loop-k._k c.loop-k.end c.byte_at.result c.loop-k-test.true c.byte_at.ensures.value c.byte_at.ensures.bound c.loop-k.invariant

pub returns : goal.returns
returns c = walk_ended c.args.bytes.now c.args.count c.loop-k._k c.loop-k.end c.loop-k-test.false c.loop-k.invariant
