use Rattle.std.proofs.Common.{◌∙◌, ◌<◌, length, ap, arith}
use Rattle.std.specs.Prelude.{slice_set}
use Rattle.list_sched.proofs.Fronts.{front_grows}
use Rattle.list_sched.proofs.slots.fill_first.Goals as goal

pub loop-i-preserved : goal.loop-i-preserved
loop-i-preserved g c =
    let there : c.loop-i.i < length c.args.list.now = (let r = c.requires in let t = c.loop-i-test.true in omega arith) in
    ap (λ l. slice_set l c.loop-i.i c.args.value) c.loop-i.invariant ∙ front_grows c.args.value c.loop-i.i c.args.list.now there
