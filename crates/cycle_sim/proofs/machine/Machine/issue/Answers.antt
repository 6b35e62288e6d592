use Rattle.std.proofs.Common.{ap, ◌∙◌}
use Rattle.block_steps.specs.Steps.{step}
use Rattle.cycle_sim.specs.Machine.{Simulated, block_of_ops}
use Rattle.cycle_sim.specs.Whole.{moment_of}
use Rattle.cycle_sim.proofs.machine.Machine.issue.Goals as goal

pub returns-clause-moment : goal.returns-clause-moment
returns-clause-moment c =
    let m = c.self.inside in
    let b = block_of_ops c.args.entry c.args.ops.now c.args.end c.args.next in
    c.issue_parts-issued.ensures.moment
    ∙ ap (λ i. (step i m.limit b (moment_of m.registers m.work m.clock m.cycles)).0) c.deref.ensures.value
    ∙ ap (λ (v : Simulated). (step v.input v.limit b v.moment).0) c.self.view_is
