use Rattle.context_system.proofs.laws.each_can_run.Goals as goal

pub returns : goal.returns
returns c = λ s movable some.
    let there = c.each_is_rescheduled.ensures s.image s.generation movable in
    (there.0, record { movable = movable; formed = there.1; bound = some })
