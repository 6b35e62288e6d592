use Rattle.std.proofs.Common.{◌≡◌, ◌%◌}
use Rattle.workload.specs.Operations.{operation_by, guard_by, drawn_operation, drawn_guard}
use Rattle.workload.proofs.Choices.{made_by_draws}
use Rattle.workload.proofs.operations.choose.Goals as goal

-- what the five draws make
abbrev made : (c : goal.After-draw-2) →
    (operation_by (c.draw.result % 10) c.register-d.result c.register-s.result c.register-t.result (c.draw-2.result % 64) ≡
    drawn_operation c.args.draws.now.x)
    × (guard_by (c.draw.result % 10) (c.draw-2.result % 64) ≡ drawn_guard c.args.draws.now.x)
made c = made_by_draws c.args.draws.now.x _ _ _ _ _ _ _ _ _ (record {
  kind_is = c.draw.ensures.number;
  one_is = c.draw.ensures.state;
  d_is = c.register-d.ensures.number;
  two_is = c.register-d.ensures.state;
  s_is = c.register-s.ensures.number;
  three_is = c.register-s.ensures.state;
  t_is = c.register-t.ensures.number;
  four_is = c.register-t.ensures.state;
  value_is = c.draw-2.ensures.number;
})

pub returns-clause-operation : goal.returns-clause-operation
returns-clause-operation c = (made c).0

pub returns-clause-guard : goal.returns-clause-guard
returns-clause-guard c = (made c).1
