use Rattle.std.proofs.Common.{◌≡◌, ◌<◌, ℕ}
use Rattle.operation.specs.declared.UnitKind.TheVariants as unit
use Rattle.list_sched.specs.Given.{unit_in}
use Rattle.list_sched.proofs.waiting.find_branch.Given as goal

abbrev pub invariant-loop-i : goal.invariant-loop-i
invariant-loop-i l = (j : ℕ) → j < l.i → ¬ (unit_in l.kinds j ≡ unit.B)
