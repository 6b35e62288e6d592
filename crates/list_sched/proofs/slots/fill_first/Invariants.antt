use Rattle.std.proofs.Common.{◌≡◌, ◌++◌, replicate, drop}
use Rattle.list_sched.proofs.slots.fill_first.Given as goal

abbrev pub invariant-loop-i : goal.invariant-loop-i
invariant-loop-i g l = l.list ≡ replicate l.i l.value ++ drop l.i l.initial.list
