use Rattle.std.proofs.Common.{◌≡◌, ◌≤◌, map}
use Rattle.std.specs.Prelude.{vec_capacity}
use Rattle.std.specs.List.{range_with_len}
use Rattle.page_resched.specs.Writing.{kinds_at}
use Rattle.page_resched.proofs.rescheduling.kinds_into.Given as goal

abbrev pub invariant-loop-i : goal.invariant-loop-i
invariant-loop-i l = record {
  kinds : l.kinds.items ≡ map (kinds_at l.b) (range_with_len 0 l.i);
  room : 512 ≤ vec_capacity l.kinds;
  more : vec_capacity l.fn.kinds ≤ vec_capacity l.kinds;
}
