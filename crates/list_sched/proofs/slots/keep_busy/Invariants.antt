use Rattle.std.proofs.Common.{◌≡◌, ◌≤◌, ◌+◌, ◌*◌, ℕ, slice_index}
use Rattle.operation.specs.Places.{unit_number}
use Rattle.list_sched.specs.Slots.{IsBusier}
use Rattle.list_sched.proofs.slots.keep_busy.Given as goal

abbrev pub invariant-loop-t : goal.invariant-loop-t
invariant-loop-t l =
    record {
      busier : IsBusier l.initial.busy l.busy l.k l.from l.t;
      rest : (c : ℕ) → l.t ≤ c → slice_index l.busy (c * 5 + unit_number l.k) ≡ slice_index l.initial.busy (c * 5 + unit_number l.k);
    }
