use Rattle.std.proofs.Common.{◌<◌, ◌≤◌, ◌+◌, ◌*◌, ℕ, slice_index}
use Rattle.operation.specs.Places.{unit_number}
use Rattle.machine_desc.specs.Description.{units_of}
use Rattle.list_sched.proofs.slots.are_free.Given as goal

abbrev pub invariant-loop-t : goal.invariant-loop-t
invariant-loop-t g l =
    (c : ℕ) → l.from ≤ c → c < l.t → slice_index l.busy (c * 5 + unit_number l.k) < units_of (g.G.Generation.description l.g) l.k
