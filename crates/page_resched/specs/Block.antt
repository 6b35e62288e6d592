-- A block under another generation: what is scheduled of it, and the timing of a schedule.
use Rattle.std.specs.Prelude.{ℕ, ◌≡◌, ◌<◌, ◌⊎◌, List, length}
use Rattle.operation.specs.Places.{latency_kind, unit_kind}
use Rattle.machine_desc.specs.Description.{Description, units_of, latency_of}
use Rattle.serial_order.specs.Lists.{Earlier}
use Rattle.two_timings.specs.Timing.{Timing, IsOrderOf}
use Rattle.latency_deps.specs.Timing.{ops_of}
use Rattle.latency_deps.specs.Block.{Block}
use Rattle.latency_deps.specs.Delays.{delay_among}
use Rattle.list_sched.specs.Schedule.{Problem, Schedule}

-- what is scheduled of a block
abbrev pub problem : Description → Block → Problem
problem g b = record {
  count = length b.words;
  delay = delay_among g b;
  unit = λ k. unit_kind (ops_of b.words k).op;
  kind = λ k. latency_kind (ops_of b.words k).op;
  machine = g;
}

-- the generation has the units that the block's operations need
abbrev pub HasUnits : Description → Block → Type 0
HasUnits g b = (k : ℕ) → k < length b.words → 0 < units_of g (unit_kind (ops_of b.words k).op)

-- the operations in order of cycle, and of placing within a cycle
pub record IsListing (s : Schedule) (listed : List ℕ) : Type 0 where
  pub complete : IsOrderOf listed s.order
  pub sorted : (i j : ℕ) → Earlier listed i j → (s.cycle i < s.cycle j) ⊎ ((s.cycle i ≡ s.cycle j) × Earlier s.order i j)

-- the timing of a schedule
abbrev pub timing_in : Description → Schedule → List ℕ → Timing
timing_in g s listed = record { listed = listed; at = s.cycle; latency = latency_of g }
