-- What the arguments of the scheduler say.
use Rattle.std.specs.Prelude.{ℕ, List, length, slice_index_or, Option, ℤ}
use Rattle.operation.specs.declared.UnitKind.{UnitKind}
use Rattle.operation.specs.declared.UnitKind.TheVariants as unit
use Rattle.operation.specs.declared.LatKind.{LatKind}
use Rattle.operation.specs.declared.LatKind.TheVariants as lat
use Rattle.machine_desc.specs.Description.{Description, latency_of}
use Rattle.serial_order.specs.Table.{Table, delay_of}
use Rattle.block_links.specs.Cover.{Covers}
use Rattle.block_links.specs.Links.{delay_along}
use Rattle.block_links.specs.declared.links.Links.{Links}
use Rattle.list_sched.specs.Schedule.{Problem, IsProblem}

-- the kinds of operation k; those of a branch where there is no such operation
abbrev pub unit_in : List (UnitKind × LatKind) → ℕ → UnitKind
unit_in kinds k = (slice_index_or kinds k (unit.B, lat.Branch)).0

abbrev pub kind_in : List (UnitKind × LatKind) → ℕ → LatKind
kind_in kinds k = (slice_index_or kinds k (unit.B, lat.Branch)).1

-- and its latency
abbrev pub latency_in : List (UnitKind × LatKind) → Description → ℕ → ℕ
latency_in kinds g k = latency_of g (kind_in kinds k)

-- what is scheduled where a table says the delays
abbrev pub problem_of : Table → List (UnitKind × LatKind) → Description → Problem
problem_of d kinds g = record { count = d.count; delay = delay_of d; unit = unit_in kinds; kind = kind_in kinds; machine = g }

-- what is scheduled where the delays are these
abbrev pub problem_by : (ℕ → ℕ → Option ℤ) → List (UnitKind × LatKind) → Description → Problem
problem_by delay kinds g = record { count = length kinds; delay = delay; unit = unit_in kinds; kind = kind_in kinds; machine = g }

-- links of these operations cover the delays, with which they can be scheduled
pub record AreCovered (l : Links) (delay : ℕ → ℕ → Option ℤ) (kinds : List (UnitKind × LatKind)) (g : Description) : Type 0 where
  pub covered : Covers (delay_along (latency_in kinds g) l) delay
  pub problem : IsProblem (problem_by delay kinds g)
