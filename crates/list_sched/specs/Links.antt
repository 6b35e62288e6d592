-- The problem that links state, and the links of a table. For contracts within the crate.
use Rattle.std.specs.Prelude.{ℕ, zero, suc, List, [], ◌∷◌, ◌++◌, Option, Some, None, ℤ}
use Rattle.operation.specs.declared.UnitKind.{UnitKind}
use Rattle.operation.specs.declared.LatKind.{LatKind}
use Rattle.machine_desc.specs.Description.{Description}
use Rattle.serial_order.specs.Table.{Table, delay_of}
use Rattle.block_links.specs.declared.links.Dependence.TheVariants.{Given}
use Rattle.block_links.specs.declared.links.Link.{Link}
use Rattle.block_links.specs.declared.links.Links.{Links}
use Rattle.block_links.specs.Links.{delay_along}
use Rattle.list_sched.specs.Schedule.{Problem}
use Rattle.list_sched.specs.Given.{latency_in, problem_by}

-- what is scheduled where links say which operation is before which
abbrev pub linked : Links → List (UnitKind × LatKind) → Description → Problem
linked l kinds g = problem_by (delay_along (latency_in kinds g) l) kinds g

-- the links of operation i to those below m, as a table says
abbrev pub link_if : ℕ → Option ℤ → List Link
link_if j None = []
link_if j (Some d) = record { to = j; dependence = Given d } ∷ []

unfoldable pub links_below : Table → ℕ → ℕ → List Link
links_below d i zero = []
links_below d i (suc j) = links_below d i j ++ link_if j (delay_of d i j)
