-- When operations can be scheduled, as tests of their pairs. For the tests of schedules, which ask for no others.
use Rattle.std.specs.Prelude.{ℕ, Bool, true, not, ◌||◌, ◌&&◌, nat_eq, nat_lt, int_le, pos, List, is_none}
use Rattle.std.specs.List.{list_all, range_with_len}
use Rattle.std.specs.Option.{option_map_or}
use Rattle.operation.specs.declared.UnitKind.{UnitKind}
use Rattle.operation.specs.declared.UnitKind.TheVariants as unit
use Rattle.operation.specs.declared.LatKind.{LatKind}
use Rattle.machine_desc.specs.Description.{Description, units_of}
use Rattle.machine_desc.specs.Issue.{same_unit}
use Rattle.serial_order.specs.Table.{Table, delay_of}
use Rattle.list_sched.specs.Given.{unit_in}

abbrev pub is_branch : List (UnitKind × LatKind) → ℕ → Bool
is_branch kinds i = same_unit (unit_in kinds i) unit.B

-- the delay of i before j is at most 32, a branch is before no other, and no other is a branch
abbrev pub is_fit : Table → List (UnitKind × LatKind) → (i j : ℕ) → Bool
is_fit d kinds i j =
    option_map_or (λ x. int_le x (pos 32)) (delay_of d i j) true
    && (not (is_branch kinds i) || (is_none (delay_of d i j) && (nat_eq i j || not (is_branch kinds j))))

abbrev pub are_fit : Table → List (UnitKind × LatKind) → Bool
are_fit d kinds = list_all (λ i. list_all (is_fit d kinds i) (range_with_len 0 d.count)) (range_with_len 0 d.count)

-- a machine has a unit for each operation
abbrev pub have_units : List (UnitKind × LatKind) → Description → Bool
have_units kinds g = list_all (λ k. nat_lt 0 (units_of g k.0)) kinds
