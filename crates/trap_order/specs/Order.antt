-- The pairs of operations that keep issue order.
use Rattle.std.specs.Prelude.{◌&&◌, ◌||◌, Bool}
use Rattle.operation.specs.declared.Op.{Op}
use Rattle.operation.specs.Places.{can_trap, is_inb}

-- both can trap, or both take a byte of the input
abbrev pub keep_issue_order : Op → Op → Bool
keep_issue_order a b = (can_trap a && can_trap b) || (is_inb a && is_inb b)
