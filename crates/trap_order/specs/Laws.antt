-- What holds of the pairs that keep issue order.
use Rattle.std.specs.Prelude.{◌≡◌}
use Rattle.operation.specs.declared.Op.{Op}
use Rattle.trap_order.specs.Order.{keep_issue_order}

-- the relation is symmetric
abbrev pub EitherWayRound : Type 0
EitherWayRound = (a b : Op) → keep_issue_order a b ≡ keep_issue_order b a
