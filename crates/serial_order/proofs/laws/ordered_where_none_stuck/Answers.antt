use Rattle.serial_order.proofs.Existence.{ordered_where_none_stuck}
use Rattle.serial_order.proofs.laws.ordered_where_none_stuck.Goals as goal

pub returns : goal.returns
returns c = ordered_where_none_stuck
