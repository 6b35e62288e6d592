use Rattle.serial_order.proofs.Stuck.{stuck_where_some_set_has}
use Rattle.serial_order.proofs.laws.stuck_where_some_set_has.Goals as goal

pub returns : goal.returns
returns c = stuck_where_some_set_has
