use Rattle.serial_order.proofs.Stuck.{stuck_set_is_greatest}
use Rattle.serial_order.proofs.laws.stuck_set_is_greatest.Goals as goal

pub returns : goal.returns
returns c = stuck_set_is_greatest
