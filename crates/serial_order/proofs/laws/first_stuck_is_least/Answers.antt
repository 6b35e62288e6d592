use Rattle.serial_order.proofs.Stuck.{first_stuck_is_least}
use Rattle.serial_order.proofs.laws.first_stuck_is_least.Goals as goal

pub returns : goal.returns
returns c = first_stuck_is_least
