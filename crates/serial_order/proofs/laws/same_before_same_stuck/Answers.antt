use Rattle.serial_order.proofs.Stuck.{same_before_same_stuck}
use Rattle.serial_order.proofs.laws.same_before_same_stuck.Goals as goal

pub returns : goal.returns
returns c = same_before_same_stuck
