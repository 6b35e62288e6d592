use Rattle.operation.proofs.WiredFamilies.{wired_by_all_destinations}
use Rattle.operation.proofs.laws.wired_by_all_destinations.Goals as goal

pub returns : goal.returns
returns c = wired_by_all_destinations
