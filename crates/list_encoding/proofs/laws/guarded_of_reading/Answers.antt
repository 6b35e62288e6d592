use Rattle.list_encoding.proofs.GuardedIn.{guarded_of_reading}
use Rattle.list_encoding.proofs.laws.guarded_of_reading.Goals as goal

pub returns : goal.returns
returns c = guarded_of_reading
