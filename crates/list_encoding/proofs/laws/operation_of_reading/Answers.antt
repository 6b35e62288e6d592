use Rattle.list_encoding.proofs.GuardedIn.{operation_of_reading}
use Rattle.list_encoding.proofs.laws.operation_of_reading.Goals as goal

pub returns : goal.returns
returns c = operation_of_reading
