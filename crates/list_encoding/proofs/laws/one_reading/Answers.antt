use Rattle.list_encoding.proofs.Readings.{one_reading}
use Rattle.list_encoding.proofs.laws.one_reading.Goals as goal

pub returns : goal.returns
returns c = one_reading
