use Rattle.list_encoding.proofs.Readings.{place_decides_nothing}
use Rattle.list_encoding.proofs.laws.place_decides_nothing.Goals as goal

pub returns : goal.returns
returns c = place_decides_nothing
