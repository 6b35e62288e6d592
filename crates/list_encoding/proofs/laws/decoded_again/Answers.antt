use Rattle.list_encoding.proofs.Readings.{decoded_again}
use Rattle.list_encoding.proofs.laws.decoded_again.Goals as goal

pub returns : goal.returns
returns c = decoded_again
