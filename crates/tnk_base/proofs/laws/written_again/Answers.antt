use Rattle.tnk_base.proofs.ReadWritten.{written_again}
use Rattle.tnk_base.proofs.laws.written_again.Goals as goal

pub returns : goal.returns
returns c = written_again
