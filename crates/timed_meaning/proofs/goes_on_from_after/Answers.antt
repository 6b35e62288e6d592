use Rattle.timed_meaning.proofs.Afterwards.{goes_on_from_after_lem}
use Rattle.timed_meaning.proofs.goes_on_from_after.Goals as goal

pub returns : goal.returns
returns c = goes_on_from_after_lem
