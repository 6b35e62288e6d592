use Rattle.object_format.proofs.NoneBroken.{holds}
use Rattle.object_format.proofs.laws.reads_back.Goals as goal

pub returns : goal.returns
returns c = holds
