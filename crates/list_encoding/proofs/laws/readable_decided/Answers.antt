use Rattle.list_encoding.proofs.GuardedIn.{readable_decided}
use Rattle.list_encoding.proofs.laws.readable_decided.Goals as goal

pub returns : goal.returns
returns c = readable_decided
