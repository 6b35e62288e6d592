use Rattle.timed_meaning.proofs.Counting.{takes_no_more_lem}
use Rattle.timed_meaning.proofs.takes_no_more_once_ended.Goals as goal

pub returns : goal.returns
returns c = takes_no_more_lem
