use Rattle.two_timings.proofs.Conflicts.{own_times_agree}
use Rattle.two_timings.proofs.own_times_agree.Goals as goal

pub returns : goal.returns
returns c = own_times_agree
