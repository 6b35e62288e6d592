use Rattle.two_timings.proofs.TwoTimings.{timings_that_agree_do_the_same}
use Rattle.two_timings.proofs.two_timings_do_the_same.Goals as goal

pub returns : goal.returns
returns c = timings_that_agree_do_the_same
