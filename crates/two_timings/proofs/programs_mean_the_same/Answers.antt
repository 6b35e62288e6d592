use Rattle.two_timings.proofs.Programs.{programs_alike_mean_the_same}
use Rattle.two_timings.proofs.programs_mean_the_same.Goals as goal

pub returns : goal.returns
returns c = programs_alike_mean_the_same
