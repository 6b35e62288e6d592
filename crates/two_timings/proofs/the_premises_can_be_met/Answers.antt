use Rattle.two_timings.proofs.Example.{meets_the_premises}
use Rattle.two_timings.proofs.the_premises_can_be_met.Goals as goal

pub returns : goal.returns
returns c = meets_the_premises
