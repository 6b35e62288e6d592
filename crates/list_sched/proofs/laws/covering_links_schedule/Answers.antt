use Rattle.list_sched.proofs.Covering.{covering_links_schedule}
use Rattle.list_sched.proofs.laws.covering_links_schedule.Goals as goal

pub returns : goal.returns
returns c = covering_links_schedule
