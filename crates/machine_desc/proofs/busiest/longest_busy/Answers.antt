use Rattle.machine_desc.proofs.Longest.{is_longest}
use Rattle.machine_desc.proofs.busiest.longest_busy.Goals as goal

pub returns : goal.returns
returns g c = is_longest (g.G.Generation.description c.args.g.now) c.longest_of.result c.longest_of.ensures
