use Rattle.image_check.proofs.FirstLacking.{first_is}
use Rattle.image_check.proofs.units.has_units.Goals as goal

pub returns-clause-first : goal.returns-clause-first
returns-clause-first g c = first_is _ (g.G.Generation.description c.args.g.now) c.find_lacking.result c.find_lacking.ensures.lacking c.find_lacking.ensures.none
