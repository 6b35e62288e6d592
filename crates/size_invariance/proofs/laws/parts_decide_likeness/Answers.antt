use Rattle.size_invariance.proofs.Likeness.{parts_decide_likeness}
use Rattle.size_invariance.proofs.laws.parts_decide_likeness.Goals as goal

pub returns : goal.returns
returns c = parts_decide_likeness
