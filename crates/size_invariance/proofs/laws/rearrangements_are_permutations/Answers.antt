use Rattle.size_invariance.proofs.Likeness.{rearrangements_are_permutations}
use Rattle.size_invariance.proofs.laws.rearrangements_are_permutations.Goals as goal

pub returns : goal.returns
returns c = rearrangements_are_permutations
