use Rattle.operation.proofs.EffectRanges.{effect_in_range}
use Rattle.operation.proofs.laws.effects_in_range.Goals as goal

pub returns : goal.returns
returns c = effect_in_range
