use Rattle.timed_meaning.proofs.SoundRanges.{in_range}
use Rattle.timed_meaning.proofs.sound_is_in_range.Goals as goal

pub returns : goal.returns
returns c = in_range
