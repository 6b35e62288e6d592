use Rattle.std.proofs.Common.{length}
use Rattle.tinker_words.proofs.settings.Settings.+and_then.Given as goal

abbrev pub decreases-and_then : goal.decreases-and_then
decreases-and_then l = length l.words.now
