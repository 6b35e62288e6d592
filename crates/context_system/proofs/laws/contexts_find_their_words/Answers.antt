use Rattle.context_system.proofs.Shared.{contexts_find_their_words as law}
use Rattle.context_system.proofs.laws.contexts_find_their_words.Goals as goal

pub returns : goal.returns
returns c = law c.shared_run_one_image.ensures
