use Rattle.context_system.proofs.OnPage.{turns_play_their_pages as law}
use Rattle.context_system.proofs.laws.turns_play_their_pages.Goals as goal

pub returns : goal.returns
returns c = law c.shared_run_one_image.ensures c.rescheduled_is_accepted.ensures
