use Rattle.context_system.proofs.Ending.{contexts_end as law}
use Rattle.context_system.proofs.laws.contexts_end.Goals as goal

pub returns : goal.returns
returns c = law c.sound_is_in_order.ensures c.programs_are_sound.ensures c.rescheduled_is_accepted.ensures
