use Rattle.image_resched.proofs.Shape.{rescheduled_keeps_the_shape}
use Rattle.image_resched.proofs.laws.rescheduled_keeps_the_shape.Goals as goal

pub returns : goal.returns
returns c = rescheduled_keeps_the_shape
