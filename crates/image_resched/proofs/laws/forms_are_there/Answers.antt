use Rattle.image_resched.proofs.Exists.{forms_are_there}
use Rattle.image_resched.proofs.laws.forms_are_there.Goals as goal

pub returns : goal.returns
returns c = forms_are_there
