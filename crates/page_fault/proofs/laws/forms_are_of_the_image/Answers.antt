use Rattle.page_fault.proofs.Whole.{forms_are_of_the_image}
use Rattle.page_fault.proofs.laws.forms_are_of_the_image.Goals as goal

pub returns : goal.returns
returns c = forms_are_of_the_image
