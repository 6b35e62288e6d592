use Rattle.page_resched.proofs.Pages.{each_page_has_a_form}
use Rattle.page_resched.proofs.laws.each_page_has_a_form.Goals as goal

pub returns : goal.returns
returns c = each_page_has_a_form
