use Rattle.page_resched.proofs.Pages.{one_page_form}
use Rattle.page_resched.proofs.laws.one_page_form.Goals as goal

pub returns : goal.returns
returns c = one_page_form
