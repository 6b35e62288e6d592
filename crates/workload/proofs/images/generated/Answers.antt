use Rattle.std.proofs.Common.{◌≡◌, None, Some, sym, ap, ◌∙◌}
use Rattle.image_format.specs.Image.{image_in}
use Rattle.image_check.specs.Rules.{first_broken}
use Rattle.workload.proofs.images.generated.Goals as goal

pub unreachable-requires : goal.unreachable-requires
unreachable-requires c =
    let told = rw c.in-Err-Refused.field-0-is at c.in-Err-Refused.ensures.answer in
    let none : None ≡ Some c.in-Err-Refused.field-0-0 =
    sym c.in_ok-bytes.ensures.accepted ∙ ap first_broken (sym c.deref.ensures.value) ∙ told in
    cc none

pub returns-in-Ok-clause-image : goal.returns-in-Ok-clause-image
returns-in-Ok-clause-image c =
    c.in-Ok.ensures.answer.1 ∙ ap image_in c.deref.ensures.value ∙ c.in_ok-bytes.ensures.image
