use Rattle.image_format.specs.Image.{Image}
use Rattle.tinker_top.proofs.Judging.{accepted_is_judged}
use Rattle.tinker_top.proofs.commands.judge.Goals as goal

pub returns-in-Ok : goal.returns-in-Ok
returns-in-Ok c =
    accepted_is_judged {V = Image} (λ image. image) c.args.name.now c.args.bytes.now c.in-Ok.image c.in-Ok.ensures.answer.0 c.in-Ok.ensures.answer.1
