use Rattle.image_format.specs.Parts.{image_of}
use Rattle.image_format.specs.declared.Parts.{Parts}
use Rattle.tinker_top.proofs.Judging.{accepted_is_judged}
use Rattle.tinker_top.proofs.commands.judge_parts.Goals as goal

pub returns-in-Ok : goal.returns-in-Ok
returns-in-Ok c =
    accepted_is_judged {V = Parts} image_of c.args.name.now c.args.bytes.now c.in-Ok.parts c.in-Ok.ensures.0 c.in-Ok.ensures.1
