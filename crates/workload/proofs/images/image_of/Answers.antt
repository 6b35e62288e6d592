use Rattle.std.proofs.Common.{◌≡◌, ℕ, None, Vec, Global, sym, ap, subst, ◌∙◌}
use Rattle.std.proofs.lemmas.Result.{IfOk-weaker}
use Rattle.image_format.specs.Image.{Image, IsWithinLimits}
use Rattle.image_format.specs.Parts.{image_of as image_of_parts}
use Rattle.image_format.specs.Bytes.{bytes_of}
use Rattle.image_check.specs.Rules.{first_broken}
use Rattle.image_check.proofs.Wholes.{unbroken}
use Rattle.workload.specs.Generated.{generated}
use Rattle.workload.proofs.Accepted.{generated_is_accepted}
use Rattle.workload.proofs.images.image_of.Goals as goal

pub write_parts-requires : goal.write_parts-requires
write_parts-requires c =
    subst IsWithinLimits (sym c.in_ok-parts.ensures)
    (generated_is_accepted c.args.number c.args.blocks c.args.ops c.requires).written.limits

pub returns-clause-accepted : goal.returns-clause-accepted
returns-clause-accepted c =
    let image : Image = generated c.args.number c.args.blocks c.args.ops in
    IfOk-weaker c.write_parts.result (λ (bytes : Vec ℕ Global). bytes.items ≡ bytes_of (image_of_parts c.in_ok-parts.parts))
    (λ (bytes : Vec ℕ Global). first_broken bytes.items ≡ None)
    (λ bytes e. ap first_broken (e ∙ ap bytes_of c.in_ok-parts.ensures)
    ∙ unbroken image (generated_is_accepted c.args.number c.args.blocks c.args.ops c.requires))
    c.write_parts.ensures.bytes
