use Rattle.std.proofs.Common.{◌≡◌, ℕ, Vec, Global}
use Rattle.std.proofs.lemmas.Result.{IfOk-weaker}
use Rattle.image_format.specs.Image.{Image}
use Rattle.image_format.specs.Parts.{image_of}
use Rattle.image_format.specs.Bytes.{bytes_of}
use Rattle.image_resched.specs.Rescheduled.{IsRescheduledFile}
use Rattle.image_resched.proofs.Gathered.{file_of}
use Rattle.image_resched.proofs.moving.reschedule.Goals as goal

pub returns-clause-file : goal.returns-clause-file
returns-clause-file g c =
    let new : Image = image_of c.in_ok-parts.parts in
    let d = g.G.Generation.description c.args.g.now in
    IfOk-weaker c.write_parts.result (λ (bytes : Vec ℕ Global). bytes.items ≡ bytes_of new)
    (λ (bytes : Vec ℕ Global). IsRescheduledFile c.args.a.now d bytes.items)
    (λ bytes e. file_of c.args.a.now new d bytes.items c.in_ok-parts.ensures.image e) c.write_parts.ensures.bytes
