use Rattle.std.proofs.Common.{subst, sym}
use Rattle.image_format.specs.Image.{Image}
use Rattle.image_format.specs.Parts.{image_of}
use Rattle.image_format.specs.declared.Parts.{Parts}
use Rattle.tinker_top.specs.Command.{with_image}
use Rattle.tinker_top.specs.Steps.{GivesTo, IsJudged}
use Rattle.tinker_top.proofs.Onward.{passed_on}
use Rattle.tinker_top.proofs.Judging.{judged_gives, unfetched_stops}
use Rattle.tinker_top.proofs.commands.parts.Goals as goal

pub returns-in_err-bytes-clause-given : goal.returns-in_err-bytes-clause-given
returns-in_err-bytes-clause-given g c = λ files told.
    let name = c.args.name.now in
    let old = g.H.Host.shows c.args.host.now in
    let new = g.H.Host.shows c.fetch.new.host in
    let why = c.in_err-bytes.field-0.0 in
    subst (λ r. GivesTo {V = Parts} {X = Image} image_of (with_image files name) r old new)
    (sym (passed_on c.from_residual.result why c.from_residual.ensures))
    (unfetched_stops {V = Parts} image_of files name why old new (c.in_err-bytes.ensures.given files told))

pub returns-clause-given : goal.returns-clause-given
returns-clause-given g c = λ files told.
    let name = c.args.name.now in
    let old = g.H.Host.shows c.args.host.now in
    let new = g.H.Host.shows c.fetch.new.host in
    judged_gives {V = Parts} image_of files name c.in_ok-bytes.bytes c.judge_parts.result old new (c.in_ok-bytes.ensures.given files told)
    (subst (λ b. IsJudged {V = Parts} image_of name b c.judge_parts.result) c.deref.ensures.value c.judge_parts.ensures)
