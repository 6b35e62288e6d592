-- The image's file is kept, and its line put out.
use Rattle.std.proofs.Common.{ap, sym, length, ◌∙◌, ◌≡◌, Some, refl, rules}
use Rattle.machine_desc.specs.Value.{description_of}
use Rattle.tinker_texts.specs.Report.{wrote_line}
use Rattle.tinker_top.specs.Outcome.{Kept, Rescheduled, ends}
use Rattle.tinker_top.specs.Command.{if_it_has_units}
use Rattle.image_resched.proofs.Lengths.{rescheduled_length}
use Rattle.tinker_top.proofs.moving.moved.Goals as goal

pub returns : goal.returns
returns c =
    let image = c.args.image.now in
    let g = description_of c.args.g.now in
    let out = c.args.out.now in
    let k : Kept = record { name = out; content = Rescheduled image g } in
    let many : c.len.result ≡ length c.in_ok-bytes.bytes.items = search rules in
    let none = sym c.has_units.ensures.first ∙ c.in_default.is in
    let long = rescheduled_length image g c.in_ok-bytes.bytes.items c.in_ok-bytes.ensures.file in
    record {
      kept = Some k;
      keeps = record { name = refl; content = c.in_ok-bytes.ensures.file };
      same = ap (if_it_has_units c.args.name.now out image g) none ∙ ap (ends (Some k) 0) (sym (c.in_ok-text.ensures ∙ ap (wrote_line out) (many ∙ long)));
    }
