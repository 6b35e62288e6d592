use Rattle.std.proofs.Common.{◌≡◌, ◌∙◌, Option, None, sym, ap, subst, arith}
use Rattle.std.specs.Prelude.{option_map, MatchResult}
use Rattle.std.proofs.lemmas.List.{get_or_default}
use Rattle.image_format.specs.Image.{Image, image_in}
use Rattle.image_format.specs.Parts.{image_of}
use Rattle.image_format.specs.Rules.{first_of}
use Rattle.image_format.specs.Laws.{IsImage}
use Rattle.image_check.specs.declared.rules.Refusal.{Refusal}
use Rattle.image_check.specs.Rules.{refusal, form_rule, broken_part, first_broken, IsFaultOf}
use Rattle.image_check.proofs.Read.{image_read}
use Rattle.image_check.proofs.examining.examine.Goals as goal

pub examined-requires : goal.examined-requires
examined-requires c =
    let read = c.in_ok-read_parts.ensures.read in
    subst IsImage (sym read.1) (image_read c.args.bytes.now (λ k d below.
    let same = get_or_default c.args.bytes.now k d 0 below in
    let fits = c.type_inv.bytes k in
    omega (arith, same, fits)) read.0)

pub returns : goal.returns
returns c =
    let bytes = c.args.bytes.now in
    let read = c.in_ok-read_parts.ensures.read in
    let image = image_of c.in_ok-read_parts.field-0 in
    let same : first_broken bytes ≡ broken_part image =
    ap (λ o. first_of (option_map (λ b. refusal (form_rule b.0) b.1 0) o) (broken_part (image_in bytes))) read.0 ∙ ap broken_part (sym read.1) in
    subst (λ (o : Option Refusal). MatchResult c.examined.result (λ a. (o ≡ None) × (image_of a ≡ image_in bytes)) (IsFaultOf o)) (sym same)
    (subst (λ (i : Image). MatchResult c.examined.result (λ a. (broken_part image ≡ None) × (image_of a ≡ i)) (IsFaultOf (broken_part image))) read.1 c.examined.ensures)
