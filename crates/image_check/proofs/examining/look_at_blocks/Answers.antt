use Rattle.std.proofs.Common.{◌≡◌, ◌∙◌, ◌-◌, ℕ, None, length, ap, subst, arith}
use Rattle.std.proofs.lemmas.Result.{err_from_is_err_and}
use Rattle.std.proofs.lemmas.List.{length-map}
use Rattle.image_format.specs.declared.Row.{Row}
use Rattle.image_format.specs.Image.{Image}
use Rattle.image_format.specs.Parts.{image_of}
use Rattle.image_check.specs.Rules.{broken_block, broken_rows}
use Rattle.image_check.proofs.Faulty.{among}
use Rattle.image_check.proofs.Gathered.{kept_more}
use Rattle.image_check.proofs.examining.look_at_blocks.Goals as goal

pub returns-in_err-block : goal.returns-in_err-block
returns-in_err-block c =
    let p = err_from_is_err_and c.from_residual.result c.from_residual.ensures.1 in
    let image : Image = image_of c.args.parts.now in
    let all : length c.args.table.now ≡ length image.rows = ap length c.requires.same ∙ length-map image.rows (λ (r : Row). (r.entry, r.count)) in
    rw (p.1, p.2)
    (among (broken_block image) 0 (length image.rows) c.loop-row.row c.in_err-block.field-0.0
    c.loop-row.invariant (omega arith) (omega arith) c.in_err-block.ensures)

pub loop-row-preserved : goal.loop-row-preserved
loop-row-preserved c = kept_more (image_of c.args.parts.now) 0 c.loop-row.row (omega arith) c.loop-row.invariant c.in_ok-block.ensures.0

pub returns : goal.returns
returns c =
    let image : Image = image_of c.args.parts.now in
    let all : length c.args.table.now ≡ length image.rows = ap length c.requires.same ∙ length-map image.rows (λ (r : Row). (r.entry, r.count)) in
    let same : c.loop-row.row - 0 ≡ length image.rows = omega arith in
    subst (λ (n : ℕ). broken_rows image 0 n ≡ None) same c.loop-row.invariant
