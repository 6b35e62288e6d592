use Rattle.std.proofs.Common.{◌≡◌, ℕ, ◌+◌, ◌-◌, ◌*◌, ◌<◌, ◌≤◌, List, length, drop, sym, ap, subst, ◌∙◌, arith}
use Rattle.std.proofs.lemmas.List.{length-take-le, length-drop}
use Rattle.machine_desc.specs.Description.{Description}
use Rattle.image_format.specs.Image.{Image, page_count}
use Rattle.image_format.specs.Parts.{image_of}
use Rattle.latency_deps.specs.Page.{Page}
use Rattle.page_resched.specs.Form.{HasPageUnits, IsFormOfPage}
use Rattle.image_resched.specs.Forms.{AreFormsBelow}
use Rattle.image_resched.proofs.Gathered.{one_more, page_units}
use Rattle.image_resched.proofs.moving.write_pages.Goals as goal

pub page-requires-in-loop-n-clause-units : goal.page-requires-in-loop-n-clause-units
page-requires-in-loop-n-clause-units g c =
    subst (HasPageUnits (g.G.Generation.description c.args.g.now)) (sym c.page.ensures)
    (page_units c.args.a.now (g.G.Generation.description c.args.g.now) c.parts-parts.ensures.accepted c.requires.units c.loop-n.n)

pub loop-n-preserved : goal.loop-n-preserved
loop-n-preserved g c =
    let image : Image = c.args.a.now in
    let d = g.G.Generation.description c.args.g.now in
    let n = c.loop-n.n in
    let out : List ℕ = c.page-in-loop-n.new.out in
    let pages : page_count (image_of c.parts-parts.result.now) ≡ page_count image = ap page_count c.parts-parts.ensures.image in
    let below : n < page_count image = omega arith in
    let words = c.parts-parts.ensures.accepted.written.limits.words in
    let long = c.loop-n.invariant.as_many in
    let own = ap (λ (i : Image). i.description) c.parts-parts.ensures.image in
    let fits : 512 * n + 512 ≤ length c.loop-n.words = omega arith in
    let form =
    subst (λ (p : Page). IsFormOfPage image.description d p out) c.page.ensures
    (subst (λ (o : Description). IsFormOfPage o d c.page.result.now out) own c.page-in-loop-n.ensures) in
    let size : 512 * n + 512 - 512 * n ≡ 512 = omega arith in
    let behind = length-drop (512 * n) c.loop-n.words in
    let part = length-take-le (512 * n + 512 - 512 * n) (drop (512 * n) c.loop-n.words) (omega arith) in
    let whole : length out ≡ 512 = c.page-in-loop-n.auto.out ∙ part ∙ size in
    one_more image d c.loop-n.words out n (512 * n + 512 - 512 * n) c.loop-n.invariant fits whole form size

pub returns : goal.returns
returns g c =
    let image : Image = c.args.a.now in
    let d = g.G.Generation.description c.args.g.now in
    let pages : page_count (image_of c.parts-parts.result.now) ≡ page_count image = ap page_count c.parts-parts.ensures.image in
    let all : c.loop-n.n ≡ page_count image = omega arith in
    subst (λ (n : ℕ). AreFormsBelow n image d c.loop-n.words) all c.loop-n.invariant
