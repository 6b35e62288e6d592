use Rattle.std.proofs.Common.{◌≡◌, ◌<◌, subst, ap, below_more, refl, sym, arith}
use Rattle.image_format.specs.Image.{Image, page_count}
use Rattle.image_format.specs.Parts.{image_of}
use Rattle.latency_deps.specs.Page.{Page}
use Rattle.image_check.specs.UnitSearch.{IsUsedOn}
use Rattle.image_check.proofs.UsedKinds.{used_on, on_page}
use Rattle.image_check.proofs.units.uses.Goals as goal

pub returns-then-page_uses : goal.returns-then-page_uses
returns-then-page_uses c =
    let used = subst (λ (p : Page). IsUsedOn p c.args.kind) c.page.ensures (c.if-page_uses.ensures.0 refl) in
    (λ t. used_on c.args.a.now c.parts.ensures.accepted c.args.kind c.loop-n.n used, λ u. refl)

pub loop-n-preserved : goal.loop-n-preserved
loop-n-preserved c =
    below_more _ _ c.loop-n.invariant (λ u.
    let k : ⊥ = (let t = c.if-page_uses.ensures.1 (subst (λ (p : Page). IsUsedOn p c.args.kind) (sym c.page.ensures) u) in cc) in k)

pub returns : goal.returns
returns c =
    let image : Image = c.args.a.now in
    let words : page_count (image_of c.parts.result.now) ≡ page_count image = ap page_count c.parts.ensures.image in
    let all : c.loop-n.n ≡ page_count image = omega arith in (
      λ t. absurd (let k : ⊥ = cc in k),
      λ u. absurd (let p = on_page image c.parts.ensures.accepted c.args.kind u in
          let q = p.1 in
          let below : p.0 < c.loop-n.n = omega arith in
          c.loop-n.invariant p.0 below p.2),
    )
