use Rattle.std.proofs.Common.{◌<◌, sym, subst, below_more, arith}
use Rattle.latency_deps.specs.Block.{Block}
use Rattle.image_check.specs.Units.{IsUsedIn}
use Rattle.image_check.proofs.units.page_uses.Goals as goal

pub loop-k-preserved : goal.loop-k-preserved
loop-k-preserved c =
    below_more _ _ c.loop-k.invariant (λ u.
    let k : ⊥ = (let t = c.if-block_uses.ensures.1 (subst (λ (b : Block). IsUsedIn b.words c.args.kind) (sym c.block.ensures) u) in cc) in k)

pub returns : goal.returns
returns c = (
  λ t. absurd (let k : ⊥ = cc in k),
  λ u. absurd (let count = c.blocks-k-end.ensures.count in
      let there = u.there in
      let below : u.block < c.loop-k.k = omega arith in
      c.loop-k.invariant u.block below u.used),
)
