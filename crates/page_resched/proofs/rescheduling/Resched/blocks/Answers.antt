-- Block by block.
use Rattle.std.proofs.Common.{◌≡◌, ◌-◌, ◌+◌, ◌<◌, ◌≤◌, ℕ, List, length, sym, ap, subst, ◌∙◌, arith}
use Rattle.std.specs.Prelude.{replicate}
use borrow.Rule.Slice.PartMut.{put_mid}
use Rattle.latency_deps.specs.Block.{Block}
use Rattle.latency_deps.specs.Page.{place_at, block_at}
use Rattle.page_resched.specs.Block.{HasUnits}
use Rattle.page_resched.specs.Form.{AreInForm}
use Rattle.page_resched.specs.Laws.{IsMovablePage}
use Rattle.page_resched.proofs.Pages.{none_written, one_more_written, all_written, within}
use Rattle.page_resched.proofs.rescheduling.Resched.blocks.Goals as goal
use Rattle.page_resched.proofs.rescheduling.Resched.blocks.Goals.{After-count}
use Rattle.page_resched.proofs.rescheduling.Resched.blocks.Given.{Over}

pub loop-k-init : goal.loop-k-init
loop-k-init g c =
    none_written (g.G.Generation.description c.args.g.now) c.args.p.now c.fill.new.self
    (c.fill.ensures.after (λ y e. e) ∙ ap (λ (n : ℕ). replicate n 0) c.requires.size)

-- what is known of the block whose turn it is
module _ (g : Over) (c : After-count g) where
  there : c.loop-k.k < length c.args.p.now.blocks
  there = let t = c.loop-k-test.true in let e = c.blocks-k-end.ensures.count in omega arith

  size : c.count.result ≡ length (block_at c.args.p.now c.loop-k.k).words
  size = c.count.ensures.count ∙ ap (λ (b : Block). length b.words) c.block-b.ensures

  inside : c.place-place.result + c.count.result ≤ length c.loop-k.out
  inside =
      let h = within c.args.p.now c.blocks-k-end.ensures.page c.loop-k.k there in
      let l = c.loop-k.invariant.whole in
      let p = c.place-place.ensures in
      let s = size in
      omega arith

pub slice_bounds-block-end : goal.slice_bounds-block-end
slice_bounds-block-end g c = inside g c

pub block-requires-clause-units : goal.block-requires-clause-units
block-requires-clause-units g c =
    let at = (goal.at.block-requires-clause-units g c).After-count in
    subst (HasUnits (g.G.Generation.description c.args.g.now)) (sym c.block-b.ensures) (c.requires.units c.loop-k.k (there g at))

-- a part from a place on, as it is written back
placed : (place place' size size' : ℕ) (xs ys : List ℕ) → place ≡ place' → size ≡ size' → put_mid place ((place + size) - place) xs ys ≡ put_mid place' size' xs ys
placed place place' size size' xs ys e f =
    let k : (place + size) - place ≡ size' = omega arith in
    ap (λ (n : ℕ). put_mid place n xs ys) k ∙ ap (λ (n : ℕ). put_mid n size' xs ys) e

pub loop-k-preserved : goal.loop-k-preserved
loop-k-preserved g c =
    let at = (goal.at.loop-k-preserved g c).After-count in
    let machine = g.G.Generation.description c.args.g.now in
    let p = c.args.p.now in
    let k = c.loop-k.k in
    let move : IsMovablePage p machine = record { page = c.blocks-k-end.ensures.page; machine = g.met.G.Generation.in_range c.args.g.now; units = c.requires.units } in
    one_more_written machine p move k c.loop-k.out _ c.block.new.words c.loop-k.invariant (there g at)
    (subst (λ (b : Block). AreInForm machine b c.block.new.words) c.block-b.ensures c.block.ensures)
    (placed c.place-place.result (place_at p k) c.count.result (length (block_at p k).words) c.loop-k.out c.block.new.words c.place-place.ensures (size g at))

pub returns : goal.returns
returns g c =
    all_written (g.G.Generation.description c.args.g.now) c.args.p.now c.loop-k.k c.loop-k.out
    (let t = c.loop-k-test.false in let e = c.blocks-k-end.ensures.count in let a = c.loop-k.auto.k-end in omega arith)
    c.loop-k.invariant
