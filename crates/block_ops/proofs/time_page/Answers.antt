-- Block by block.
use Rattle.std.proofs.Common.{◌≡◌, ◌+◌, ◌-◌, ◌<◌, ◌≤◌, length, sym, ap, ◌∙◌, arith}
use Rattle.latency_deps.specs.Block.{Block}
use Rattle.latency_deps.specs.Page.{block_at}
use Rattle.page_resched.proofs.Pages.{within}
use Rattle.block_ops.proofs.Written.{none_written, one_more_written}
use Rattle.block_ops.proofs.time_page.Goals as goal
use Rattle.block_ops.proofs.time_page.Goals.{After-count}
use Rattle.block_ops.proofs.time_page.Given.{Over}

pub loop-k-init : goal.loop-k-init
loop-k-init g c = none_written (g.G.Generation.description c.args.g.now) c.args.page.now c.args.words.now c.args.ops.now c.args.ends.now c.requires.room c.requires.ends

-- what is known of the block whose turn it is
module _ (g : Over) (c : After-count g) where
  there : c.loop-k.k < length c.args.page.now.blocks
  there = let t = c.loop-k-test.true in let e = c.blocks-k-end.ensures.count in omega arith

  size : c.count.result ≡ length (block_at c.args.page.now c.loop-k.k).words
  size = c.count.ensures.count ∙ ap (λ (b : Block). length b.words) c.block.ensures

  inside : c.place-place.result + c.count.result ≤ 512
  inside =
      let h = within c.args.page.now c.blocks-k-end.ensures.page c.loop-k.k there in
      let p = c.place-place.ensures in
      let s = size in
      omega arith

  some : 1 ≤ c.count.result
  some = let h = c.count.ensures.good.some in let s = c.count.ensures.count in omega arith

pub slice_bounds-time_block-end : goal.slice_bounds-time_block-end
slice_bounds-time_block-end g c = let h = inside g c in let w = c.requires.whole in omega arith

pub slice_bounds-time_block-end-in-loop-k : goal.slice_bounds-time_block-end-in-loop-k
slice_bounds-time_block-end-in-loop-k g c =
    let h = inside g (goal.at.slice_bounds-time_block-end-in-loop-k g c).After-count in
    let w = c.loop-k.invariant.whole in
    omega arith

pub bounds-ends-place : goal.bounds-ends-place
bounds-ends-place g c =
    let at = (goal.at.bounds-ends-place g c).After-count in
    let h = inside g at in
    let s = some g at in
    let w = c.loop-k.invariant.as_many in
    omega arith

pub loop-k-preserved : goal.loop-k-preserved
loop-k-preserved g c =
    let at = (goal.at.loop-k-preserved g c).After-count in
    let s = size g at in
    one_more_written (g.G.Generation.description c.args.g.now) c.args.page.now c.blocks-k-end.ensures.page c.args.words.now c.loop-k.k (there g at) c.loop-k.ops c.time_block.new.ops c.loop-k.ends c.time_block.result c.loop-k.invariant
    c.place-place.result ((c.place-place.result + c.count.result) - c.place-place.result) (sym c.place-place.ensures) (omega arith)
    (record { operations = c.time_block.ensures.ops; last = c.time_block.ensures.end }, c.time_block.auto.ops)
