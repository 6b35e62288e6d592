-- The operations of the blocks of a page, with their times under a generation.
use Rattle.std.specs.Prelude.{ℕ, ◌≡◌, ◌<◌, List, length, take, drop, slice_index}
use Rattle.machine_desc.specs.Description.{Description}
use Rattle.timed_meaning.specs.declared.TimedOp.{TimedOp}
use Rattle.two_timings.specs.Timing.{timed_ops}
use Rattle.latency_deps.specs.Timing.{ops_of, own_timing}
use Rattle.latency_deps.specs.Rules.{end_of}
use Rattle.latency_deps.specs.Page.{Page, place_at, block_at}
use Rattle.page_resched.specs.Form.{words_at}

-- the operations of a block's words with their times, and the cycle in which it ends
pub record AreBlockOps (g : Description) (words : List ℕ) (ops : List TimedOp) (end : ℕ) : Type 0 where
  pub operations : ops ≡ timed_ops (ops_of words) (own_timing g words)
  pub last : end ≡ end_of words

-- of 512 operations, those at the place of the block k
abbrev pub ops_at : Page → ℕ → List TimedOp → List TimedOp
ops_at p k ops = take (length (block_at p k).words) (drop (place_at p k) ops)

-- the operations of a page whose blocks have these words at their places: each block's stand from its place on, and at its place
-- stands the cycle in which it ends
pub record ArePageOps (g : Description) (p : Page) (words : List ℕ) (ops : List TimedOp) (ends : List ℕ) : Type 0 where
  pub whole : length ops ≡ 512
  pub as_many : length ends ≡ 512
  pub blocks : (k : ℕ) → k < length p.blocks →
      AreBlockOps g (words_at p k words) (ops_at p k ops) (slice_index ends (place_at p k))
