-- Sound programs are in the ranges of the evaluator.
use Rattle.std.proofs.Common.{◌≡◌, ℕ, ◌+◌, ◌^◌, ◌<◌, ◌≤◌, List, length, arith}
use Rattle.std.specs.Prelude.{All}
use Rattle.std.proofs.lemmas.List.Elements.{All-weaker}
use Rattle.timed_meaning.specs.declared.TimedOp.{TimedOp}
use Rattle.timed_meaning.specs.Program.{Block, Program, IsInRange, IsBlockInRange}
use Rattle.timed_meaning.specs.Sound.{IsSound, IsSoundBlock}

block_in_range : (b : Block) → IsSoundBlock b → IsBlockInRange b
block_in_range b h = record {
  few = h.few;
  landings = All-weaker (λ k. k.at + k.latency ≤ b.end) (λ k. k.at + k.latency < 2 ^ 32) below b.ops h.drained;
}
  where
    below : (k : TimedOp) → k.at + k.latency ≤ b.end → k.at + k.latency < 2 ^ 32
    below k e = let short : b.end ≤ 16384 = h.short in omega arith

pub in_range : (p : Program) → IsSound p → IsInRange p
in_range p h = record {
  blocks = All-weaker IsSoundBlock IsBlockInRange block_in_range p.blocks h.blocks;
  entries = h.entries;
  memory = h.memory;
  init = h.init;
}
