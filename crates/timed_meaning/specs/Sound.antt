-- Programs that an accepted image gives.
use Rattle.std.specs.Prelude.{ℕ, suc, ◌≡◌, ◌+◌, ◌≤◌, Bool, true, false, ◌&&◌, nat_eq, List, All, length, map, count_by, slice_get, Option, Some, option_map, IsTrue}
use Rattle.std.specs.List.{list_any}
use Rattle.std.specs.List.Sorted.{IsStrictlyIncreasing}
use Rattle.operation.specs.declared.Guarded.{Guarded}
use Rattle.operation.specs.declared.Op.{Op}
use Rattle.operation.specs.declared.Op.TheVariants.{Bru, Halt}
use Rattle.operation.specs.Places.{is_branch}
use Rattle.timed_meaning.specs.declared.TimedOp.{TimedOp}
use Rattle.timed_meaning.specs.Program.{Block, Program, IsInRange}

-- a branch that doesn't go on to the next row
abbrev pub leaves : Op → Bool
leaves (Bru s) = true
leaves (Halt s) = true
leaves _ = false

-- such a branch under p0, which is always taken
abbrev pub always_leaves : Guarded → Bool
always_leaves g = nat_eq g.guard 0 && leaves g.op

-- 1 to 512 operations whose cycles never fall, in at most 512 MultiOps of 1 to 32 cycles; each operation lands by the
-- end, and the branch, if there is one, at it
pub record IsSoundBlock (b : Block) : Type 0 where
  pub some : 1 ≤ length b.ops
  pub few : length b.ops ≤ 512
  pub short : b.end ≤ 16384
  pub in_order : (k : ℕ) (i j : TimedOp) → slice_get b.ops k ≡ Some i → slice_get b.ops (suc k) ≡ Some j → i.at ≤ j.at
  pub latencies : All (λ k. (1 ≤ k.latency) × (k.latency ≤ 32)) b.ops
  pub drained : All (λ k. k.at + k.latency ≤ b.end) b.ops
  pub one_branch : count_by (λ k. is_branch k.guarded.op) b.ops ≤ 1
  pub branch_end : All (λ k. IsTrue (is_branch k.guarded.op) → k.at + k.latency ≡ b.end) b.ops

-- the entry of the block behind the block k
abbrev pub entry_behind : Program → ℕ → Option ℕ
entry_behind p k = option_map (λ b. b.entry) (slice_get p.blocks (suc k))

-- 1 to 131,072 such blocks with rising entries, each with the entry of the block behind it; the program begins at an
-- entry, the last block always leaves, and the memory has at most 1,048,576 bytes and no more initial ones
pub record IsSound (p : Program) : Type 0 where
  pub some : 1 ≤ length p.blocks
  pub few : length p.blocks ≤ 131072
  pub entries : IsStrictlyIncreasing (map (λ b. b.entry) p.blocks)
  pub entry : IsTrue (list_any (λ b. nat_eq b.entry p.entry) p.blocks)
  pub blocks : All IsSoundBlock p.blocks
  pub next : (k : ℕ) (b : Block) → slice_get p.blocks k ≡ Some b → b.next ≡ entry_behind p k
  pub last : (k : ℕ) (b : Block) → suc k ≡ length p.blocks → slice_get p.blocks k ≡ Some b → IsTrue (list_any (λ i. always_leaves i.guarded) b.ops)
  pub memory : p.memory ≤ 1048576
  pub init : length p.init ≤ p.memory

-- a sound program is in the ranges of the evaluator
abbrev pub SoundIsInRange : Type 0
SoundIsInRange = (p : Program) → IsSound p → IsInRange p
