-- How many cycles a run takes.
use Rattle.std.specs.Prelude.{◌≡◌, ◌≢◌, ℕ, ◌+◌, List, map, sum, slice_index, Some, None}
use Rattle.std.specs.List.{range_with_len}
use Rattle.operation.specs.declared.End.TheVariants as end
use Rattle.timed_meaning.specs.Values.{State}
use Rattle.timed_meaning.specs.Block.{Ending, Ended, Trapped, block}
use Rattle.timed_meaning.specs.Program.{Block, Program, block_at, after, mean}

-- the cycles of a block, by how it ended: up to its end, or up to and with the one in which its operation k trapped
abbrev pub cycles_by : Block → Ending → ℕ
cycles_by b (Ended s answer) = b.end
cycles_by b (Trapped t k output memory) = slice_index (map (λ j. j.at) b.ops) k + 1

-- the cycles of the block with this entry, from a state; where there is none, no cycle passes
abbrev pub cycles_at : Program → List ℕ → ℕ → ℕ → State → ℕ
cycles_at p input limit entry s = elim (block_at p entry) [
  | None ↦ 0
  | Some b ↦ cycles_by b (block (record { state = s; input = input; next = b.next; limit = limit }) b.ops)
]

-- the cycles of the block that begins when b blocks have ended, and none where the program has ended by then
abbrev pub cycles_after : Program → List ℕ → ℕ → ℕ → ℕ
cycles_after p input limit b = elim (after p input limit b) [ None ↦ 0 | Some at ↦ cycles_at p input limit at.1 at.0 ]

-- the cycles of a run of at most n blocks: the sum over the blocks that begin in it
abbrev pub cycles : Program → List ℕ → ℕ → ℕ → ℕ
cycles p input limit n = sum (map (cycles_after p input limit) (range_with_len 0 n))

-- a run that has ended takes no more cycles under a greater bound
abbrev pub TakesNoMoreOnceEnded : Type 0
TakesNoMoreOnceEnded =
    (p : Program) (input : List ℕ) (limit n m : ℕ) →
    (mean p input limit n).end ≢ end.Bound → cycles p input limit (n + m) ≡ cycles p input limit n
