-- What holds of blocks that a machine plays.
use Rattle.std.specs.Prelude.{ℕ}
use Rattle.timed_meaning.specs.Values.{State}
use Rattle.timed_meaning.specs.Program.{Block}
use Rattle.block_steps.specs.Steps.{at_entry}
use Rattle.cycle_sim.specs.Machine.{IsReady}

-- a block's entry is ready for the block's first MultiOp
abbrev pub ReadyAtEntry : Type 0
ReadyAtEntry = (b : Block) (s : State) (cycles : ℕ) → IsReady b 0 (at_entry s cycles)
