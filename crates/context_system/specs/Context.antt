-- One context: a run of an image as some generation, played MultiOp by MultiOp.
use Rattle.std.specs.Prelude.{ℕ, ◌+◌, List, Option, Some, None, nat_lt, if◌then◌else◌}
use Rattle.operation.specs.declared.End.{End}
use Rattle.operation.specs.declared.End.TheVariants as end
use Rattle.machine_desc.specs.Description.{Description}
use Rattle.image_format.specs.Image.{Image}
use Rattle.timed_meaning.specs.Block.{Ended, Trapped}
use Rattle.timed_meaning.specs.Program.{Block, Program, Next, Goes, Ends, block_at, first_state, follows}
use Rattle.image_check.specs.Blocks.{program_in}
use Rattle.block_steps.specs.Steps.{Moment, Outcome, Going, AtEnd, AtTrap, at_entry, step}

-- what a context is given: an image, the generation that it runs as and the image in that generation, the input, the
-- output limit, and the greatest number of blocks
pub record Setup : Type 0 where
  pub image : Image
  pub generation : Description
  pub formed : Image
  pub input : List ℕ
  pub limit : ℕ
  pub bound : ℕ

-- the program as it runs: with the times of the forms, and the latencies of the generation
abbrev pub running : Setup → Program
running s = program_in s.formed

-- a context: what it was given, its present block's entry, the moment in that block, how many blocks have ended, and its end
-- if it has one
pub record Context : Type 0 where
  pub setup : Setup
  pub entry : ℕ
  pub moment : Moment
  pub blocks : ℕ
  pub end : Option End

-- a context at its start
abbrev pub opened : Setup → Context
opened s = record {
  setup = s;
  entry = s.formed.entry;
  moment = at_entry (first_state (running s)) 0;
  blocks = 0;
  end = None;
}

-- a context ends by its bound when as many blocks have ended
abbrev pub end_by_bound : ℕ → ℕ → Option End
end_by_bound bound blocks = if nat_lt blocks bound then None else Some end.Bound

-- a context whose block is over at a moment, by what follows from its state: it stands at the next block, or has ended
abbrev pub behind_block : Context → Moment → Next → Context
behind_block x m (Goes entry s) =
    record x { entry = entry; moment = m; blocks = x.blocks + 1; end = end_by_bound x.setup.bound (x.blocks + 1) }
behind_block x m (Ends e k output memory) = record x { moment = m; blocks = x.blocks + k; end = Some e }

-- a context behind a MultiOp of its present block, by how that came out
abbrev pub behind_step : Context → Block → Moment × Outcome → Context
behind_step x b (m, Going) = record x { moment = m }
behind_step x b (m, AtEnd a) = behind_block x m (follows (running x.setup) x.entry b.next (Ended m.state a))
behind_step x b (m, AtTrap t k) =
    behind_block x m (follows (running x.setup) x.entry b.next (Trapped t k m.state.output m.state.memory))

-- a context plays the next MultiOp of its present block
abbrev pub played_on : Context → Context
played_on x = elim (block_at (running x.setup) x.entry) [
  | None ↦ x
  | Some b ↦ behind_step x b (step x.setup.input x.setup.limit b x.moment)
]

-- a turn: a context that has ended stays as it is
abbrev pub turn : Context → Context
turn x = elim x.end [ None ↦ played_on x | Some e ↦ x ]
