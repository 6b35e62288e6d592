-- What a machine holds, and what an issue comes to.
use Rattle.std.specs.Prelude.{ℕ, ◌≡◌, ◌≤◌, ◌*◌, Bool, true, false, List, [], length, All, Option, Some, None}
use Rattle.timed_meaning.specs.declared.Answer.{Answer}
use Rattle.timed_meaning.specs.declared.Answer.TheVariants.{GoOn, GoTo, Stop}
use Rattle.timed_meaning.specs.declared.TimedOp.{TimedOp}
use Rattle.timed_meaning.specs.Values.{State}
use Rattle.timed_meaning.specs.Program.{Block, first_state}
use Rattle.block_steps.specs.Steps.{Moment, Outcome, Going, AtEnd, AtTrap, at_entry, place_at}
use Rattle.cycle_sim.specs.declared.Issued.{Issued}
use Rattle.cycle_sim.specs.declared.Issued.TheVariants as issued

-- a machine: its moment in the present block, whether it has stopped, and what it was made with
pub record Simulated : Type 0 where
  pub moment : Moment
  pub stopped : Bool
  pub input : List ℕ
  pub limit : ℕ

-- the block with this entry of some operations that ends in a cycle, before the row with an entry
abbrev pub block_of_ops : ℕ → List TimedOp → ℕ → Option ℕ → Block
block_of_ops entry ops end next = record { entry = entry; next = next; ops = ops; end = end }

-- the first state of a program with so much memory and its initial bytes
abbrev pub start_state : ℕ → List ℕ → State
start_state memory init = first_state (record { blocks = []; entry = 0; memory = memory; init = init })

-- A moment of a block is at a place: as many operations issue before its clock. By then at most four writes for each of
-- these are in flight, and clock and writes keep to the block's end.
pub record IsReady (b : Block) (at : ℕ) (m : Moment) : Type 0 where
  pub place : place_at m.clock b.ops ≡ at
  pub few : length m.later ≤ 4 * at
  pub before : m.clock ≤ b.end
  pub landing : All (λ w. w.lands ≤ b.end) m.later

-- where control goes from a block whose branch isn't taken: to the next row. It stays at the last one, which always leaves in
-- a sound program
abbrev pub goes_on_to : (entry : ℕ) → (next : Option ℕ) → ℕ
goes_on_to entry None = entry
goes_on_to entry (Some to) = to

-- the answer of an issue at a block's end, by the branch's answer
abbrev pub told_end : (entry : ℕ) → (next : Option ℕ) → Answer → Issued
told_end entry next GoOn = issued.BlockEnd (goes_on_to entry next)
told_end entry next (GoTo to) = issued.BlockEnd to
told_end entry next (Stop code) = issued.Halted code

-- the answer of an issue, by how the step comes out
abbrev pub told : Block → Moment × Outcome → Issued
told b (m, Going) = issued.Going (place_at m.clock b.ops)
told b (m, AtEnd answer) = told_end b.entry b.next answer
told b (m, AtTrap t k) = issued.Trapped k t

-- a machine stops at a halt and at a trap
abbrev pub has_stopped : Issued → Bool
has_stopped (issued.Halted code) = true
has_stopped (issued.Trapped k t) = true
has_stopped _ = false

-- where a machine stands behind an issue: ready for the next MultiOp of the same block, or at a block's entry
abbrev pub StandsBehind : Block → Issued → Moment → Type 0
StandsBehind b (issued.Going place) m = IsReady b place m
StandsBehind b _ m = m ≡ at_entry m.state m.cycles
