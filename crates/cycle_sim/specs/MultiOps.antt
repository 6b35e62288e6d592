-- For contracts within the crate. The operations of a MultiOp.
use Rattle.std.specs.Prelude.{ℕ, ◌≡◌, nat_eq, List, [], ◌∷◌, Option, Some, None, if◌then◌else◌}
use Rattle.operation.specs.declared.Trap.{Trap}
use Rattle.timed_meaning.specs.declared.Answer.{Answer}
use Rattle.timed_meaning.specs.declared.TimedOp.{TimedOp}
use Rattle.timed_meaning.specs.Block.{Start, Ran, Through, Stopped}
use Rattle.block_steps.specs.Steps.{or_go_on, answer_of}
use Rattle.cycle_sim.specs.declared.registers.Registers.{Registers}
use Rattle.cycle_sim.specs.declared.issue.Work.{Work}
use Rattle.cycle_sim.specs.Registers.{state_of}
use Rattle.cycle_sim.specs.Issue.{progress_of, in_order}

-- the first operations, up to one that doesn't issue in a cycle
abbrev pub at_cycle : ℕ → List TimedOp → List TimedOp
at_cycle t [] = []
at_cycle t (k ∷ ks) = if nat_eq k.at t then k ∷ at_cycle t ks else []

-- what a MultiOp's operations begin with
abbrev pub start_of : Registers → List ℕ → Option ℕ → ℕ → Start
start_of r input next limit = record { state = state_of r; input = input; next = next; limit = limit }

-- how operations have come out by a cycle: all have issued, up to a place, or the one at the place traps
abbrev pub came_to : ℕ → Option Trap → Work → ℕ → Ran
came_to place None w cycle = Through (progress_of w cycle place)
came_to place (Some t) w cycle = Stopped t (progress_of w cycle place)

-- with the writes by their landings
abbrev pub ran_in_order : Ran → Ran
ran_in_order (Through p) = Through (in_order p)
ran_in_order (Stopped t p) = Stopped t (in_order p)

-- the answer is the one that was there, or that of a branch among the operations
abbrev pub AnswersAfter : List TimedOp → Option Answer → Option Answer → Type 0
AnswersAfter ks old new = new ≡ answer_of ks (or_go_on new) old
