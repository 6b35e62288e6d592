-- The evaluator's own state, as the definitions see it.
use Rattle.std.specs.Prelude.{ℕ, ◌+◌, ◌≤◌, ◌<◌, List, [], ◌∷◌, Option, Some, None, reverse, slice_get, slice_set}
use Rattle.operation.specs.Arithmetic.{bytes_of}
use Rattle.operation.specs.declared.Effect.{Effect}
use Rattle.operation.specs.declared.Effect.TheVariants as effects
use Rattle.operation.specs.declared.Place.TheVariants.{General, Predicate, Target, Memory}
use Rattle.operation.specs.declared.Trap.{Trap}
use Rattle.timed_meaning.specs.declared.Answer.{Answer}
use Rattle.timed_meaning.specs.declared.Cell.{Cell}
use Rattle.timed_meaning.specs.declared.Cell.TheVariants.{At, Byte}
use Rattle.timed_meaning.specs.declared.Write.{Write}
use Rattle.timed_meaning.specs.declared.TimedOp.{TimedOp}
use Rattle.timed_meaning.specs.declared.cells.Cells.{Cells}
use Rattle.timed_meaning.specs.declared.issue.Work.{Work}
use Rattle.timed_meaning.specs.declared.evaluate.Outcome.{Outcome}
use Rattle.timed_meaning.specs.declared.evaluate.Outcome.TheVariants as outcome
use Rattle.timed_meaning.specs.Values.{State, is_set, value_at, last_write}
use Rattle.timed_meaning.specs.Block.{Start, Progress, Act, Ran, Through, Stopped, Ending, Ended, Trapped, act_of}
use Rattle.timed_meaning.specs.Program.{Next, Goes, Ends}

-- the cells as a state; the output and the input position stand with the work
abbrev pub state_of : Cells → State
state_of m =
    record {
      general = m.general;
      predicates = m.predicates;
      targets = m.targets;
      memory = m.memory.items;
      output = [];
      position = 0;
    }

-- the state when a block has ended, and when the next one begins
abbrev pub state_with : Cells → Work → State
state_with m p =
    record {
      general = m.general;
      predicates = m.predicates;
      targets = m.targets;
      memory = m.memory.items;
      output = p.output.items;
      position = p.position;
    }

-- what the work has done; its list of writes has the latest listed last
abbrev pub progress_of : Work → Progress
progress_of p =
    record {
      count = p.count;
      writes = reverse p.writes.items;
      output = p.output.items;
      position = p.position;
      answer = p.answer;
    }

-- what a run of operations begins with, by the cells alone
abbrev pub start_of : Cells → List ℕ → Option ℕ → ℕ → Start
start_of m input next limit = record { state = state_of m; input = input; next = next; limit = limit }

-- what a block begins with, when the work holds what the blocks before it have put out and taken
abbrev pub start_with : Cells → Work → List ℕ → Option ℕ → ℕ → Start
start_with m p input next limit = record { state = state_with m p; input = input; next = next; limit = limit }

-- what an effect adds to the work
abbrev pub acted : Cells → List ℕ → Option ℕ → TimedOp → Effect → Work → Act
acted m input next k e p =
    act_of k.guarded.op (value_at (state_of m) (reverse p.writes.items) k.at) (slice_get input p.position) next e

-- an access lies inside the memory
abbrev pub StaysInside : Effect → ℕ → Type 0
StaysInside (effects.Load d address size) memory = address + bytes_of size ≤ memory
StaysInside (effects.Store address size v) memory = address + bytes_of size ≤ memory
StaysInside _ memory = Unit {0}

-- how a run of operations ended
abbrev pub ran_to : Option Trap → Work → Ran
ran_to None p = Through (progress_of p)
ran_to (Some t) p = Stopped t (progress_of p)

-- a byte of memory takes a byte
abbrev pub FitsCell : Cell → ℕ → Type 0
FitsCell (At x) v = Unit {0}
FitsCell (Byte a) v = v < 256

-- a write to a byte is a byte
abbrev pub FitsIts : Write → Type 0
FitsIts w = FitsCell w.cell w.value

-- the state in which a cell has taken a value; one that isn't there takes none
abbrev pub with_value : State → Cell → ℕ → State
with_value s (At (General n)) v = record s { general = slice_set s.general n v }
with_value s (At (Predicate n)) v = record s { predicates = slice_set s.predicates n (is_set v) }
with_value s (At (Target n)) v = record s { targets = slice_set s.targets n v }
with_value s (At Memory) v = s
with_value s (Byte a) v = record s { memory = slice_set s.memory a v }

-- a written cell takes the value of the last of all writes to it
abbrev pub with_last : List Write → State → Write → State
with_last ws s u = elim (last_write u.cell ws) [ None ↦ s | Some w ↦ with_value s u.cell w.value ]

-- the cells of some writes take those values
abbrev pub all_settled : List Write → State → List Write → State
all_settled ws s [] = s
all_settled ws s (u ∷ us) = all_settled ws (with_last ws s u) us

-- how a block ended, by the state after it
abbrev pub ended_at : Option Trap → Answer → ℕ → State → Ending
ended_at None answer n s = Ended s answer
ended_at (Some t) answer n s = Trapped t n s.output s.memory

-- what comes of a block, by the state after it
abbrev pub next_of : Outcome → State → Next
next_of (outcome.Goes to) s = Goes to s
next_of (outcome.Ends e) s = Ends e 1 s.output s.memory
next_of (outcome.Stops e) s = Ends e 0 s.output s.memory
