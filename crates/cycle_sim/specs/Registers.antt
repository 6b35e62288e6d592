-- For contracts within the crate. The machine's cells, as the definitions see them.
use Rattle.std.specs.Prelude.{ℕ, List, [], ◌∷◌}
use Rattle.operation.specs.Arithmetic.{bytes_of}
use Rattle.operation.specs.declared.Place.TheVariants as place
use Rattle.timed_meaning.specs.declared.Cell.{Cell}
use Rattle.timed_meaning.specs.declared.Cell.TheVariants.{At}
use Rattle.timed_meaning.specs.Values.{State, bit, value_after}
use Rattle.timed_meaning.specs.Block.{bytes_at}
use Rattle.timed_meaning.specs.Evaluator.{with_value}
use Rattle.cycle_sim.specs.declared.registers.Registers.{Registers}
use Rattle.cycle_sim.specs.declared.registers.Landing.{Landing}
use Rattle.cycle_sim.specs.declared.registers.Landing.TheVariants.{General, Predicate, Target, Bytes}

-- the cells as a state, beside an output and an input position
abbrev pub state_with : Registers → List ℕ → ℕ → State
state_with r output position =
    record {
      general = r.general;
      predicates = r.predicates;
      targets = r.targets;
      memory = r.memory.items;
      output = output;
      position = position;
    }

-- the cells alone
abbrev pub state_of : Registers → State
state_of r = state_with r [] 0

-- the values of all cells at the present cycle
abbrev pub present : Registers → Cell → ℕ
present r = value_after (state_of r) []

-- what one landing gives to cells
abbrev pub values_of : Landing → List (Cell × ℕ)
values_of (General n v) = (At (place.General n), v) ∷ []
values_of (Predicate n b) = (At (place.Predicate n), bit b) ∷ []
values_of (Target n v) = (At (place.Target n), v) ∷ []
values_of (Bytes size address v) = bytes_at address (bytes_of size) v

-- the state when cells have taken values, the last of the list first
abbrev pub all_set : List (Cell × ℕ) → State → State
all_set [] s = s
all_set (v ∷ vs) s = with_value (all_set vs s) v.0 v.1
