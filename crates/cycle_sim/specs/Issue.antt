-- For contracts within the crate. What the machine's own record of a block holds, as the definitions see it.
use Rattle.std.specs.Prelude.{ℕ, ◌<◌, List, length, nat_le, Option, slice_get}
use Rattle.operation.specs.declared.Guarded.{Guarded}
use Rattle.operation.specs.declared.Effect.{Effect}
use Rattle.operation.specs.declared.Effect.TheVariants as effects
use Rattle.operation.specs.Effects.{effect}
use Rattle.timed_meaning.specs.Block.{Progress, Act, act_of, operands}
use Rattle.block_steps.specs.Flight.{in_turn}
use Rattle.block_steps.specs.Steps.{or_go_on}
use Rattle.cycle_sim.specs.declared.registers.Registers.{Registers}
use Rattle.cycle_sim.specs.declared.issue.Work.{Work}
use Rattle.cycle_sim.specs.Registers.{present}
use Rattle.cycle_sim.specs.Wheel.{slots_of, flight_of}

-- what has been done by a cycle, when so many operations of the block have issued
abbrev pub progress_of : Work → ℕ → ℕ → Progress
progress_of w cycle count =
    record {
      count = count;
      writes = flight_of (slots_of w.wheel) cycle;
      output = w.output.items;
      position = w.position;
      answer = or_go_on w.answer;
    }

-- with its writes by their landings
abbrev pub in_order : Progress → Progress
in_order p = record p { writes = in_turn p.writes }

-- what an effect adds by the present values
abbrev pub acted : Registers → List ℕ → Option ℕ → Guarded → Effect → ℕ → Act
acted r input next g e position = act_of g.op (present r) (slice_get input position) next e

-- what an operation does by the present values
abbrev pub act_now : Registers → List ℕ → Option ℕ → ℕ → Guarded → Work → Act
act_now r input next limit g w =
    acted r input next g (effect g (operands g (present r) (length r.memory.items) (nat_le limit (length w.output.items)))) w.position

-- a byte that is put out has room
abbrev pub HasPlace : Effect → ℕ → ℕ → Type 0
HasPlace (effects.Put v) size limit = size < limit
HasPlace _ size limit = Unit {0}
