-- For contracts within the crate. What holds of every machine.
use Rattle.std.specs.Prelude.{ℕ, ◌≡◌, ◌≤◌, true, false, length, slice_index, slice_index_or, vec_capacity, ◌^◌}
use Rattle.cycle_sim.specs.declared.registers.Registers.{Registers}
use Rattle.cycle_sim.specs.declared.issue.Work.{Work}
use Rattle.cycle_sim.specs.Registers.{state_with}
use Rattle.cycle_sim.specs.Wheel.{slots_of, flight_of, HasRoom}
use Rattle.block_steps.specs.Steps.{Moment}

-- the moment that a machine holds
abbrev pub moment_of : Registers → Work → ℕ → ℕ → Moment
moment_of r w clock cycles =
    record {
      clock = clock;
      state = state_with r w.output.items w.position;
      later = flight_of (slots_of w.wheel) clock;
      answer = w.answer;
      cycles = cycles;
    }

-- r0 is 0 and p0 true, the memory has at most 2 ^ 20 bytes, and the wheel and the output have their room
pub record IsMachine (r : Registers) (w : Work) (limit : ℕ) : Type 0 where
  pub zero : slice_index r.general 0 ≡ 0
  pub truth : slice_index_or r.predicates 0 false ≡ true
  pub memory : length r.memory.items ≤ 2 ^ 20
  pub whole : length (slots_of w.wheel) ≡ 32
  pub room : HasRoom w.wheel
  pub output : limit ≤ vec_capacity w.output
