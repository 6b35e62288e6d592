use Rattle.std.proofs.Common.{◌≡◌}
use Rattle.cycle_sim.specs.Registers.{state_of}
use Rattle.cycle_sim.specs.Wheel.{slots_of, HasRoom, emptied, emptied_into}
use Rattle.cycle_sim.proofs.wheel.turn.Given as goal

abbrev pub invariant-loop-cycle : goal.invariant-loop-cycle
invariant-loop-cycle l =
    record {
      slots : slots_of l.wheel ≡ emptied (slots_of l.fn.wheel) l.clock l.cycle;
      state : state_of l.registers ≡ emptied_into (slots_of l.fn.wheel) l.clock l.cycle (state_of l.fn.registers);
      room : HasRoom l.wheel;
    }
