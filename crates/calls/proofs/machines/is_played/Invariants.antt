use Rattle.std.proofs.Common.{◌≡◌, false}
use Rattle.timed_meaning.specs.Program.{block_of}
use Rattle.cycle_sim.specs.Machine.{IsReady}
use Rattle.calls.proofs.machines.is_played.Given as goal

abbrev pub invariant-loop-row : goal.invariant-loop-row
invariant-loop-row l =
    record {
      running : l.machine.stopped ≡ false;
      ready : IsReady (block_of l.block) l.at l.machine.moment;
    }
