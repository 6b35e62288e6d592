use Rattle.std.proofs.Common.{◌≡◌, ◌*◌, ◌≤◌, ◌^◌, length, Some}
use Rattle.timed_meaning.specs.Program.{program_of, after}
use Rattle.timed_meaning.specs.Cycles.{cycles}
use Rattle.timed_meaning.specs.Evaluator.{state_with}
use Rattle.timed_meaning.proofs.evaluate.meant_with_cycles.Given as goal

-- where the program stands, and the cycles so far
abbrev pub invariant-loop-ended : goal.invariant-loop-ended
invariant-loop-ended l =
    record {
      memory : length l.cells.memory.items ≡ l.program.memory;
      stands : after (program_of l.program) l.input l.limit l.ended ≡ Some (state_with l.cells l.work, l.entry);
      cycles : l.cycles ≡ cycles (program_of l.program) l.input l.limit l.ended;
      bound : l.cycles ≤ l.ended * 2 ^ 32;
    }
