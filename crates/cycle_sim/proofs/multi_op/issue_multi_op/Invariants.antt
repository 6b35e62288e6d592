use Rattle.std.proofs.Common.{◌≡◌, ◌+◌, ◌*◌, ◌≤◌, length, drop, Option}
use Rattle.std.specs.Prelude.{vec_capacity}
use Rattle.timed_meaning.specs.declared.Answer.{Answer}
use Rattle.timed_meaning.specs.Block.{run}
use Rattle.cycle_sim.specs.Wheel.{slots_of, flight_of, HasRoom}
use Rattle.cycle_sim.specs.Issue.{progress_of}
use Rattle.cycle_sim.specs.MultiOps.{at_cycle, start_of, ran_in_order, AnswersAfter}
use Rattle.cycle_sim.proofs.multi_op.issue_multi_op.Given as goal

-- what is left, from what has been done, is the whole
abbrev pub invariant-loop-place : goal.invariant-loop-place
invariant-loop-place l =
    let c = start_of l.registers l.input l.next l.limit in
    record {
      whole : length (slots_of l.work.wheel) ≡ 32;
      room : HasRoom l.work.wheel;
      capacity : vec_capacity l.fn.work.output ≤ vec_capacity l.work.output;
      few : length (flight_of (slots_of l.work.wheel) l.clock) ≤ 4 * l.place;
      ran : ran_in_order (run c (at_cycle l.clock (drop l.place l.ops)) (progress_of l.work l.clock l.place)) ≡ ran_in_order (run c (at_cycle l.clock (drop l.at l.ops)) (progress_of l.fn.work l.clock l.at));
      place : l.place + length (at_cycle l.clock (drop l.place l.ops)) ≡ l.at + length (at_cycle l.clock (drop l.at l.ops));
      answer : (x : Option Answer) → AnswersAfter (at_cycle l.clock (drop l.place l.ops)) l.work.answer x → AnswersAfter (at_cycle l.clock (drop l.at l.ops)) l.fn.work.answer x;
    }
