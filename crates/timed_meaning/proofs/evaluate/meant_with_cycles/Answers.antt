use Rattle.std.proofs.Common.{◌≡◌, ◌∙◌, add-zero, sym, ap, arith}
use Rattle.timed_meaning.specs.Program.{program_of, after}
use Rattle.timed_meaning.specs.Evaluator.{state_with}
use Rattle.timed_meaning.proofs.Counting.{cycles_here, cycles_end, means_end, means_bound, stands_on}
use Rattle.timed_meaning.proofs.evaluate.meant_with_cycles.Goals as goal

pub returns-in-Ends-clause-meaning : goal.returns-in-Ends-clause-meaning
returns-in-Ends-clause-meaning c =
    let now = c.loop-ended in
    let p = program_of c.args.program.now in
    let came = rw c.in-Ends.is at c.in_ok-outcome.ensures.next in
    c.meant.ensures
    ∙ means_end p c.args.input.now c.args.limit c.args.bound now.ended now.entry (state_with now.cells now.work) c.in-Ends.end 1 c.step.new.work.output.items c.step.new.cells.memory.items c.loop-ended-test.true now.invariant.stands came

pub returns-in-Ends-clause-cycles : goal.returns-in-Ends-clause-cycles
returns-in-Ends-clause-cycles c =
    let now = c.loop-ended in
    let p = program_of c.args.program.now in
    let s = state_with now.cells now.work in
    let came = rw c.in-Ends.is at c.in_ok-outcome.ensures.next in
    cycles_here p c.args.input.now c.args.limit now.ended now.entry s now.cycles c.in_ok-outcome.taken now.invariant.stands now.invariant.cycles c.in_ok-outcome.ensures.cycles
    ∙ cycles_end p c.args.input.now c.args.limit c.args.bound now.ended now.entry s c.in-Ends.end 1 c.step.new.work.output.items c.step.new.cells.memory.items c.loop-ended-test.true now.invariant.stands came

pub returns-in-Stops-clause-meaning : goal.returns-in-Stops-clause-meaning
returns-in-Stops-clause-meaning c =
    let now = c.loop-ended in
    let p = program_of c.args.program.now in
    let came = rw c.in-Stops.is at c.in_ok-outcome.ensures.next in
    c.meant-in-Stops.ensures
    ∙ (rw add-zero at (means_end p c.args.input.now c.args.limit c.args.bound now.ended now.entry (state_with now.cells now.work) c.in-Stops.end 0 c.step.new.work.output.items c.step.new.cells.memory.items c.loop-ended-test.true now.invariant.stands came))

pub returns-in-Stops-clause-cycles : goal.returns-in-Stops-clause-cycles
returns-in-Stops-clause-cycles c =
    let now = c.loop-ended in
    let p = program_of c.args.program.now in
    let s = state_with now.cells now.work in
    let came = rw c.in-Stops.is at c.in_ok-outcome.ensures.next in
    cycles_here p c.args.input.now c.args.limit now.ended now.entry s now.cycles c.in_ok-outcome.taken now.invariant.stands now.invariant.cycles c.in_ok-outcome.ensures.cycles
    ∙ cycles_end p c.args.input.now c.args.limit c.args.bound now.ended now.entry s c.in-Stops.end 0 c.step.new.work.output.items c.step.new.cells.memory.items c.loop-ended-test.true now.invariant.stands came

pub loop-ended-preserved : goal.loop-ended-preserved
loop-ended-preserved c =
    let now = c.loop-ended in
    let p = program_of c.args.program.now in
    let s = state_with now.cells now.work in
    let came = rw c.in-Goes.is at c.in_ok-outcome.ensures.next in
    record {
      memory = c.in_ok-outcome.ensures.memory ∙ now.invariant.memory;
      stands = stands_on p c.args.input.now c.args.limit now.ended now.entry s c.in-Goes.to (state_with c.step.new.cells c.step.new.work) now.invariant.stands came;
      cycles = cycles_here p c.args.input.now c.args.limit now.ended now.entry s now.cycles c.in_ok-outcome.taken now.invariant.stands now.invariant.cycles c.in_ok-outcome.ensures.cycles;
      bound = omega (arith, now.invariant.bound, c.in_ok-outcome.ensures.bound);
    }

pub returns-clause-meaning : goal.returns-clause-meaning
returns-clause-meaning c =
    let now = c.loop-ended in
    let p = program_of c.args.program.now in
    let all : now.ended ≡ c.args.bound = omega (arith, c.loop-ended-test.false, now.auto.ended-end) in
    c.meant-2.ensures
    ∙ means_bound p c.args.input.now c.args.limit c.args.bound now.entry (state_with now.cells now.work) (sym (ap (after p c.args.input.now c.args.limit) all) ∙ now.invariant.stands)
