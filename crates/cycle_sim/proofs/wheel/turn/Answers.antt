use Rattle.std.proofs.Common.{◌≡◌, [], ◌+◌, ◌%◌, length, set, ap, sym, ◌∙◌, arith, rules}
use Rattle.timed_meaning.specs.Values.{State}
use Rattle.cycle_sim.specs.Registers.{state_of, all_set}
use Rattle.cycle_sim.specs.Wheel.{slots_of, slot_at, values_in, flight_of, emptied, emptied_into}
use Rattle.cycle_sim.proofs.Cells.{IsSized}
use Rattle.cycle_sim.proofs.Turning.{length-emptied, flight_emptied, into_sizes}
use Rattle.cycle_sim.proofs.Advancing.{advanced_state, emptied_next, into_next}
use Rattle.cycle_sim.proofs.wheel.turn.Goals as goal

pub empty-requires-clause-whole : goal.empty-requires-clause-whole
empty-requires-clause-whole c = ap length c.loop-cycle.invariant.slots ∙ length-emptied (slots_of c.args.wheel.now) c.args.clock c.loop-cycle.cycle ∙ c.requires.whole

pub loop-cycle-preserved : goal.loop-cycle-preserved
loop-cycle-preserved c =
    let slots = slots_of c.args.wheel.now in
    let t = c.args.clock in
    let k = c.loop-cycle.cycle in
    let test = c.loop-cycle-test.true in
    let few = c.requires.few in
    record {
      slots = c.empty.ensures.slots ∙ ap (λ l. set l ((t + 1 + k) % 32) []) c.loop-cycle.invariant.slots ∙ sym (emptied_next slots t k);
      state =
          c.empty.ensures.state
          ∙ ap (λ l. all_set (values_in (slot_at l (t + 1 + k))) (state_of c.loop-cycle.registers)) c.loop-cycle.invariant.slots
          ∙ ap (all_set (values_in (slot_at (emptied slots t k) (t + 1 + k)))) c.loop-cycle.invariant.state
          ∙ into_next slots t k (state_of c.args.registers.now) (omega arith);
      room = c.empty.ensures.room;
    }

pub returns-clause-whole : goal.returns-clause-whole
returns-clause-whole c = ap length c.loop-cycle.invariant.slots ∙ length-emptied (slots_of c.args.wheel.now) c.args.clock c.loop-cycle.cycle ∙ c.requires.whole

pub returns-clause-flight : goal.returns-clause-flight
returns-clause-flight c =
    let slots = slots_of c.args.wheel.now in
    let t = c.args.clock in
    let done : c.loop-cycle.cycle ≡ c.args.cycles = omega arith in
    ap (λ l. flight_of l (t + c.args.cycles)) (c.loop-cycle.invariant.slots ∙ ap (emptied slots t) done)
    ∙ flight_emptied slots t c.args.cycles c.requires.whole c.requires.few

pub returns-clause-state : goal.returns-clause-state
returns-clause-state c =
    let slots = slots_of c.args.wheel.now in
    let t = c.args.clock in
    let done : c.loop-cycle.cycle ≡ c.args.cycles = omega arith in
    let sized : IsSized (state_of c.args.registers.now) = record { general = search rules; predicates = search rules; targets = search rules } in
    λ o i p w. advanced_state slots t c.args.cycles c.args.registers.now c.loop-cycle.registers c.requires.few sized (c.loop-cycle.invariant.state ∙ ap (λ n. emptied_into slots t n (state_of c.args.registers.now)) done) o i p w

pub returns-clause-memory : goal.returns-clause-memory
returns-clause-memory c =
    ap (λ (s : State). length s.memory) c.loop-cycle.invariant.state ∙ (into_sizes (slots_of c.args.wheel.now) c.args.clock c.loop-cycle.cycle (state_of c.args.registers.now)).memory
