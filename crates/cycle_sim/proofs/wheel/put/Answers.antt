use Rattle.std.proofs.Common.{◌+◌, ◌%◌, ◌++◌, ◌∷◌, [], length, ap, ◌∙◌, arith, length-set}
use Rattle.cycle_sim.specs.Wheel.{slots_of, slot_at, flight_of}
use Rattle.cycle_sim.proofs.Flights.{flight_more, slot_few}
use Rattle.cycle_sim.proofs.wheel.put.Goals as goal

pub push-requires-clause-few : goal.push-requires-clause-few
push-requires-clause-few c =
    let some = c.requires.some in
    let most = c.requires.most in
    let few = c.requires.few in
    let here = slot_few (slots_of c.args.wheel.now) c.args.clock (c.args.clock + c.args.latency) (omega arith) (omega arith) in
    omega arith

pub returns-clause-whole : goal.returns-clause-whole
returns-clause-whole c =
    let slots = slots_of c.args.wheel.now in
    let s = c.args.clock + c.args.latency in
    ap length c.push.ensures.slots ∙ length-set slots (s % 32) (slot_at slots s ++ c.args.landing ∷ []) ∙ c.requires.whole

pub returns-clause-flight : goal.returns-clause-flight
returns-clause-flight c =
    let slots = slots_of c.args.wheel.now in
    let some = c.requires.some in
    let most = c.requires.most in
    ap (λ l. flight_of l c.args.clock) c.push.ensures.slots
    ∙ flight_more slots c.args.clock (c.args.clock + c.args.latency) c.args.landing c.requires.whole (omega arith) (omega arith)
