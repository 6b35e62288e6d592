use Rattle.std.proofs.Common.{◌+◌, ap, sym, ◌∙◌}
use Rattle.timed_meaning.specs.Values.{landed}
use Rattle.timed_meaning.specs.Block.{state_after}
use Rattle.cycle_sim.specs.Registers.{state_with}
use Rattle.cycle_sim.specs.Wheel.{slots_of}
use Rattle.cycle_sim.proofs.Turning.{landed_past, flight_past}
use Rattle.cycle_sim.proofs.wheel.advance.Goals as goal

pub returns-clause-flight : goal.returns-clause-flight
returns-clause-flight c =
    flight_past (slots_of c.args.wheel.now) (slots_of c.turn.new.wheel) c.args.clock c.args.cycles c.min.result c.min.ensures c.turn.ensures.flight

pub returns-clause-state : goal.returns-clause-state
returns-clause-state c =
    let t = c.args.clock in
    let slots = slots_of c.args.wheel.now in
    λ o i p w. c.turn.ensures.state o i p w
    ∙ ap (λ l. state_after (state_with c.args.registers.now o i) (record p { writes = l }))
    (ap (landed (t + c.min.result)) w ∙ landed_past slots slots t c.args.cycles c.min.result c.min.ensures ∙ ap (landed (t + c.args.cycles)) (sym w))
