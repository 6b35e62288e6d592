use Rattle.std.proofs.Common.{◌≡◌, ◌+◌, ◌-◌, ◌≤◌, ap, sym, subst, ◌∙◌, arith}
use Rattle.std.proofs.lemmas.List.Elements.{recursion_from_All}
use Rattle.timed_meaning.specs.Values.{landed}
use Rattle.timed_meaning.specs.Block.{state_after}
use Rattle.cycle_sim.specs.Registers.{state_with}
use Rattle.cycle_sim.specs.Wheel.{slots_of, flight_of}
use Rattle.cycle_sim.proofs.Drained.{LandBy}
use Rattle.cycle_sim.proofs.Turning.{landed_all, none_left, flight_none}
use Rattle.cycle_sim.proofs.machine.finish.Goals as goal

pub returns-clause-flight : goal.returns-clause-flight
returns-clause-flight c =
    let t = c.args.clock in
    let end = t + (c.args.end - t) in
    let ws = flight_of (slots_of c.args.work.now.wheel) t in
    let is : c.args.end ≡ end = omega arith in
    let by : LandBy end ws = subst (λ e. LandBy e ws) is (recursion_from_All (λ w. w.lands ≤ c.args.end) ws c.requires.lands) in
    flight_none (slots_of c.advance.new.wheel) end 0 (c.advance.ensures.flight ∙ none_left end ws by)

pub returns-clause-state : goal.returns-clause-state
returns-clause-state c =
    let t = c.args.clock in
    let end = t + (c.args.end - t) in
    let ws = flight_of (slots_of c.args.work.now.wheel) t in
    let is : c.args.end ≡ end = omega arith in
    let by : LandBy end ws = subst (λ e. LandBy e ws) is (recursion_from_All (λ w. w.lands ≤ c.args.end) ws c.requires.lands) in
    λ o i p w. c.advance.ensures.state o i p w
    ∙ ap (λ l. state_after (state_with c.args.registers.now o i) (record p { writes = l })) (ap (landed end) w ∙ landed_all end ws by ∙ sym w)
