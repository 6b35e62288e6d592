use Rattle.std.proofs.Common.{◌≡◌, ℕ, ◌+◌, ◌-◌, List, get_or, refl, ap, sym, subst, ◌∙◌, arith, Some}
use Rattle.block_steps.specs.Flight.{in_flight}
use Rattle.block_steps.specs.Steps.{Moment, Outcome, state_at}
use Rattle.cycle_sim.specs.Registers.{state_with}
use Rattle.cycle_sim.specs.Wheel.{slots_of, flight_of}
use Rattle.cycle_sim.specs.Issue.{progress_of}
use Rattle.cycle_sim.specs.MultiOps.{came_to}
use Rattle.cycle_sim.specs.Machine.{block_of_ops, told}
use Rattle.cycle_sim.specs.Whole.{moment_of}
use Rattle.cycle_sim.proofs.Issues.{same_moment, inside, step_is, all_land, is_through, goes, ends, later, told_place, is_ready}
use Rattle.cycle_sim.proofs.machine.issue_parts.Goals as goal

pub issue_multi_op-place-requires-clause-at : goal.issue_multi_op-place-requires-clause-at
issue_multi_op-place-requires-clause-at c =
    inside c.args.entry c.args.ops.now c.args.end c.args.next c.requires.sound c.args.at c.args.input.now c.args.limit c.args.registers.now c.args.work.now c.args.clock.now c.args.cycles.now c.requires.ready

pub finish-requires-clause-lands : goal.finish-requires-clause-lands
finish-requires-clause-lands c =
    let entry = c.args.entry in
    let ops = c.args.ops.now in
    let end = c.args.end in
    let next = c.args.next in
    let sound = c.requires.sound in
    let at = c.args.at in
    let input = c.args.input.now in
    let limit = c.args.limit in
    let r = c.args.registers.now in
    let w = c.args.work.now in
    let t = c.args.clock.now in
    let n = c.args.cycles.now in
    let ready = c.requires.ready in
    let ran = c.issue_multi_op-place.ensures in
    let place = c.issue_multi_op-place.result.0 in
    let mid = c.issue_multi_op-place.new.work in
    all_land entry ops end next sound at input limit r w t n ready place c.issue_multi_op-place.result.1 mid ran.ran

pub finish-requires-2-clause-lands : goal.finish-requires-2-clause-lands
finish-requires-2-clause-lands c =
    let entry = c.args.entry in
    let ops = c.args.ops.now in
    let end = c.args.end in
    let next = c.args.next in
    let sound = c.requires.sound in
    let at = c.args.at in
    let input = c.args.input.now in
    let limit = c.args.limit in
    let r = c.args.registers.now in
    let w = c.args.work.now in
    let t = c.args.clock.now in
    let n = c.args.cycles.now in
    let ready = c.requires.ready in
    let ran = c.issue_multi_op-place.ensures in
    let place = c.issue_multi_op-place.result.0 in
    let mid = c.issue_multi_op-place.new.work in
    all_land entry ops end next sound at input limit r w t n ready place c.issue_multi_op-place.result.1 mid ran.ran

pub returns-in-Some-clause-moment : goal.returns-in-Some-clause-moment
returns-in-Some-clause-moment c =
    let entry = c.args.entry in
    let ops = c.args.ops.now in
    let end = c.args.end in
    let next = c.args.next in
    let sound = c.requires.sound in
    let at = c.args.at in
    let input = c.args.input.now in
    let limit = c.args.limit in
    let r = c.args.registers.now in
    let w = c.args.work.now in
    let t = c.args.clock.now in
    let n = c.args.cycles.now in
    let ready = c.requires.ready in
    let ran = c.issue_multi_op-place.ensures in
    let place = c.issue_multi_op-place.result.0 in
    let mid = c.issue_multi_op-place.new.work in
    let trapped = ap (λ o. came_to place o mid t) (sym c.in-Some.is) ∙ ran.ran in
    let p = progress_of mid t place in
    same_moment 0 0 _ _ _ _ _ _ _ _ refl
    (ap (λ (o : List ℕ). state_with c.finish.new.registers o c.finish.new.work.position) (ap (λ o. o.items) c.finish.ensures.output)
    ∙ ap (state_with c.finish.new.registers mid.output.items) c.finish.ensures.position
    ∙ c.finish.ensures.state w.output.items w.position p refl)
    c.finish.ensures.flight c.finish.ensures.answer c.saturating_add.ensures
    ∙ sym (ap (λ (y : Moment × Outcome). y.0) (step_is entry ops end next sound at input limit r w t n ready place (Some c.in-Some.trap) mid trapped))

pub returns-in-Some-clause-answer : goal.returns-in-Some-clause-answer
returns-in-Some-clause-answer c =
    let entry = c.args.entry in
    let ops = c.args.ops.now in
    let end = c.args.end in
    let next = c.args.next in
    let sound = c.requires.sound in
    let at = c.args.at in
    let input = c.args.input.now in
    let limit = c.args.limit in
    let r = c.args.registers.now in
    let w = c.args.work.now in
    let t = c.args.clock.now in
    let n = c.args.cycles.now in
    let ready = c.requires.ready in
    let ran = c.issue_multi_op-place.ensures in
    let place = c.issue_multi_op-place.result.0 in
    let mid = c.issue_multi_op-place.new.work in
    let trapped = ap (λ o. came_to place o mid t) (sym c.in-Some.is) ∙ ran.ran in
    sym (ap (told (block_of_ops entry ops end next)) (step_is entry ops end next sound at input limit r w t n ready place (Some c.in-Some.trap) mid trapped))

pub overflow_sub-to : goal.overflow_sub-to
overflow_sub-to c =
    let entry = c.args.entry in
    let ops = c.args.ops.now in
    let end = c.args.end in
    let next = c.args.next in
    let sound = c.requires.sound in
    let at = c.args.at in
    let input = c.args.input.now in
    let limit = c.args.limit in
    let r = c.args.registers.now in
    let w = c.args.work.now in
    let t = c.args.clock.now in
    let n = c.args.cycles.now in
    let ready = c.requires.ready in
    let ran = c.issue_multi_op-place.ensures in
    let place = c.issue_multi_op-place.result.0 in
    let mid = c.issue_multi_op-place.new.work in
    let through = is_through entry ops end next sound at input limit r w t n ready place c.issue_multi_op-place.result.1 mid c.in_default.is ran.ran ran.place ran.answer ran.load in
    let l = later entry ops end next sound at input limit r w t n ready place mid through c.index-ops-place.result c.if-place-ops.true in
    omega arith

pub returns-then-place-ops-clause-moment : goal.returns-then-place-ops-clause-moment
returns-then-place-ops-clause-moment c =
    let entry = c.args.entry in
    let ops = c.args.ops.now in
    let end = c.args.end in
    let next = c.args.next in
    let sound = c.requires.sound in
    let at = c.args.at in
    let input = c.args.input.now in
    let limit = c.args.limit in
    let r = c.args.registers.now in
    let w = c.args.work.now in
    let t = c.args.clock.now in
    let n = c.args.cycles.now in
    let ready = c.requires.ready in
    let ran = c.issue_multi_op-place.ensures in
    let place = c.issue_multi_op-place.result.0 in
    let mid = c.issue_multi_op-place.new.work in
    let through = is_through entry ops end next sound at input limit r w t n ready place c.issue_multi_op-place.result.1 mid c.in_default.is ran.ran ran.place ran.answer ran.load in
    let op = c.index-ops-place.result in
    let to = (get_or ops place op).at in
    let l = later entry ops end next sound at input limit r w t n ready place mid through op c.if-place-ops.true in
    let there : t + (to - t) ≡ to = omega arith in
    let wheel = c.advance.new.wheel in
    let left : flight_of (slots_of wheel) to ≡ in_flight to (flight_of (slots_of mid.wheel) t) =
    subst (λ u. flight_of (slots_of wheel) u ≡ in_flight u (flight_of (slots_of mid.wheel) t)) there c.advance.ensures.flight in
    let p = progress_of mid t place in
    let cells = state_with c.advance.new.registers p.output p.position in
    let landed : cells ≡ state_at to (state_with r w.output.items w.position) p =
    subst (λ u. cells ≡ state_at u (state_with r w.output.items w.position) p) there (c.advance.ensures.state w.output.items w.position p refl) in
    sym (ap (λ (y : Moment × Outcome). y.0) (goes entry ops end next sound at input limit r w t n ready place mid through op c.if-place-ops.true cells (flight_of (slots_of wheel) to) landed left))

pub returns-then-place-ops-clause-answer : goal.returns-then-place-ops-clause-answer
returns-then-place-ops-clause-answer c =
    let entry = c.args.entry in
    let ops = c.args.ops.now in
    let end = c.args.end in
    let next = c.args.next in
    let sound = c.requires.sound in
    let at = c.args.at in
    let input = c.args.input.now in
    let limit = c.args.limit in
    let r = c.args.registers.now in
    let w = c.args.work.now in
    let t = c.args.clock.now in
    let n = c.args.cycles.now in
    let ready = c.requires.ready in
    let ran = c.issue_multi_op-place.ensures in
    let place = c.issue_multi_op-place.result.0 in
    let mid = c.issue_multi_op-place.new.work in
    let through = is_through entry ops end next sound at input limit r w t n ready place c.issue_multi_op-place.result.1 mid c.in_default.is ran.ran ran.place ran.answer ran.load in
    told_place entry ops end next sound at input limit r w t n ready place mid through c.index-ops-place.result c.if-place-ops.true

pub returns-then-place-ops-clause-stands : goal.returns-then-place-ops-clause-stands
returns-then-place-ops-clause-stands c =
    let entry = c.args.entry in
    let ops = c.args.ops.now in
    let end = c.args.end in
    let next = c.args.next in
    let sound = c.requires.sound in
    let at = c.args.at in
    let input = c.args.input.now in
    let limit = c.args.limit in
    let r = c.args.registers.now in
    let w = c.args.work.now in
    let t = c.args.clock.now in
    let n = c.args.cycles.now in
    let ready = c.requires.ready in
    let ran = c.issue_multi_op-place.ensures in
    let place = c.issue_multi_op-place.result.0 in
    let mid = c.issue_multi_op-place.new.work in
    let through = is_through entry ops end next sound at input limit r w t n ready place c.issue_multi_op-place.result.1 mid c.in_default.is ran.ran ran.place ran.answer ran.load in
    let op = c.index-ops-place.result in
    let to = (get_or ops place op).at in
    let l = later entry ops end next sound at input limit r w t n ready place mid through op c.if-place-ops.true in
    let there : t + (to - t) ≡ to = omega arith in
    let wheel = c.advance.new.wheel in
    let left : flight_of (slots_of wheel) to ≡ in_flight to (flight_of (slots_of mid.wheel) t) =
    subst (λ u. flight_of (slots_of wheel) u ≡ in_flight u (flight_of (slots_of mid.wheel) t)) there c.advance.ensures.flight in
    is_ready entry ops end next sound at input limit r w t n ready place mid through op c.if-place-ops.true (moment_of c.advance.new.registers (record mid { wheel = wheel }) to n) refl left

pub returns-clause-moment : goal.returns-clause-moment
returns-clause-moment c =
    let entry = c.args.entry in
    let ops = c.args.ops.now in
    let end = c.args.end in
    let next = c.args.next in
    let sound = c.requires.sound in
    let at = c.args.at in
    let input = c.args.input.now in
    let limit = c.args.limit in
    let r = c.args.registers.now in
    let w = c.args.work.now in
    let t = c.args.clock.now in
    let n = c.args.cycles.now in
    let ready = c.requires.ready in
    let ran = c.issue_multi_op-place.ensures in
    let place = c.issue_multi_op-place.result.0 in
    let mid = c.issue_multi_op-place.new.work in
    let through = is_through entry ops end next sound at input limit r w t n ready place c.issue_multi_op-place.result.1 mid c.in_default.is ran.ran ran.place ran.answer ran.load in
    let p = progress_of mid t place in
    same_moment 0 0 _ _ _ _ _ _ _ _ refl
    (ap (λ (o : List ℕ). state_with c.finish-2.new.registers o c.finish-2.new.work.position) (ap (λ o. o.items) c.finish-2.ensures.output)
    ∙ ap (state_with c.finish-2.new.registers mid.output.items) c.finish-2.ensures.position
    ∙ c.finish-2.ensures.state w.output.items w.position p refl)
    c.finish-2.ensures.flight c.finish-2.ensures.answer c.saturating_add-2.ensures
    ∙ sym (ap (λ (y : Moment × Outcome). y.0) (ends entry ops end next sound at input limit r w t n ready place mid through c.if-place-ops.false))

pub returns-clause-answer : goal.returns-clause-answer
returns-clause-answer c =
    let entry = c.args.entry in
    let ops = c.args.ops.now in
    let end = c.args.end in
    let next = c.args.next in
    let sound = c.requires.sound in
    let at = c.args.at in
    let input = c.args.input.now in
    let limit = c.args.limit in
    let r = c.args.registers.now in
    let w = c.args.work.now in
    let t = c.args.clock.now in
    let n = c.args.cycles.now in
    let ready = c.requires.ready in
    let ran = c.issue_multi_op-place.ensures in
    let place = c.issue_multi_op-place.result.0 in
    let mid = c.issue_multi_op-place.new.work in
    let through = is_through entry ops end next sound at input limit r w t n ready place c.issue_multi_op-place.result.1 mid c.in_default.is ran.ran ran.place ran.answer ran.load in
    c.ended.ensures ∙ sym (ap (told (block_of_ops entry ops end next)) (ends entry ops end next sound at input limit r w t n ready place mid through c.if-place-ops.false))
