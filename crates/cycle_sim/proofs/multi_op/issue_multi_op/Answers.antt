use Rattle.std.proofs.Common.{◌≡◌, ◌≢◌, ◌+◌, [], ◌∷◌, length, drop, get_or, ap, sym, subst, ◌∙◌, arith}
use Rattle.timed_meaning.specs.declared.TimedOp.{TimedOp}
use Rattle.timed_meaning.specs.Block.{Through, Stopped, issued, run}
use Rattle.cycle_sim.specs.Issue.{progress_of, in_order, act_now}
use Rattle.cycle_sim.specs.MultiOps.{at_cycle, start_of, ran_in_order, AnswersAfter}
use Rattle.cycle_sim.proofs.Ran.{progress_sorted, goes_on, traps, at_other, at_same, at_end, answers_on}
use Rattle.cycle_sim.proofs.multi_op.issue_multi_op.Goals as goal

pub returns-then-op-clock-clause-ran : goal.returns-then-op-clock-clause-ran
returns-then-op-clock-clause-ran c =
    let l = c.loop-place in
    let t = c.args.clock in
    let ops = c.args.ops.now in
    let op : TimedOp = c.index-ops-place.result in
    let s = start_of c.args.registers.now c.args.input.now c.args.next c.args.limit in
    let here : get_or ops l.place op ≡ op = sym c.index-ops-place.is in
    let other : op.at ≢ t = c.if-op-clock.true in
    let none : at_cycle t (drop l.place ops) ≡ [] = at_other t ops l.place op c.loop-place-test.true (λ e. other (ap (λ (k : TimedOp). k.at) (sym here) ∙ e)) in
    sym (ap (λ q. Through q) (progress_sorted l.work t l.place))
    ∙ ap (λ ks. ran_in_order (run s ks (progress_of l.work t l.place))) (sym none)
    ∙ l.invariant.ran

pub returns-in-Some-clause-ran : goal.returns-in-Some-clause-ran
returns-in-Some-clause-ran c =
    let l = c.loop-place in
    let t = c.args.clock in
    let ops = c.args.ops.now in
    let r = c.args.registers.now in
    let op : TimedOp = c.index-ops-place.result in
    let s = start_of r c.args.input.now c.args.next c.args.limit in
    let here : get_or ops l.place op ≡ op = sym c.index-ops-place.is in
    let same : op.at ≡ t = c.if-op-clock.false in
    let left = at_cycle t (drop (l.place + 1) ops) in
    let rest : at_cycle t (drop l.place ops) ≡ op ∷ left =
    at_same t ops l.place op c.loop-place-test.true (ap (λ (k : TimedOp). k.at) here ∙ same) ∙ ap (λ k. k ∷ left) here in
    ap (λ w. Stopped c.in-Some.trap (progress_of w t l.place)) c.in-Some.ensures.same
    ∙ traps r c.args.input.now c.args.next c.args.limit op left l.work t l.place c.in-Some.trap same (sym c.issue.ensures.trap ∙ c.in-Some.is)
    ∙ ap (λ ks. ran_in_order (run s ks (progress_of l.work t l.place))) (sym rest)
    ∙ l.invariant.ran

pub returns-clause-ran : goal.returns-clause-ran
returns-clause-ran c =
    let l = c.loop-place in
    let t = c.args.clock in
    let ops = c.args.ops.now in
    let s = start_of c.args.registers.now c.args.input.now c.args.next c.args.limit in
    let done : length ops ≡ l.place = omega arith in
    sym (ap (λ q. Through q) (progress_sorted l.work t (length ops)))
    ∙ ap (λ n. ran_in_order (Through (progress_of l.work t n))) done
    ∙ ap (λ ks. ran_in_order (run s ks (progress_of l.work t l.place))) (sym (at_end t ops l.place done))
    ∙ l.invariant.ran

pub loop-place-preserved : goal.loop-place-preserved
loop-place-preserved c =
    let l = c.loop-place in
    let t = c.args.clock in
    let ops = c.args.ops.now in
    let r = c.args.registers.now in
    let input = c.args.input.now in
    let next = c.args.next in
    let limit = c.args.limit in
    let op : TimedOp = c.index-ops-place.result in
    let s = start_of r input next limit in
    let here : get_or ops l.place op ≡ op = sym c.index-ops-place.is in
    let same : op.at ≡ t = c.if-op-clock.false in
    let left = at_cycle t (drop (l.place + 1) ops) in
    let rest : at_cycle t (drop l.place ops) ≡ op ∷ left =
    at_same t ops l.place op c.loop-place-test.true (ap (λ (k : TimedOp). k.at) here ∙ same) ∙ ap (λ k. k ∷ left) here in
    let new = c.issue.new.work in
    let does = act_now r input next limit op.guarded l.work in
    let made : progress_of new t (l.place + 1) ≡ in_order (issued op does (progress_of l.work t l.place)) =
    subst (λ u. progress_of new t (l.place + 1) ≡ in_order (issued (record { guarded = op.guarded; at = u; latency = op.latency }) does (progress_of l.work t l.place))) (sym same) (c.in_default.ensures.work l.place) in
    record {
      whole = c.issue.ensures.whole;
      room = c.issue.ensures.room;
      capacity = let a = l.invariant.capacity in let b = c.issue.ensures.capacity in omega arith;
      few = let a = l.invariant.few in let b = c.issue.ensures.load in omega arith;
      ran =
          sym (goes_on r input next limit op left l.work new t l.place same (sym c.issue.ensures.trap ∙ c.in_default.is) made)
          ∙ ap (λ ks. ran_in_order (run s ks (progress_of l.work t l.place))) (sym rest)
          ∙ l.invariant.ran;
      place = let a = l.invariant.place in let b = ap length rest in omega arith;
      answer = λ x h. l.invariant.answer x (subst (λ ks. AnswersAfter ks l.work.answer x) (sym rest) (answers_on op left l.work.answer new.answer x c.in_default.ensures.answer h));
    }
