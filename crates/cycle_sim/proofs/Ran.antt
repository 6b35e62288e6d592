-- Operations that have issued, in the order of their landings.
use Rattle.std.proofs.Common.{◌≡◌, ◌≢◌, ℕ, zero, suc, ◌+◌, ◌<◌, Bool, true, false, cond, ◌||◌, List, [], ◌∷◌, length, drop, get_or, refl, ap, sym, subst, ◌∙◌, Option, Some, None, arith, drop-cons, add-one}
use Rattle.std.specs.Prelude.{nat_le, slice_get}
use Rattle.std.proofs.lemmas.Bool.{eq-eqb, ne_eqb}
use mathlib.Core.Path.{fun_ext}
use Rattle.operation.specs.declared.Guarded.{Guarded}
use Rattle.operation.specs.declared.Place.TheVariants.{General, Predicate, Target, Memory}
use Rattle.operation.specs.declared.Trap.{Trap}
use Rattle.operation.specs.Effects.{effect}
use Rattle.operation.specs.Places.{is_branch}
use Rattle.timed_meaning.specs.declared.Answer.{Answer}
use Rattle.timed_meaning.specs.declared.Cell.{Cell}
use Rattle.timed_meaning.specs.declared.Cell.TheVariants.{At, Byte}
use Rattle.timed_meaning.specs.declared.Write.{Write}
use Rattle.timed_meaning.specs.declared.TimedOp.{TimedOp}
use Rattle.timed_meaning.specs.Values.{State, entry_value, landed, value_after, written_or}
use Rattle.timed_meaning.specs.Block.{Start, Act, Progress, Through, Stopped, act, act_of, operands, issued, landing, run}
use Rattle.block_steps.specs.Flight.{in_turn}
use Rattle.block_steps.specs.Steps.{or_go_on, has_branch}
use Rattle.block_steps.proofs.Turns.{in_turn_append, in_turn_twice, last_landed_in_turn}
use Rattle.cycle_sim.specs.declared.registers.Registers.{Registers}
use Rattle.cycle_sim.specs.declared.issue.Work.{Work}
use Rattle.cycle_sim.specs.Registers.{state_of}
use Rattle.cycle_sim.specs.Wheel.{slots_of, flight_of}
use Rattle.cycle_sim.specs.Issue.{progress_of, in_order, act_now}
use Rattle.cycle_sim.specs.MultiOps.{at_cycle, start_of, ran_in_order, AnswersAfter}
use Rattle.cycle_sim.proofs.Flights.{flight_sorted}
use Rattle.cycle_sim.proofs.Turning.{none_landed}

-- ---- the order of the writes doesn't matter

pub same_value : (s : State) (t : ℕ) (ws : List Write) (x : Cell) → value_after s (landed t ws) x ≡ value_after s (landed t (in_turn ws)) x
same_value s t ws (At (General zero)) = refl
same_value s t ws (At (General (suc n))) = ap (written_or (entry_value s (At (General (suc n))))) (sym (last_landed_in_turn (At (General (suc n))) t ws))
same_value s t ws (At (Predicate zero)) = refl
same_value s t ws (At (Predicate (suc n))) = ap (written_or (entry_value s (At (Predicate (suc n))))) (sym (last_landed_in_turn (At (Predicate (suc n))) t ws))
same_value s t ws (At (Target n)) = ap (written_or (entry_value s (At (Target n)))) (sym (last_landed_in_turn (At (Target n)) t ws))
same_value s t ws (At Memory) = ap (written_or 0) (sym (last_landed_in_turn (At Memory) t ws))
same_value s t ws (Byte a) = ap (written_or (entry_value s (Byte a))) (sym (last_landed_in_turn (Byte a) t ws))

module _ (c : Start) where
  act_by : TimedOp → Progress → (Cell → ℕ) → Act
  act_by k p value =
      act_of k.guarded.op value (slice_get c.input p.position) c.next
      (effect k.guarded (operands k.guarded value (length c.state.memory) (nat_le c.limit (length p.output))))

  pub same_act : (k : TimedOp) (p : Progress) → act c k p ≡ act c k (in_order p)
  unfolding act_by
  same_act k p = ap (act_by k p) (fun_ext (same_value c.state k.at p.writes))

  with_writes : Progress → List Write → Progress
  with_writes p ws = record p { writes = ws }

  twice : (p : Progress) → in_order p ≡ in_order (in_order p)
  unfolding with_writes
  twice p = ap (with_writes p) (sym (in_turn_twice p.writes))

  again : (k : TimedOp) (a : Act) (p : Progress) → in_order (issued k a p) ≡ in_order (issued k a (in_order p))
  unfolding with_writes
  again k a p = ap (with_writes (issued k a p)) (in_turn_append (landing (k.at + k.latency) a.values) p.writes (in_turn p.writes) (sym (in_turn_twice p.writes)))

  pub ran_order : (ks : List TimedOp) (p : Progress) → ran_in_order (run c ks p) ≡ ran_in_order (run c ks (in_order p))
  ran_order [] p = ap (λ q. Through q) (twice p)
  ran_order (k ∷ ks) p =
      let a = act c k p in
      let b = act c k (in_order p) in
      go (ran_order ks (issued k a p) ∙ ap (λ q. ran_in_order (run c ks q)) (again k a p) ∙ sym (ran_order ks (issued k a (in_order p)))) a.trap
      ∙ ap (λ (d : Act). ran_in_order (elim d.trap [ None ↦ run c ks (issued k d (in_order p)) | Some t ↦ Stopped t (in_order p) ])) (same_act k p)
    where
      go : ran_in_order (run c ks (issued k (act c k p) p)) ≡ ran_in_order (run c ks (issued k (act c k p) (in_order p))) → (o : Option Trap) →
          ran_in_order (elim o [ None ↦ run c ks (issued k (act c k p) p) | Some t ↦ Stopped t p ]) ≡ ran_in_order (elim o [ None ↦ run c ks (issued k (act c k p) (in_order p)) | Some t ↦ Stopped t (in_order p) ])
      go ih None = ih
      go ih (Some t) = ap (λ q. Stopped t q) (twice p)

-- ---- one operation more

with_flight : Work → ℕ → ℕ → List Write → Progress
with_flight w t n ws = record { count = n; writes = ws; output = w.output.items; position = w.position; answer = or_go_on w.answer }

pub progress_sorted : (w : Work) (t n : ℕ) → in_order (progress_of w t n) ≡ progress_of w t n
unfolding with_flight
progress_sorted w t n = ap (with_flight w t n) (flight_sorted (slots_of w.wheel) t)

module _ (r : Registers) (input : List ℕ) (next : Option ℕ) (limit : ℕ) where
  act_with : Guarded → Work → List Write → Act
  act_with g w ws =
      act_of g.op (value_after (state_of r) ws) (slice_get input w.position) next
      (effect g (operands g (value_after (state_of r) ws) (length r.memory.items) (nat_le limit (length w.output.items))))

  pub act_is : (k : TimedOp) (w : Work) (t n : ℕ) → k.at ≡ t → act (start_of r input next limit) k (progress_of w t n) ≡ act_now r input next limit k.guarded w
  unfolding act_with
  act_is k w t n e = ap (λ u. act_with k.guarded w (landed u (flight_of (slots_of w.wheel) t))) e ∙ ap (act_with k.guarded w) (none_landed (slots_of w.wheel) t)

  pub goes_on : (k : TimedOp) (ks : List TimedOp) (old new : Work) (t n : ℕ) → k.at ≡ t → (act_now r input next limit k.guarded old).trap ≡ None →
      progress_of new t (n + 1) ≡ in_order (issued k (act_now r input next limit k.guarded old) (progress_of old t n)) →
      ran_in_order (run (start_of r input next limit) (k ∷ ks) (progress_of old t n)) ≡ ran_in_order (run (start_of r input next limit) ks (progress_of new t (n + 1)))
  goes_on k ks old new t n e free made =
      let c = start_of r input next limit in
      let p = progress_of old t n in
      let a = act_now r input next limit k.guarded old in
      ap (λ (d : Act). ran_in_order (elim d.trap [ None ↦ run c ks (issued k d p) | Some u ↦ Stopped u p ])) (act_is k old t n e)
      ∙ ap (λ (o : Option Trap). ran_in_order (elim o [ None ↦ run c ks (issued k a p) | Some u ↦ Stopped u p ])) free
      ∙ ran_order c ks (issued k a p)
      ∙ ap (λ q. ran_in_order (run c ks q)) (sym made)

  pub traps : (k : TimedOp) (ks : List TimedOp) (old : Work) (t n : ℕ) (x : Trap) → k.at ≡ t → (act_now r input next limit k.guarded old).trap ≡ Some x →
      Stopped x (progress_of old t n) ≡ ran_in_order (run (start_of r input next limit) (k ∷ ks) (progress_of old t n))
  traps k ks old t n x e stops =
      let c = start_of r input next limit in
      let p = progress_of old t n in
      let a = act_now r input next limit k.guarded old in
      sym (
      ap (λ (d : Act). ran_in_order (elim d.trap [ None ↦ run c ks (issued k d p) | Some u ↦ Stopped u p ])) (act_is k old t n e)
      ∙ ap (λ (o : Option Trap). ran_in_order (elim o [ None ↦ run c ks (issued k a p) | Some u ↦ Stopped u p ])) stops
      ∙ ap (λ q. Stopped x q) (progress_sorted old t n))

-- ---- the operations that are left

pub at_other : (t : ℕ) (ks : List TimedOp) (i : ℕ) (d : TimedOp) → i < length ks → (get_or ks i d).at ≢ t → at_cycle t (drop i ks) ≡ []
at_other t ks i d h e = ap (at_cycle t) (drop-cons ks i d h) ∙ ap (λ b. cond b (get_or ks i d ∷ at_cycle t (drop (suc i) ks)) []) (ne_eqb (get_or ks i d).at t e)

pub at_same : (t : ℕ) (ks : List TimedOp) (i : ℕ) (d : TimedOp) → i < length ks → (get_or ks i d).at ≡ t → at_cycle t (drop i ks) ≡ get_or ks i d ∷ at_cycle t (drop (i + 1) ks)
at_same t ks i d h e =
    ap (at_cycle t) (drop-cons ks i d h)
    ∙ ap (λ b. cond b (get_or ks i d ∷ at_cycle t (drop (suc i) ks)) []) (eq-eqb (get_or ks i d).at t e)
    ∙ ap (λ n. get_or ks i d ∷ at_cycle t (drop n ks)) (sym (add-one i))

pub at_end : (t : ℕ) (ks : List TimedOp) (i : ℕ) → length ks ≡ i → at_cycle t (drop i ks) ≡ []
at_end t [] zero h = refl
at_end t [] (suc i) h = refl
at_end t (k ∷ ks) zero h = absurd (omega arith)
at_end t (k ∷ ks) (suc i) h = at_end t ks i (omega arith)

-- ---- the answer

pub answers_on : (k : TimedOp) (ks : List TimedOp) (old new x : Option Answer) → new ≡ cond (is_branch k.guarded.op) (Some (or_go_on new)) old → AnswersAfter ks new x → AnswersAfter (k ∷ ks) old x
answers_on k ks old new x e h = go (is_branch k.guarded.op) (has_branch ks) e h
  where
    go : (a b : Bool) → new ≡ cond a (Some (or_go_on new)) old → x ≡ cond b (Some (or_go_on x)) new → x ≡ cond (a || b) (Some (or_go_on x)) old
    go true true f g = g
    go true false f g = subst (λ (y : Option Answer). y ≡ Some (or_go_on y)) (sym g) f
    go false true f g = g
    go false false f g = g ∙ f
