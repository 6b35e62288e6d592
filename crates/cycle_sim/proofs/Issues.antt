-- What an issue comes to is the step of the block.
use Rattle.std.proofs.Common.{◌≡◌, ℕ, ◌+◌, ◌*◌, ◌<◌, ◌≤◌, List, [], ◌∷◌, length, drop, get_or, refl, ap, sym, subst, ◌∙◌, Option, Some, None, arith, length-append}
use Rattle.std.specs.Prelude.{nat_eq, All, IfNone}
use Rattle.std.specs.List.{AllByRecursion}
use Rattle.std.proofs.lemmas.List.Elements.{recursion_from_All, All-from_recursion}
use Rattle.operation.specs.declared.Trap.{Trap}
use Rattle.timed_meaning.specs.declared.Answer.{Answer}
use Rattle.timed_meaning.specs.declared.Answer.TheVariants.{GoOn, GoTo, Stop}
use Rattle.timed_meaning.specs.declared.TimedOp.{TimedOp}
use Rattle.timed_meaning.specs.declared.Write.{Write}
use Rattle.timed_meaning.specs.Values.{State}
use Rattle.timed_meaning.specs.Block.{Progress, Through, run}
use Rattle.timed_meaning.specs.Program.{Block}
use Rattle.timed_meaning.specs.Sound.{IsSoundBlock}
use Rattle.block_steps.specs.Flight.{in_flight}
use Rattle.block_steps.specs.Steps.{Moment, Outcome, Going, AtEnd, at_entry, issuing, issued_before, place_at, next_issue, or_go_on, progress_at, run_multi_op, start_in, answer_of, moved_to, over_after, state_at, step_by, step}
use Rattle.block_steps.proofs.Cuts.{InOrder, in_order, cut_there, none_before, all_kept}
use Rattle.block_steps.proofs.Few.{flight_few}
use Rattle.block_steps.proofs.Playing.{sound_lem}
use Rattle.cycle_sim.specs.declared.registers.Registers.{Registers}
use Rattle.cycle_sim.specs.declared.issue.Work.{Work}
use Rattle.cycle_sim.specs.Wheel.{slots_of, flight_of}
use Rattle.cycle_sim.specs.Issue.{progress_of}
use Rattle.cycle_sim.specs.MultiOps.{at_cycle, start_of, came_to, ran_in_order, AnswersAfter}
use Rattle.cycle_sim.specs.declared.Issued.TheVariants as issued
use Rattle.cycle_sim.specs.Machine.{block_of_ops, told, told_end, IsReady, StandsBehind}
use Rattle.cycle_sim.specs.Whole.{moment_of}
use Rattle.cycle_sim.proofs.Blocks
use Rattle.cycle_sim.proofs.Drained.{LandBy, RanBy, ran_by, came_by, flight_by}
use Rattle.cycle_sim.proofs.Stepping.{step_order, cells_alone}

pub same_moment : (t u : ℕ) (s s' : State) (l l' : List Write) (a b : Option Answer) (n k : ℕ) → t ≡ u → s ≡ s' → l ≡ l' → a ≡ b → n ≡ k →
    ◌≡◌ {A = Moment} (record { clock = t; state = s; later = l; answer = a; cycles = n }) (record { clock = u; state = s'; later = l'; answer = b; cycles = k })
same_moment t u s s' l l' a b n k e f g h i = cc

module _ (entry : ℕ) (ops : List TimedOp) (end : ℕ) (next : Option ℕ) (sound : IsSoundBlock (block_of_ops entry ops end next)) where
  abbrev b : Block
  b = block_of_ops entry ops end next

  order : InOrder ops
  order = in_order ops (sound_lem b sound).rising

  drained : AllByRecursion (λ k. k.at + k.latency ≤ end) ops
  drained = recursion_from_All (λ k. k.at + k.latency ≤ end) ops sound.drained

  module _ (at : ℕ) (input : List ℕ) (limit : ℕ) (r : Registers) (w : Work) (clock cycles : ℕ) (ready : IsReady b at (moment_of r w clock cycles)) where
    abbrev m : Moment
    m = moment_of r w clock cycles

    abbrev ks : List TimedOp
    ks = at_cycle clock (drop at ops)

    now_is : ks ≡ issuing clock ops
    now_is = Blocks.now_is ops order clock at ready.place

    pub inside : at ≤ length ops
    inside = few_before clock ops ready.place
      where
        few_before : (t : ℕ) (ks : List TimedOp) → place_at t ks ≡ at → at ≤ length ks
        few_before t ks e = let l = Blocks.fewer_before t ks in omega arith

    counted_as : ℕ → Progress
    counted_as n = record { count = n; writes = m.later; output = m.state.output; position = m.state.position; answer = or_go_on m.answer }

    progress_same : progress_at b m ≡ progress_of w clock at
    unfolding counted_as
    progress_same = ap counted_as ready.place

    run_same : run_multi_op input limit b m ≡ run (start_of r input next limit) ks (progress_of w clock at)
    run_same =
        ap (λ l. run (start_in input limit b m.state) l (progress_at b m)) (sym now_is)
        ∙ ap (run (start_in input limit b m.state) ks) progress_same
        ∙ cells_alone r w.output.items w.position input next limit ks (progress_of w clock at)

    module _ (place : ℕ) (trap : Option Trap) (mid : Work) (ran : came_to place trap mid clock ≡ ran_in_order (run (start_of r input next limit) ks (progress_of w clock at))) where
      pub step_is : step input limit b m ≡ step_by b m (came_to place trap mid clock)
      step_is = step_order b m (run_multi_op input limit b m) ∙ ap (λ x. step_by b m (ran_in_order x)) run_same ∙ ap (step_by b m) (sym ran)

      -- all that is in flight then lands by the end
      lands : LandBy end (flight_of (slots_of mid.wheel) clock)
      lands =
          let start : LandBy end (flight_of (slots_of w.wheel) clock) = recursion_from_All (λ v. v.lands ≤ end) (flight_of (slots_of w.wheel) clock) ready.landing in
          let now : AllByRecursion (λ k. k.at + k.latency ≤ end) ks =
          subst (AllByRecursion (λ k. k.at + k.latency ≤ end)) (sym now_is) (all_kept (λ k. k.at + k.latency ≤ end) (λ k. nat_eq k.at clock) ops drained) in
          came_by end place trap mid clock (subst (RanBy end) (sym ran) (ran_by (start_of r input next limit) end ks (progress_of w clock at) now start))

      pub all_land : All (λ v. v.lands ≤ end) (flight_of (slots_of mid.wheel) clock)
      all_land = All-from_recursion (λ v. v.lands ≤ end) (flight_of (slots_of mid.wheel) clock) lands

    -- how a MultiOp without a trap has come out
    pub record IsThrough (place : ℕ) (mid : Work) : Type 0 where
      pub ran : Through (progress_of mid clock place) ≡ ran_in_order (run (start_of r input next limit) ks (progress_of w clock at))
      pub reached : place ≡ at + length ks
      pub answer : AnswersAfter ks w.answer mid.answer
      pub load : length (flight_of (slots_of mid.wheel) clock) ≤ 4 * place

    pub is_through :
        (place : ℕ) (trap : Option Trap) (mid : Work) → trap ≡ None → came_to place trap mid clock ≡ ran_in_order (run (start_of r input next limit) ks (progress_of w clock at)) →
        IfNone trap (place ≡ at + length ks) → IfNone trap (AnswersAfter ks w.answer mid.answer) → IfNone trap (length (flight_of (slots_of mid.wheel) clock) ≤ 4 * place) → IsThrough place mid
    is_through place None mid e ran reached answer load = record { ran = ran; reached = reached; answer = answer; load = load }
    is_through place (Some x) mid e ran reached answer load = absurd (let no : ⊥ = cc in no)

    module _ (place : ℕ) (mid : Work) (h : IsThrough place mid) where
      abbrev p : Progress
      p = progress_of mid clock place

      abbrev by_next : Option ℕ → Moment × Outcome
      by_next o = elim o [ None ↦ (over_after end m p, AtEnd p.answer) | Some t ↦ (moved_to t b m p, Going) ]

      pub ends : length ops ≤ place → step input limit b m ≡ (over_after end m p, AtEnd p.answer)
      ends last = step_is place None mid h.ran ∙ ap by_next (Blocks.ends ops order clock at ready.place place h.reached last)

      answer_is : mid.answer ≡ answer_of (issuing m.clock b.ops) p.answer m.answer
      answer_is = h.answer ∙ ap (λ l. answer_of l p.answer w.answer) now_is

      module _ (d : TimedOp) (more : place < length ops) where
        abbrev to : ℕ
        to = (get_or ops place d).at

        behind : next_issue clock ops ≡ Some to
        behind = Blocks.goes ops order clock at ready.place place h.reached d more

        pub later : clock < to
        later = (cut_there clock to ops order behind).later

        next_place : place_at to ops ≡ place
        next_place =
            let cut = cut_there clock to ops order behind in
            let before : length (issued_before clock ops) ≡ at = ready.place in
            let now : length ks ≡ length (issuing clock ops) = ap length now_is in
            let whole = ap length cut.cut in
            let reached = h.reached in
            omega (arith, length-append (issued_before clock ops) (issuing clock ops))

        -- the moment there, from the state, the writes in flight and the answer
        pub goes : (s : State) (l : List Write) → s ≡ state_at to m.state p → l ≡ in_flight to p.writes →
            step input limit b m ≡ (record { clock = to; state = s; later = l; answer = mid.answer; cycles = cycles }, Going)
        goes s l e f =
            step_is place None mid h.ran
            ∙ ap by_next behind
            ∙ ap (λ (i : Moment). let x : Moment × Outcome = (i, Going) in x) (same_moment to to _ _ _ _ _ _ cycles cycles refl (sym e) (sym f) (sym answer_is) refl)

        pub told_place : issued.Going place ≡ told b (step input limit b m)
        told_place = ap (λ n. issued.Going n) (sym next_place) ∙ sym (ap (told b) (step_is place None mid h.ran ∙ ap by_next behind))

        pub is_ready : (then : Moment) → then.clock ≡ to → then.later ≡ in_flight to (flight_of (slots_of mid.wheel) clock) → IsReady b place then
        is_ready then time left =
            record {
              place = ap (λ t. place_at t ops) time ∙ next_place;
              few = let l = flight_few to (flight_of (slots_of mid.wheel) clock) in let e = ap length left in let f = h.load in omega arith;
              before = let l = sound.drained place d more in omega arith;
              landing =
                  All-from_recursion (λ v. v.lands ≤ end) then.later
                  (subst (LandBy end) (sym left) (flight_by end to (flight_of (slots_of mid.wheel) clock) (lands place None mid h.ran)));
            }

-- the end of a block, whatever its answer
pub stands_end : (b : Block) (entry : ℕ) (next : Option ℕ) (a : Answer) (m : Moment) → m ≡ at_entry m.state m.cycles → StandsBehind b (told_end entry next a) m
stands_end b entry next GoOn m h = h
stands_end b entry next (GoTo to) m h = h
stands_end b entry next (Stop code) m h = h

-- ---- a block's entry

none_at_entry : (ks : List TimedOp) → place_at 0 ks ≡ 0
none_at_entry ks = ap length (none_before 0 ks (all_late ks))
  where
    all_late : (l : List TimedOp) → AllByRecursion (λ j. 0 ≤ j.at) l
    all_late [] = tt
    all_late (k ∷ l) = (omega arith, all_late l)

pub entry_ready : (b : Block) (s : State) (n : ℕ) → IsReady b 0 (at_entry s n)
entry_ready b s n =
    record {
      place = none_at_entry b.ops;
      few = omega arith;
      before = omega arith;
      landing = All-from_recursion (λ v. v.lands ≤ b.end) [] tt;
    }
