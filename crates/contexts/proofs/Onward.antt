-- A context that has played a MultiOp stands where the definitions say.
use Rattle.std.proofs.Common.{◌≡◌, ℕ, ◌+◌, ◌<◌, Bool, true, false, refl, sym, ap, subst, ◌∙◌, Option, Some, None, arith}
use Rattle.std.specs.Prelude.{nat_lt, if◌then◌else◌}
use Rattle.std.proofs.lemmas.Bool.{ltb-true}
use Rattle.operation.specs.declared.End.{End}
use Rattle.operation.specs.declared.End.TheVariants as end
use Rattle.operation.specs.declared.TrapKind.TheVariants.{BadTarget}
use Rattle.block_table.specs.Rows.{Rows}
use Rattle.block_table.specs.Rules.{has_entry}
use Rattle.timed_meaning.specs.declared.Answer.TheVariants.{GoOn, GoTo, Stop}
use Rattle.timed_meaning.specs.Block.{Ended}
use Rattle.timed_meaning.specs.Program.{Block, Next, Goes, Ends, block_at, goes_on, follows}
use Rattle.image_check.specs.Blocks.{rows_of, timed_block}
use Rattle.block_steps.specs.Steps.{Moment, Outcome, Going, AtEnd, AtTrap, at_entry, place_at, step}
use Rattle.cycle_sim.specs.Machine.{Simulated, IsReady, StandsBehind, told, has_stopped, goes_on_to}
use Rattle.cycle_sim.specs.Laws.{ReadyAtEntry}
use Rattle.cycle_sim.specs.declared.Issued.{Issued}
use Rattle.cycle_sim.specs.declared.Issued.TheVariants as issued
use Rattle.context_system.specs.Context as system
use Rattle.context_system.specs.Context.{running, end_by_bound, behind_block, behind_step, played_on, turn}
use Rattle.contexts.specs.declared.seat.Place.{Place}
use Rattle.contexts.specs.declared.seat.Seat.{Seat}
use Rattle.contexts.specs.Standing.{IsPlace, StandsIn}
use Rattle.contexts.specs.Going.{HasPlayed, Enters, Ends as EndsSo, GoesTo, GoesOn}

-- a context of the core stands as one of the system's that has its setup
pub record Agrees (x : system.Context) (new : Seat) (y : system.Context) : Type 0 where
  pub setup : y.setup ≡ x.setup
  pub entry : y.entry ≡ new.place.entry
  pub moment : y.moment ≡ new.machine.moment
  pub blocks : y.blocks ≡ new.blocks
  pub end : y.end ≡ new.end
  pub standing : y.end ≡ None → StandsIn new y

-- what it was given is as it was
pub record Remains (old new : Seat) : Type 0 where
  pub program : new.program ≡ old.program
  pub input : new.machine.input ≡ old.machine.input
  pub limit : new.machine.limit ≡ old.machine.limit
  pub bound : new.bound ≡ old.bound

-- what is known of the block in which it stands
pub record Facts (x : system.Context) (rows : Rows) (b : Block) : Type 0 where
  pub table : rows ≡ rows_of x.setup.image
  pub entry : b.entry ≡ x.entry
  pub has : has_entry rows b.entry ≡ true
  pub next : (to : ℕ) → b.next ≡ Some to → has_entry rows to ≡ true
  pub there : (to : ℕ) → has_entry rows to ≡ true → (c : Block) × (block_at (running x.setup) to ≡ Some c)
  pub none : (to : ℕ) → has_entry rows to ≡ false → block_at (running x.setup) to ≡ None

below_bound : (bound blocks : ℕ) → end_by_bound bound blocks ≡ None → blocks < bound
below_bound bound blocks h = go (nat_lt blocks bound) refl h
  where
    go : (b : Bool) → nat_lt blocks bound ≡ b → (let o : Option End = if b then None else Some end.Bound in o) ≡ None → blocks < bound
    go true e f = ltb-true blocks bound e
    go false e f = absurd (let no : ⊥ = cc in no)

module _ (ready : ReadyAtEntry) (x : system.Context) (rows : Rows) (b : Block) (f : Facts x rows b) (mid : Seat)
    (entry : x.entry ≡ mid.place.entry) (blocks : x.blocks ≡ mid.blocks) (bound : x.setup.bound ≡ mid.bound) where
  entered : (m : Moment) (to : ℕ) (new : Seat) → mid.machine.moment ≡ m → mid.machine.stopped ≡ false → m ≡ at_entry m.state m.cycles → Enters rows to mid new →
      Agrees x new (behind_block x m (Goes to m.state))
  entered m to new here going fresh e =
      let place : IsPlace (rows_of x.setup.image) new.place = subst (λ (r : Rows). IsPlace r new.place) f.table e.place in
      let moment : m ≡ new.machine.moment = sym here ∙ ap (λ (s : Simulated). s.moment) (sym e.kept.machine) in
      let count : x.blocks + 1 ≡ new.blocks = ap (λ (n : ℕ). n + 1) blocks ∙ sym e.blocks in
      let limit : x.setup.bound ≡ new.bound = bound ∙ sym e.kept.bound in
      let begun : IsReady (timed_block x.setup.formed place.row) new.at m =
      subst (λ (n : ℕ). IsReady (timed_block x.setup.formed place.row) n m) (sym e.first)
      (subst (IsReady (timed_block x.setup.formed place.row) 0) (sym fresh) (ready (timed_block x.setup.formed place.row) m.state m.cycles)) in
      record {
        setup = refl;
        entry = sym e.entry;
        moment = moment;
        blocks = count;
        end = ap (λ (n : ℕ). end_by_bound n (x.blocks + 1)) bound ∙ ap (λ (n : ℕ). end_by_bound mid.bound (n + 1)) blocks ∙ sym e.end;
        standing = λ none. record {
          place = place;
          running = ap (λ (s : Simulated). s.stopped) e.kept.machine ∙ going;
          ready = subst (IsReady (timed_block x.setup.formed place.row) new.at) moment begun;
          below = let h : x.blocks + 1 < x.setup.bound = below_bound x.setup.bound (x.blocks + 1) none in omega arith;
        };
      }

  ended : (m : Moment) (k : ℕ) (e : End) (y : system.Context) (new : Seat) → mid.machine.moment ≡ m → EndsSo e k mid new →
      y ≡ record x { moment = m; blocks = x.blocks + k; end = Some e } → Agrees x new y
  ended m k e y new here h is =
      subst (Agrees x new) (sym is)
      (record {
        setup = refl;
        entry = entry ∙ ap (λ (p : Place). p.entry) (sym h.place);
        moment = sym here ∙ ap (λ (s : Simulated). s.moment) (sym h.kept.machine);
        blocks = ap (λ (n : ℕ). n + k) blocks ∙ sym h.blocks;
        end = sym h.end;
        standing = λ none. absurd (let no : ⊥ = cc in no);
      })

  -- to an address, where a block stands or none
  went : (m : Moment) (to : ℕ) (new : Seat) (t : Bool) → has_entry rows to ≡ t → mid.machine.moment ≡ m → mid.machine.stopped ≡ false → m ≡ at_entry m.state m.cycles →
      GoesTo rows t to mid new → Agrees x new (behind_block x m (follows (running x.setup) x.entry b.next (Ended m.state (GoTo to))))
  went m to new true e here going fresh g =
      let c = f.there to e in
      let next : follows (running x.setup) x.entry b.next (Ended m.state (GoTo to)) ≡ Goes to m.state =
      ap (λ (o : Option Block). let n : Next = elim o [
        | None ↦ Ends (end.Trapped (record { kind = BadTarget; block = x.entry; detail = to })) 1 m.state.output m.state.memory
        | Some b ↦ Goes to m.state
      ] in n) c.1 in
      subst (λ (n : Next). Agrees x new (behind_block x m n)) (sym next) (entered m to new here going fresh g)
  went m to new false e here going fresh g =
      let next : follows (running x.setup) x.entry b.next (Ended m.state (GoTo to))
      ≡ Ends (end.Trapped (record { kind = BadTarget; block = x.entry; detail = to })) 1 m.state.output m.state.memory =
      ap (λ (o : Option Block). let n : Next = elim o [
        | None ↦ Ends (end.Trapped (record { kind = BadTarget; block = x.entry; detail = to })) 1 m.state.output m.state.memory
        | Some b ↦ Goes to m.state
      ] in n) (f.none to e) in
      subst (λ (n : Next). Agrees x new (behind_block x m n)) (sym next)
      (ended m 1 (end.Trapped (record { kind = BadTarget; block = mid.place.entry; detail = to })) _ new here g
      (ap (λ (n : ℕ). let y : system.Context = record x { moment = m; blocks = x.blocks + 1; end = Some (end.Trapped (record { kind = BadTarget; block = n; detail = to })) } in y) entry))

  -- on to the next row
  went_on : (m : Moment) (new : Seat) (o : Option ℕ) → ((to : ℕ) → o ≡ Some to → has_entry rows to ≡ true) → mid.machine.moment ≡ m → mid.machine.stopped ≡ false →
      m ≡ at_entry m.state m.cycles → GoesTo rows (has_entry rows (goes_on_to b.entry o)) (goes_on_to b.entry o) mid new →
      Agrees x new (behind_block x m (goes_on x.entry o m.state))
  went_on m new None next here going fresh g =
      subst (λ (n : ℕ). Agrees x new (behind_block x m (Goes n m.state))) f.entry
      (entered m b.entry new here going fresh (subst (λ (t : Bool). GoesTo rows t b.entry mid new) f.has g))
  went_on m new (Some to) next here going fresh g =
      entered m to new here going fresh (subst (λ (t : Bool). GoesTo rows t to mid new) (next to refl) g)

  module _ (ends : x.end ≡ mid.end) (at : IsPlace (rows_of x.setup.image) mid.place) (same : b ≡ timed_block x.setup.formed at.row) (below : mid.blocks < mid.bound) where
    onward : (r : Moment × Outcome) (new : Seat) → mid.machine.moment ≡ r.0 → mid.machine.stopped ≡ has_stopped (told b r) → StandsBehind b (told b r) r.0 →
        GoesOn rows (told b r) mid new → Agrees x new (behind_step x b r)
    onward (m, Going) new here going stands g =
        subst (λ (n : Seat). Agrees x n (behind_step x b (m, Going))) (sym g)
        (record {
          setup = refl;
          entry = entry;
          moment = sym here;
          blocks = blocks;
          end = ends;
          standing = λ none. record {
            place = at;
            running = going;
            ready = subst (IsReady (timed_block x.setup.formed at.row) (place_at m.clock b.ops)) (sym here)
                (subst (λ (c : Block). IsReady c (place_at m.clock b.ops) m) same stands);
            below = below;
          };
        })
    onward (m, AtEnd GoOn) new here going stands g = went_on m new b.next f.next here going stands g
    onward (m, AtEnd (GoTo to)) new here going stands g = went m to new (has_entry rows to) refl here going stands g
    onward (m, AtEnd (Stop code)) new here going stands g = ended m 1 (end.Halted code) _ new here g refl
    onward (m, AtTrap t k) new here going stands g =
        ended m 0 (end.Trapped (record { kind = t.kind; block = mid.place.entry; detail = t.detail })) _ new here g
        (ap (λ (n : ℕ). let y : system.Context = record x { moment = m; blocks = x.blocks + 0; end = Some (end.Trapped (record { kind = t.kind; block = n; detail = t.detail })) } in y) entry)

-- a context of the core stands as one of the system's, in a block
pub record Stands (seat : Seat) (x : system.Context) : Type 0 where
  pub entry : x.entry ≡ seat.place.entry
  pub moment : x.moment ≡ seat.machine.moment
  pub blocks : x.blocks ≡ seat.blocks
  pub end : x.end ≡ seat.end
  pub input : x.setup.input ≡ seat.machine.input
  pub limit : x.setup.limit ≡ seat.machine.limit
  pub bound : x.setup.bound ≡ seat.bound
  pub going : x.end ≡ None
  pub inside : StandsIn seat x

remains_on : (rows : Rows) (out : Issued) (mid new : Seat) → GoesOn rows out mid new → (new.program ≡ mid.program) × (new.machine ≡ mid.machine) × (new.bound ≡ mid.bound)
remains_on rows (issued.Going at) mid new g = (ap (λ (n : Seat). n.program) g, ap (λ (n : Seat). n.machine) g, ap (λ (n : Seat). n.bound) g)
remains_on rows (issued.BlockEnd to) mid new g = go (has_entry rows to) g
  where
    go : (t : Bool) → GoesTo rows t to mid new → (new.program ≡ mid.program) × (new.machine ≡ mid.machine) × (new.bound ≡ mid.bound)
    go true e = (e.kept.program, e.kept.machine, e.kept.bound)
    go false e = (e.kept.program, e.kept.machine, e.kept.bound)
remains_on rows (issued.Halted code) mid new g = (g.kept.program, g.kept.machine, g.kept.bound)
remains_on rows (issued.Trapped k t) mid new g = (g.kept.program, g.kept.machine, g.kept.bound)

module _ (ready : ReadyAtEntry) (x : system.Context) (rows : Rows) (old new : Seat) (s : Stands old x) (f : Facts x rows (timed_block x.setup.formed s.inside.place.row))
    (found : block_at (running x.setup) x.entry ≡ Some (timed_block x.setup.formed s.inside.place.row)) (h : HasPlayed rows (timed_block x.setup.formed s.inside.place.row) old new) where
  abbrev b : Block
  b = timed_block x.setup.formed s.inside.place.row

  abbrev r : Moment × Outcome
  r = step x.setup.input x.setup.limit b x.moment

  turn_is : turn x ≡ behind_step x b r
  turn_is =
      ap (λ (o : Option End). let y : system.Context = elim o [ None ↦ played_on x | Some e ↦ x ] in y) s.going
      ∙ ap (λ (o : Option Block). let y : system.Context = elim o [ None ↦ x | Some b ↦ behind_step x b (step x.setup.input x.setup.limit b x.moment) ] in y) found

  step_is : step old.machine.input old.machine.limit b old.machine.moment ≡ r
  step_is =
      ap (λ (n : _). step n old.machine.limit b old.machine.moment) (sym s.input)
      ∙ ap (λ (n : _). step x.setup.input n b old.machine.moment) (sym s.limit)
      ∙ ap (λ (n : _). step x.setup.input x.setup.limit b n) (sym s.moment)

  pub plays : Agrees x new (turn x)
  plays =
      let mid = h.between in
      let i = h.issued in
      let place : mid.place ≡ old.place = ap (λ (n : Seat). n.place) i.machine in
      let count : mid.blocks ≡ old.blocks = ap (λ (n : Seat). n.blocks) i.machine in
      let limit : mid.bound ≡ old.bound = ap (λ (n : Seat). n.bound) i.machine in
      let end : mid.end ≡ old.end = ap (λ (n : Seat). n.end) i.machine in
      let at = s.inside.place in
      let moment : mid.machine.moment ≡ r.0 = i.moment ∙ ap (λ (q : Moment × Outcome). q.0) step_is in
      let out : h.out ≡ told b r = i.answer ∙ ap (told b) step_is in
      let stopped : mid.machine.stopped ≡ has_stopped (told b r) = i.stopped ∙ ap has_stopped out in
      let stands : StandsBehind b (told b r) r.0 = subst (StandsBehind b (told b r)) moment (subst (λ (o : Issued). StandsBehind b o mid.machine.moment) out i.stands) in
      let gone : GoesOn rows (told b r) mid new = subst (λ (o : Issued). GoesOn rows o mid new) out h.gone in
      let here : IsPlace (rows_of x.setup.image) mid.place = record {
        row = at.row;
        there = at.there;
        entry = ap (λ (p : Place). p.entry) place ∙ at.entry;
        count = ap (λ (p : Place). p.count) place ∙ at.count;
        next = ap (λ (p : Place). p.next) place ∙ at.next;
      } in
      subst (Agrees x new) (sym turn_is)
      (onward ready x rows b f mid (s.entry ∙ ap (λ (p : Place). p.entry) (sym place)) (s.blocks ∙ sym count) (s.bound ∙ sym limit) (s.end ∙ sym end) here refl
      (let below : old.blocks < old.bound = s.inside.below in omega arith) r new moment stopped stands gone)

  pub remains : Remains old new
  remains =
      let mid = h.between in
      let i = h.issued in
      let q = remains_on rows h.out mid new h.gone in
      record {
        program = q.0 ∙ ap (λ (n : Seat). n.program) i.machine;
        input = ap (λ (m : Simulated). m.input) q.1 ∙ i.input;
        limit = ap (λ (m : Simulated). m.limit) q.1 ∙ i.limit;
        bound = q.2 ∙ ap (λ (n : Seat). n.bound) i.machine;
      }
