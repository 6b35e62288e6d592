-- Two timings that agree with one serial order do the same, since both do what the serial run says.
use Rattle.timed_meaning.specs.declared.Cell.{Cell}
use Rattle.timed_meaning.specs.declared.Cell.TheVariants.{At, Byte}
use Rattle.timed_meaning.specs.declared.Answer.TheVariants.{GoOn}
use Rattle.std.proofs.Common.{◌≡◌, ℕ, zero, suc, Bool, true, false, List, [], ◌∷◌, ◌⊎◌, inl, inr, refl, sym, ap, subst, ◌∙◌, Some, arith, map, length}
use Rattle.std.specs.Prelude.{nat_le, slice_get}
use Rattle.std.specs.List.{range_with_len}
use Rattle.std.proofs.lemmas.Option.{none-some, same_Some}
use mathlib.Core.Path.{fun_ext}
use Rattle.operation.specs.declared.Guarded.{Guarded}
use Rattle.operation.specs.declared.Trap.{Trap}
use Rattle.operation.specs.declared.Place.TheVariants.{General, Predicate, Target, Memory}
use Rattle.operation.specs.Places.{reads, is_constant, is_inb, is_outb, can_trap}
use Rattle.timed_meaning.specs.Values.{State, is_set, entry_value, value_after, value_at, memory_after}
use Rattle.timed_meaning.specs.Block.{Start, Progress, Act, Ran, Through, Stopped, fresh, act, run, ending, state_after}
use Rattle.serial_order.specs.Lists.{Among, Earlier}
use Rattle.two_timings.specs.Timing.{HasOneBranch, timed, timed_ops}
use Rattle.two_timings.specs.Law.{EndsAlike, TimingsThatAgreeDoTheSame}
use Rattle.serial_order.proofs.Earlier.{which_earlier}
use Rattle.serial_order.proofs.Onto.{onto, among_onto, among_right}
use Rattle.two_timings.proofs.Fronts.{front_among, Stand, stand, before_past, onto_at}
use Rattle.two_timings.proofs.Effects.{place_of}
use Rattle.two_timings.proofs.Acts.{act_trap, act_local, outb_traps}
use Rattle.two_timings.proofs.Folds.{folded, put_out, take_in, answer_by, leave_at, folded_equal}
use Rattle.two_timings.proofs.Runs
use Rattle.two_timings.proofs.OneTiming.{Course, course}
use Rattle.two_timings.proofs.OneTiming as one

module _ (ops : ℕ → Guarded) (order : List ℕ) (c : Start) where
  abbrev done : (r : Course ops order c) → List ℕ → Progress
  done r ks = one.done ops order c r ks

  stand_in : (r : Course ops order c) (j : ℕ) → Among j order → Stand r.timing.listed j
  stand_in r j a = stand r.timing.listed j (one.to_listed ops order c r j a)

  act_is :
      (r : Course ops order c) (j : ℕ) (s : Stand r.timing.listed j) →
      r.acts j ≡ act c (timed ops r.timing j) (done r s.past)
  act_is r j s = (Runs.does_at ops r.timing c r.acts s.past (j ∷ s.rest) (subst (Runs.Does ops r.timing c r.acts []) s.split r.does)).0

  -- ---- where the acts of both are equal, so is what they come to

  module _ (a b : Course ops order c) where
    abbrev Equal : List ℕ → Type 0
    Equal ks = (k : ℕ) → Among k ks → a.acts k ≡ b.acts k

    across :
        {A : Type 0} {u v : A} → (step : A → Act → A) (x : A) (ks : List ℕ) → Equal ks →
        u ≡ folded step a.acts x ks → v ≡ folded step b.acts x ks → u ≡ v
    across step x ks h p q = p ∙ folded_equal step a.acts b.acts x ks h ∙ sym q

    -- ---- each operation does the same in both timings

    same_act : (j : ℕ) (o : Stand order j) → Among j order → Equal o.past → a.acts j ≡ b.acts j
    same_act j o m h =
        let s = stand_in a j m in
        let t = stand_in b j m in
        let p = done a s.past in
        let q = done b t.past in
        let v = value_at c.state p.writes (a.timing.at j) in
        let w = value_at c.state q.writes (b.timing.at j) in
        let same_read : (x : Cell) → reads (ops j) (place_of x) ≡ true → v x ≡ w x =
        λ x e. across (leave_at x) (entry_value c.state x) o.past h (one.read_is ops order c a j s o x e) (one.read_is ops order c b j t o x e) in
        let same_full : is_outb (ops j).op ≡ true → nat_le c.limit (length p.output) ≡ nat_le c.limit (length q.output) =
        λ e. ap (λ out. nat_le c.limit (length out))
        (across put_out c.state.output o.past h (one.output_is ops order c a j s o (outb_traps (ops j).op e)) (one.output_is ops order c b j t o (outb_traps (ops j).op e))) in
        let same_byte : is_inb (ops j).op ≡ true → slice_get c.input p.position ≡ slice_get c.input q.position =
        λ e. ap (slice_get c.input)
        (across take_in c.state.position o.past h (one.position_is ops order c a j s o e) (one.position_is ops order c b j t o e)) in
        act_is a j s
        ∙ act_local (ops j) v w refl refl same_read (length c.state.memory) (nat_le c.limit (length p.output)) (nat_le c.limit (length q.output)) (slice_get c.input p.position) (slice_get c.input q.position) c.next same_full same_byte
        ∙ sym (act_is b j t)

    same_from : (pre post : List ℕ) → order ≡ onto pre post → Equal pre → Equal order
    same_from pre [] split h i m = elim (among_onto pre [] i (subst (Among i) split m)) [ inl k ↦ h i k | inr k ↦ elim k [ ] ]
    same_from pre (j ∷ post) split h i m =
        same_from (j ∷ pre) post split
        (λ k f. elim f [
          | inl e ↦ subst (λ n. a.acts n ≡ b.acts n) e (same_act j (record { past = pre; rest = post; split = split }) (subst (Among j) (sym split) (among_right pre (j ∷ post) j (inl refl))) h)
          | inr g ↦ h k g
        ]) i m

    same_acts : Equal order
    same_acts = same_from [] order refl (λ i m. elim m [ ])

    -- ---- both run through

    abbrev all : Course ops order c → List ℕ
    all r = one.all ops order c r

    same_all : Equal (onto order [])
    same_all k m = same_acts k (elim (among_onto order [] k m) [ inl f ↦ f | inr f ↦ elim f [ ] ])

    same_variable :
        (x : Cell) → is_constant (place_of x) ≡ false →
        value_after c.state (done a (all a)).writes x ≡ value_after c.state (done b (all b)).writes x
    same_variable x v =
        across (leave_at x) (entry_value c.state x) (onto order []) same_all (one.value_at_end ops order c a x v) (one.value_at_end ops order c b x v)

    same_value : (x : Cell) → value_after c.state (done a (all a)).writes x ≡ value_after c.state (done b (all b)).writes x
    same_value (At (General zero)) = refl
    same_value (At (General (suc n))) = same_variable (At (General (suc n))) refl
    same_value (At (Predicate zero)) = refl
    same_value (At (Predicate (suc n))) = same_variable (At (Predicate (suc n))) refl
    same_value (At (Target n)) = same_variable (At (Target n)) refl
    same_value (At Memory) = same_variable (At Memory) refl
    same_value (Byte n) = same_variable (Byte n) refl

    same_output : (done a (all a)).output ≡ (done b (all b)).output
    same_output = across put_out c.state.output (onto order []) same_all (one.output_at_end ops order c a) (one.output_at_end ops order c b)

    same_position : (done a (all a)).position ≡ (done b (all b)).position
    same_position = across take_in c.state.position (onto order []) same_all (one.position_at_end ops order c a) (one.position_at_end ops order c b)

    same_answer : HasOneBranch ops order → (done a (all a)).answer ≡ (done b (all b)).answer
    same_answer h = across answer_by GoOn (onto order []) same_all (one.answer_at_end ops order c a h) (one.answer_at_end ops order c b h)

    abbrev state_of : (Cell → ℕ) → List ℕ → ℕ → State
    state_of v out position =
        record {
          general = map (λ n. v (At (General n))) (range_with_len 0 32);
          predicates = map (λ n. is_set (v (At (Predicate n)))) (range_with_len 0 32);
          targets = map (λ n. v (At (Target n))) (range_with_len 0 8);
          memory = map (λ n. v (Byte n)) (range_with_len 0 (length c.state.memory));
          output = out;
          position = position;
        }

    same_state : state_after c.state (done a (all a)) ≡ state_after c.state (done b (all b))
    same_state =
        ap (λ v. state_of v (done a (all a)).output (done a (all a)).position) (fun_ext same_value)
        ∙ ap (λ o. state_of (value_after c.state (done b (all b)).writes) o (done a (all a)).position) same_output
        ∙ ap (λ n. state_of (value_after c.state (done b (all b)).writes) (done b (all b)).output n) same_position

  -- ---- a trap

  abbrev Stops : Course ops order c → Type 0
  Stops r = Runs.StopsAt ops r.timing c r.acts [] r.timing.listed

  by_ordered : (r : Course ops order c) (s : Stops r) → Among s.by order
  by_ordered r s = (r.keeps.complete.same s.by).1 (subst (Among s.by) (sym s.stand.split) (among_right s.stand.past (s.by ∷ s.stand.rest) s.by (inl refl)))

  -- the operation stands in the list at the place that the trap names
  placed : (r : Course ops order c) (s : Stops r) → slice_get r.timing.listed (length s.stand.past) ≡ Some s.by
  placed r s =
      ap (λ l. slice_get l (length s.stand.past)) s.stand.split
      ∙ onto_at s.stand.past (s.by ∷ s.stand.rest) 0 (length s.stand.past) (omega arith)

  trap_kind : (r : Course ops order c) (k : ℕ) (t : Trap) → (r.acts k).trap ≡ Some t → can_trap (ops k).op ≡ true
  trap_kind r k t e = go (can_trap (ops k).op) refl
    where
      go : (u : Bool) → can_trap (ops k).op ≡ u → u ≡ true
      go true f = refl
      go false f = absurd (none-some t (sym (act_trap (ops k) (r.acts k) (r.are k) f) ∙ e))

  -- no operation that traps stands in the order before the one that stops the run
  none_before :
      (r : Course ops order c) (s : Stops r) (k : ℕ) (t : Trap) → (r.acts k).trap ≡ Some t → Earlier order k s.by → ⊥
  none_before r s k t e f =
      let listed = one.kept_traps ops order c r k s.by f (trap_kind r k t e) (trap_kind r s.by s.trap s.traps) in
      none-some t (sym (s.none k (before_past r.timing.listed s.by s.stand r.keeps.timing.each_once k listed)) ∙ e)

  module _ (a b : Course ops order c) where
    same_trap : (k : ℕ) → Among k order → (a.acts k).trap ≡ (b.acts k).trap
    same_trap k m = ap (λ x. x.trap) (same_acts a b k m)

    same_by : (s : Stops a) (t : Stops b) → s.by ≡ t.by
    same_by s t = elim (which_earlier order s.by t.by (by_ordered a s) (by_ordered b t)) [
      | inl e ↦ e
      | inr (inl e) ↦ absurd (none_before b t s.by s.trap (sym (same_trap s.by (by_ordered a s)) ∙ s.traps) e)
      | inr (inr e) ↦ absurd (none_before a s t.by t.trap (same_trap t.by (by_ordered b t) ∙ t.traps) e)
    ]

    -- both stop at one operation; what stands before it in the order is equal
    module _ (j : ℕ) (o : Stand order j) (s : Stand a.timing.listed j) (t : Stand b.timing.listed j) (traps : can_trap (ops j).op ≡ true) where
      equal_before : Equal a b o.past
      equal_before k m = same_acts a b k (front_among order o.past (j ∷ o.rest) o.split k m)

      trap_output : (done a s.past).output ≡ (done b t.past).output
      trap_output = across a b put_out c.state.output o.past equal_before (one.output_is ops order c a j s o traps) (one.output_is ops order c b j t o traps)

      trap_byte :
          (n : ℕ) →
          value_after c.state (done a s.past).writes (Byte n) ≡ value_after c.state (done b t.past).writes (Byte n)
      trap_byte n =
          across a b (leave_at (Byte n)) (entry_value c.state (Byte n)) o.past equal_before (one.memory_is ops order c a j s o traps n) (one.memory_is ops order c b j t o traps n)

      trap_memory : memory_after c.state (done a s.past).writes ≡ memory_after c.state (done b t.past).writes
      trap_memory = ap (λ f. map f (range_with_len 0 (length c.state.memory))) (fun_ext trap_byte)

    abbrev Alike : Ran → Ran → Type 0
    Alike p q = EndsAlike a.timing.listed b.timing.listed (ending c.state p) (ending c.state q)

    both_stop :
        (s : Stops a) (t : Stops b) → Alike (Stopped s.trap (done a s.stand.past)) (Stopped t.trap (done b t.stand.past))
    both_stop s t =
        let e = same_by s t in
        let o = stand order s.by (by_ordered a s) in
        let traps = trap_kind a s.by s.trap s.traps in
        let u : Stand b.timing.listed s.by = record { past = t.stand.past; rest = t.stand.rest; split = t.stand.split ∙ ap (λ k. onto t.stand.past (k ∷ t.stand.rest)) (sym e) } in (
          same_Some s.trap t.trap (sym s.traps ∙ same_trap s.by (by_ordered a s) ∙ ap (λ k. (b.acts k).trap) e ∙ t.traps),
          (s.by, placed a s, placed b t ∙ ap Some (sym e)),
          trap_output s.by o s.stand u traps,
          trap_memory s.by o s.stand u traps,
        )

    abbrev ran : Course ops order c → Ran
    ran r = run c (timed_ops ops r.timing) (fresh c.state)

    alike : HasOneBranch ops order → Alike (ran a) (ran b)
    alike h = go (Runs.run_ends ops a.timing c a.acts a.does) (Runs.run_ends ops b.timing c b.acts b.does)
      where
        rewritten : (p q : Ran) → ran a ≡ p → ran b ≡ q → Alike p q → Alike (ran a) (ran b)
        rewritten p q e f k = subst (λ x. Alike x (ran b)) (sym e) (subst (λ x. Alike p x) (sym f) k)

        go :
            Runs.RunsThrough ops a.timing c a.acts [] a.timing.listed ⊎ Stops a →
            Runs.RunsThrough ops b.timing c b.acts [] b.timing.listed ⊎ Stops b → Alike (ran a) (ran b)
        go (inl p) (inl q) = rewritten (Through (done a (all a b a))) (Through (done b (all a b b))) p.is q.is (same_state a b, same_answer a b h)
        go (inr s) (inr t) = rewritten (Stopped s.trap (done a s.stand.past)) (Stopped t.trap (done b t.stand.past)) s.is t.is (both_stop s t)
        go (inl p) (inr t) = absurd (none-some t.trap (sym (p.none t.by (one.to_listed ops order c a t.by (by_ordered b t))) ∙ same_trap t.by (by_ordered b t) ∙ t.traps))
        go (inr s) (inl q) = absurd (none-some s.trap (sym (q.none s.by (one.to_listed ops order c b s.by (by_ordered a s))) ∙ sym (same_trap s.by (by_ordered a s)) ∙ s.traps))

pub timings_that_agree_do_the_same : TimingsThatAgreeDoTheSame
timings_that_agree_do_the_same ops order a b h c = alike ops order c (course ops order c a h.first) (course ops order c b h.second) h.branch
