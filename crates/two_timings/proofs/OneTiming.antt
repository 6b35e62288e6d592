-- What the operations of one timing find, and what they leave at the end or at a trap, is what the serial run says.
use Rattle.timed_meaning.specs.declared.Cell.{Cell}
use Rattle.timed_meaning.specs.declared.Cell.TheVariants.{At, Byte}
use Rattle.timed_meaning.specs.declared.Write.{Write}
use Rattle.std.proofs.Common.{◌≡◌, ◌≢◌, ℕ, zero, suc, ◌+◌, ◌<◌, ◌≤◌, Bool, true, false, List, [], ◌∷◌, ◌++◌, ◌⊎◌, inl, inr, refl, sym, ap, subst, ◌∙◌, Some, arith, append-nil}
use Rattle.std.specs.Prelude.{nat_le, filter}
use Rattle.std.proofs.lemmas.Bool.{leb-true, le-leb}
use Rattle.operation.specs.declared.Op.{Op}
use Rattle.operation.specs.declared.Op.TheVariants as op
use Rattle.operation.specs.declared.Guarded.{Guarded}
use Rattle.operation.specs.declared.LatKind.TheVariants as lat
use Rattle.operation.specs.declared.Place.{Place}
use Rattle.operation.specs.declared.Place.TheVariants.{General, Predicate, Target, Memory}
use Rattle.operation.specs.Places.{reads, writes, is_constant, are_wired_together, is_store, is_inb, is_branch, can_trap, latency_kind}
use Rattle.operation.proofs.PlaceLaws.{read_varies, writer_stores, store_traps}
use Rattle.timed_meaning.specs.Values.{State, entry_value, value_after, value_at, last_write, landed, written_or}
use Rattle.timed_meaning.specs.Block.{Start, Progress, Act, answered}
use Rattle.timed_meaning.specs.declared.Answer.TheVariants.{GoOn}
use Rattle.serial_order.specs.Lists.{Among, Earlier}
use Rattle.serial_order.proofs.Members.{earlier_right, among_filter, filter_among}
use Rattle.two_timings.specs.Timing.{Timing, HasOneBranch, lands}
use Rattle.two_timings.specs.Law.{IsTimingOf}
use Rattle.serial_order.proofs.Earlier.{earlier_left, never_both, distinct, which_earlier, filter_earlier, filter_same}
use Rattle.serial_order.proofs.Onto.{onto, among_left}
use Rattle.two_timings.proofs.Fronts.{onto_back, front_among, front_turn, front_once, front_back, Stand, past_before, before_or_after, before_past}
use Rattle.two_timings.proofs.Ordered.{both_trap, both_take}
use Rattle.two_timings.proofs.Effects.{own, place_of}
use Rattle.two_timings.proofs.Acts.{IsActOf, act_written, act_put, act_taken, act_answer, acts_together, no_trap_no_outb}
use Rattle.two_timings.proofs.Folds.{folded, put_out, take_in, answer_by, leave_at, folded_alike}
use Rattle.two_timings.proofs.Values.{gathered, landed_gathered, TakeTurns, settles}
use Rattle.two_timings.proofs.Runs

-- one timing, with what each operation does
pub record Course (ops : ℕ → Guarded) (order : List ℕ) (c : Start) : Type 0 where
  pub timing : Timing
  pub keeps : IsTimingOf ops order timing
  pub acts : ℕ → Act
  pub are : (k : ℕ) → IsActOf (ops k) (acts k)
  pub does : Runs.Does ops timing c acts [] timing.listed

abbrev pub course :
    (ops : ℕ → Guarded) (order : List ℕ) (c : Start) (t : Timing) → IsTimingOf ops order t → Course ops order c
course ops order c t h = record {
  timing = t;
  keeps = h;
  acts = Runs.acts_of ops t c;
  are = Runs.acts_are ops t c;
  does = Runs.acts_do ops t c h.timing.each_once;
}

-- ---- cells other than r0 and p0

value_after_is :
    (s : State) (ws : List Write) (x : Cell) → is_constant (place_of x) ≡ false →
    value_after s ws x ≡ written_or (entry_value s x) (last_write x ws)
value_after_is s ws (At (General zero)) h = cc
value_after_is s ws (At (General (suc n))) h = refl
value_after_is s ws (At (Predicate zero)) h = cc
value_after_is s ws (At (Predicate (suc n))) h = refl
value_after_is s ws (At (Target n)) h = refl
value_after_is s ws (At Memory) h = refl
value_after_is s ws (Byte a) h = refl

-- ---- stores

store_latency : (o : Op) → is_store o ≡ true → latency_kind o ≡ lat.Store
store_latency (op.Store size d s imm) h = refl
store_latency o h = cc

memory_or_not : (x : Place) → (x ≡ Memory) ⊎ (x ≢ Memory)
memory_or_not (General n) = inr (λ e. cc)
memory_or_not (Predicate n) = inr (λ e. cc)
memory_or_not (Target n) = inr (λ e. cc)
memory_or_not Memory = inl refl

module _ (ops : ℕ → Guarded) (order : List ℕ) (c : Start) (r : Course ops order c) where
  abbrev t : Timing
  t = r.timing

  abbrev pub done : List ℕ → Progress
  done ks = Runs.progress ops t c r.acts ks

  written : (x : Cell) (k u : ℕ) → own x (r.acts k).values ≡ Some u → writes (ops k).op (place_of x) ≡ true
  written x k u e = act_written (ops k) (r.acts k) (r.are k) x u e

  after_issue : (k : ℕ) → t.at k < lands ops t k
  after_issue k = omega (arith, r.keeps.timing.latencies (latency_kind (ops k).op))

  to_order : (k : ℕ) → Among k t.listed → Among k order
  to_order k a = (r.keeps.complete.same k).1 a

  pub to_listed : (k : ℕ) → Among k order → Among k t.listed
  to_listed k a = (r.keeps.complete.same k).0 a

  -- ---- operations of a kind that keep their order in the list

  abbrev Keeps : (ℕ → Bool) → Type 0
  Keeps p = (i k : ℕ) → Earlier order i k → p i ≡ true → p k ≡ true → Earlier t.listed i k

  abbrev traps : ℕ → Bool
  traps k = can_trap (ops k).op

  abbrev inputs : ℕ → Bool
  inputs k = is_inb (ops k).op

  abbrev branches : ℕ → Bool
  branches k = is_branch (ops k).op

  pub kept_traps : Keeps traps
  kept_traps i k e a b = r.keeps.agrees.listed i k e (inr (both_trap (ops i).op (ops k).op a b))

  kept_inputs : Keeps inputs
  kept_inputs i k e a b = r.keeps.agrees.listed i k e (inr (both_take (ops i).op (ops k).op a b))

  kept_branches : HasOneBranch ops order → Keeps branches
  kept_branches one i k e a b =
      absurd (distinct order i k r.keeps.complete.each_once e (one i k (earlier_left order i k e) (earlier_right order i k e) a b))

  kept_back : (p : ℕ → Bool) → Keeps p → (i k : ℕ) → p i ≡ true → p k ≡ true → Earlier t.listed i k → Earlier order i k
  kept_back p kept i k pi pk e = elim (which_earlier order i k (to_order i (earlier_left t.listed i k e)) (to_order k (earlier_right t.listed i k e))) [
    | inl f ↦ absurd (distinct t.listed i k r.keeps.timing.each_once e f)
    | inr (inl g) ↦ g
    | inr (inr g) ↦ absurd (never_both t.listed i k r.keeps.timing.each_once e (kept k i g pk pi))
  ]

  module _ (past rest pre post : List ℕ) (by_list : t.listed ≡ onto past rest) (by_order : order ≡ onto pre post) where
    -- those in a front of the timing are those in a front of the order, where they are the same numbers
    kind_same :
        (p : ℕ → Bool) → Keeps p → ((k : ℕ) → p k ≡ true → Among k past → Among k pre) →
        ((k : ℕ) → p k ≡ true → Among k pre → Among k past) → filter p past ≡ filter p pre
    kind_same p kept to from =
        filter_same p past pre (front_once t.listed past rest by_list r.keeps.timing.each_once) (front_once order pre post by_order r.keeps.complete.each_once) to from
        (λ i k pi pk e.
        front_back t.listed past rest by_list r.keeps.timing.each_once i k (from i pi (earlier_left pre i k e)) (from k pk (earlier_right pre i k e))
        (kept k i (front_turn order pre post by_order i k e) pk pi))

    -- operations that leave a value in one cell take turns
    turns :
        (ks : List ℕ) → ((i j : ℕ) → Earlier ks i j → Earlier past i j) → (x : Cell) (i j u v : ℕ) → Earlier pre j i →
        own x (r.acts i).values ≡ Some u → own x (r.acts j).values ≡ Some v → TakeTurns (lands ops t) ks i j u v
    turns ks within x i j u v e a b = go (memory_or_not (place_of x)) (are_wired_together (ops i).op (ops j).op (place_of x)) refl
      where
        first : Earlier order i j
        first = front_turn order pre post by_order j i e

        stores : (k w : ℕ) → place_of x ≡ Memory → own x (r.acts k).values ≡ Some w → is_store (ops k).op ≡ true
        stores k w m f = writer_stores (ops k).op (subst (λ p. writes (ops k).op p ≡ true) m (written x k w f))

        store_lands : (k : ℕ) → is_store (ops k).op ≡ true → lands ops t k ≡ t.at k + t.latency lat.Store
        store_lands k s = ap (λ l. t.at k + t.latency l) (store_latency (ops k).op s)

        go :
            (place_of x ≡ Memory) ⊎ (place_of x ≢ Memory) → (w : Bool) →
            are_wired_together (ops i).op (ops j).op (place_of x) ≡ w → TakeTurns (lands ops t) ks i j u v
        go (inl m) w f =
            let si = stores i u m a in
            let sj = stores j v m b in
            let l = r.keeps.agrees.listed i j first (inl (si, sj)) in
            let at : t.at i ≤ t.at j = r.keeps.timing.never_fall i j l in
            let le : lands ops t i ≤ lands ops t j = omega (arith, store_lands i si, store_lands j sj) in
            inr (inr (le, λ g. never_both t.listed i j r.keeps.timing.each_once l (front_turn t.listed past rest by_list i j (within i j g))))
        go (inr m) true f = inr (inl (acts_together (ops i) (ops j) (r.acts i) (r.acts j) (r.are i) (r.are j) x u v f a b))
        go (inr m) false f = inl (r.keeps.agrees.in_turn i j (place_of x) first (record { place = m; first = written x i u a; second = written x j v b; apart = f }))

    -- the values in a cell that some operations of a front leave are those of a front of the order
    settled :
        (ks : List ℕ) → ((i j : ℕ) → Earlier ks i j → Earlier past i j) → (x : Cell) →
        ((k u : ℕ) → own x (r.acts k).values ≡ Some u → Among k ks → Among k pre) →
        ((k u : ℕ) → own x (r.acts k).values ≡ Some u → Among k pre → Among k ks) →
        written_or (entry_value c.state x) (last_write x (gathered r.acts (lands ops t) ks)) ≡ folded (leave_at x) r.acts (entry_value c.state x) pre
    settled ks within x to from = settles r.acts (lands ops t) x (entry_value c.state x) ks pre to from (turns ks within x)

    -- so are output, input position and answer
    output_same : filter traps past ≡ filter traps pre → (done past).output ≡ folded put_out r.acts c.state.output pre
    output_same e = folded_alike put_out r.acts traps (λ k h y. ap (λ o. y ++ o) (act_put (ops k) (r.acts k) (r.are k) (no_trap_no_outb (ops k).op h)) ∙ append-nil y) c.state.output past pre e

    position_same :
        filter inputs past ≡ filter inputs pre → (done past).position ≡ folded take_in r.acts c.state.position pre
    position_same e = folded_alike take_in r.acts inputs (λ k h y. omega (arith, act_taken (ops k) (r.acts k) (r.are k) h)) c.state.position past pre e

    answer_same : filter branches past ≡ filter branches pre → (done past).answer ≡ folded answer_by r.acts GoOn pre
    answer_same e = folded_alike answer_by r.acts branches (λ k h y. ap (answered y) (act_answer (ops k) (r.acts k) (r.are k) h)) GoOn past pre e

  -- ---- before an operation

  module _ (j : ℕ) (s : Stand t.listed j) (o : Stand order j) where
    abbrev Same : ℕ → Type 0
    Same k = (Among k s.past → Among k o.past) × (Among k o.past → Among k s.past)

    -- of a kind that j is of, those before j are the same
    kind_before : (p : ℕ → Bool) → Keeps p → p j ≡ true → (k : ℕ) → p k ≡ true → Same k
    kind_before p kept pj k pk = (
      (λ a. before_past order j o r.keeps.complete.each_once k (kept_back p kept k j pk pj (past_before t.listed j s k a))),
      (λ a. before_past t.listed j s r.keeps.timing.each_once k (kept k j (past_before order j o k a) pk pj)),
    )

    kind_same_before : (p : ℕ → Bool) → Keeps p → p j ≡ true → filter p s.past ≡ filter p o.past
    kind_same_before p kept pj =
        kind_same s.past (j ∷ s.rest) o.past (j ∷ o.rest) s.split o.split p kept (λ k pk. (kind_before p kept pj k pk).0) (λ k pk. (kind_before p kept pj k pk).1)

    pub output_is : traps j ≡ true → (done s.past).output ≡ folded put_out r.acts c.state.output o.past
    output_is h = output_same s.past (j ∷ s.rest) o.past (j ∷ o.rest) s.split o.split (kind_same_before traps kept_traps h)

    pub position_is : inputs j ≡ true → (done s.past).position ≡ folded take_in r.acts c.state.position o.past
    position_is h = position_same s.past (j ∷ s.rest) o.past (j ∷ o.rest) s.split o.split (kind_same_before inputs kept_inputs h)

    -- what j reads
    pub read_is :
        (x : Cell) → reads (ops j) (place_of x) ≡ true →
        value_at c.state (done s.past).writes (t.at j) x ≡ folded (leave_at x) r.acts (entry_value c.state x) o.past
    read_is x h =
        value_after_is c.state (landed (t.at j) (done s.past).writes) x (read_varies (ops j) (place_of x) h)
        ∙ ap (λ ws. written_or (entry_value c.state x) (last_write x ws)) (landed_gathered r.acts (lands ops t) (t.at j) s.past)
        ∙ settled s.past (j ∷ s.rest) o.past (j ∷ o.rest) s.split o.split (filter in_time s.past) (filter_earlier in_time s.past) x to from
      where
        in_time : ℕ → Bool
        in_time k = nat_le (lands ops t k) (t.at j)

        not_itself : (k : ℕ) → lands ops t k ≤ t.at j → j ≢ k
        not_itself k le e = let lt = subst (λ n. t.at n < lands ops t k) (sym e) (after_issue k) in omega arith

        to : (k u : ℕ) → own x (r.acts k).values ≡ Some u → Among k (filter in_time s.past) → Among k o.past
        to k u e a =
            let f = filter_among in_time s.past k a in
            let le : lands ops t k ≤ t.at j = leb-true _ _ f.1 in
            elim (before_or_after order j o k (to_order k (front_among t.listed s.past (j ∷ s.rest) s.split k f.0))) [
              | inl b ↦ b
              | inr (inl g) ↦ absurd (not_itself k le g)
              | inr (inr g) ↦ absurd (let lt : t.at j < lands ops t k = r.keeps.agrees.old_read j k (place_of x) g h (written x k u e) in omega arith)
            ]

        from : (k u : ℕ) → own x (r.acts k).values ≡ Some u → Among k o.past → Among k (filter in_time s.past)
        from k u e a =
            let le : lands ops t k ≤ t.at j = r.keeps.agrees.new_read k j (place_of x) (past_before order j o k a) (written x k u e) h in
            let there : Among k s.past = elim (before_or_after t.listed j s k (to_listed k (front_among order o.past (j ∷ o.rest) o.split k a))) [
              | inl b ↦ b
              | inr (inl g) ↦ absurd (not_itself k le g)
              | inr (inr g) ↦ absurd (let fall : t.at j ≤ t.at k = r.keeps.timing.never_fall j k g in omega (arith, after_issue k))
            ] in
            among_filter in_time s.past k (le-leb _ _ le) there

    -- the memory before j, where j can trap
    pub memory_is :
        traps j ≡ true → (a : ℕ) →
        value_after c.state (done s.past).writes (Byte a) ≡ folded (leave_at (Byte a)) r.acts (entry_value c.state (Byte a)) o.past
    memory_is h a =
        settled s.past (j ∷ s.rest) o.past (j ∷ o.rest) s.split o.split s.past (λ i k e. e) (Byte a)
        (λ k u e. (kind_before traps kept_traps h k (leaves_traps k u e)).0)
        (λ k u e. (kind_before traps kept_traps h k (leaves_traps k u e)).1)
      where
        leaves_traps : (k u : ℕ) → own (Byte a) (r.acts k).values ≡ Some u → traps k ≡ true
        leaves_traps k u e = store_traps (ops k).op (writer_stores (ops k).op (written (Byte a) k u e))

  -- ---- at the end

  abbrev pub all : List ℕ
  all = onto t.listed []

  abbrev last_first : List ℕ
  last_first = onto order []

  end_to : (k : ℕ) → Among k all → Among k last_first
  end_to k a = among_left order [] k (to_order k (front_among t.listed all [] (sym (onto_back t.listed [])) k a))

  end_from : (k : ℕ) → Among k last_first → Among k all
  end_from k a = among_left t.listed [] k (to_listed k (front_among order last_first [] (sym (onto_back order [])) k a))

  kind_at_end : (p : ℕ → Bool) → Keeps p → filter p all ≡ filter p last_first
  kind_at_end p kept = kind_same all [] last_first [] (sym (onto_back t.listed [])) (sym (onto_back order [])) p kept (λ k pk. end_to k) (λ k pk. end_from k)

  pub output_at_end : (done all).output ≡ folded put_out r.acts c.state.output last_first
  output_at_end = output_same all [] last_first [] (sym (onto_back t.listed [])) (sym (onto_back order [])) (kind_at_end traps kept_traps)

  pub position_at_end : (done all).position ≡ folded take_in r.acts c.state.position last_first
  position_at_end = position_same all [] last_first [] (sym (onto_back t.listed [])) (sym (onto_back order [])) (kind_at_end inputs kept_inputs)

  pub answer_at_end : HasOneBranch ops order → (done all).answer ≡ folded answer_by r.acts GoOn last_first
  answer_at_end one = answer_same all [] last_first [] (sym (onto_back t.listed [])) (sym (onto_back order [])) (kind_at_end branches (kept_branches one))

  pub value_at_end :
      (x : Cell) → is_constant (place_of x) ≡ false →
      value_after c.state (done all).writes x ≡ folded (leave_at x) r.acts (entry_value c.state x) last_first
  value_at_end x v =
      value_after_is c.state (done all).writes x v
      ∙ settled all [] last_first [] (sym (onto_back t.listed [])) (sym (onto_back order [])) all (λ i k e. e) x (λ k u e. end_to k) (λ k u e. end_from k)
