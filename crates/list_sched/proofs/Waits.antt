-- Placing one operation after another: who waits, for how long, and who goes next.
use Rattle.std.proofs.Common.{◌≡◌, ◌≢◌, ℕ, ◌+◌, ◌<◌, ◌≤◌, Bool, true, false, ◌&&◌, not, List, [], ◌∷◌, ◌++◌, length, ◌⊎◌, inl, inr, refl, sym, ap, subst, ◌∙◌, arith, Some}
use Rattle.std.specs.Prelude.{slice_index, nat_eq, nat_lt, ℤ, pos, ◌+ℤ◌, ◌≤ℤ◌}
use Rattle.std.proofs.lemmas.Int.{ints}
use Rattle.std.proofs.lemmas.Bool.{cases_lt, cases_eq, cases_Bool, ne_eqb, eq-eqb, lt-ltb, le-ltb, eqb-true, and_parts, false≢true}
use Rattle.std.proofs.lemmas.List.Elements.{All-contains}
use Rattle.operation.specs.declared.UnitKind.{UnitKind}
use Rattle.operation.specs.declared.UnitKind.TheVariants as unit
use Rattle.operation.specs.declared.LatKind.{LatKind}
use Rattle.machine_desc.specs.Description.{Description}
use Rattle.machine_desc.specs.Issue.{same_unit}
use Rattle.machine_desc.proofs.SameUnit.{same_unit_is}
use Rattle.serial_order.specs.Lists.{Among, has}
use Rattle.serial_order.specs.Counts.{waiting, one_where}
use Rattle.serial_order.proofs.Counting.{one_true, count_placed, zero_all, positive_one}
use Rattle.serial_order.proofs.Members.{has_among, not_among, not_has, among_push, among_left as among_kept, among_last, has_push_same, has_push_other}
use Rattle.serial_order.proofs.Onto.{among_left}
use Rattle.block_links.specs.declared.links.Link.{Link}
use Rattle.block_links.specs.declared.links.Links.{Links}
use Rattle.block_links.specs.Links.{row, delay_of, delay_along}
use Rattle.block_links.proofs.Rows.{at_most, one_has, along_linked, counted_linked, linked_counted}
use Rattle.block_links.proofs.Counted.{links_of}
use Rattle.list_sched.specs.Extremes.{IsLeast}
use Rattle.list_sched.specs.Schedule.{Problem, IsProblem, IsNext, IsReady, ArePlaced, IsBefore}
use Rattle.list_sched.specs.Given.{unit_in, latency_in}
use Rattle.list_sched.specs.Links.{linked}
use Rattle.list_sched.specs.Steps.{IsHeldBack}
use Rattle.list_sched.specs.Queue.{Entry, IsQueue, AreFreed, IsFirst, IsBranchLeft, entries_of, is_branch, can_go, is_freed}
use Rattle.list_sched.proofs.Exists.{next_of}
use Rattle.list_sched.proofs.Places.{has_delay, place_of}
use Rattle.list_sched.proofs.Serial.{both_inside}
use Rattle.list_sched.proofs.Steps.{some_left}
use Rattle.list_sched.proofs.Queues.{entry_inside}
use Rattle.list_sched.proofs.Plans.{Allowed}

-- ---- tests

pub branch_is : (u : UnitKind) → same_unit u unit.B ≡ true → u ≡ unit.B
branch_is u e = same_unit_is u unit.B e

pub is_branch_of : (u : UnitKind) → u ≡ unit.B → same_unit u unit.B ≡ true
is_branch_of u e = rw e refl

not_false : (b : Bool) → not b ≡ true → b ≡ false
not_false true e = absurd (let k : ⊥ = cc in k)
not_false false e = refl

-- how many entries an operation should have
abbrev pub due : List (UnitKind × LatKind) → (waits order : List ℕ) → ℕ → ℕ
due kinds waits order j = one_where (not (has j order) && can_go kinds waits j)

-- ---- the state

pub record IsWaiting (l : Links) (kinds : List (UnitKind × LatKind)) (g : Description) (heights order cycle waits least : List ℕ) (queue : List Entry) : Type 0 where
  pub waits_size : length waits ≡ length kinds
  pub least_size : length least ≡ length kinds
  pub counted : (j : ℕ) → slice_index waits j ≡ waiting (links_of l) order j (length kinds)
  pub bound : (k j : ℕ) (d : ℤ) → Among k order → delay_along (latency_in kinds g) l k j ≡ Some d → (pos (slice_index cycle k) +ℤ d) ≤ℤ pos (slice_index least j)
  pub tight : (j m : ℕ) → ((k : ℕ) (d : ℤ) → Among k order → delay_along (latency_in kinds g) l k j ≡ Some d → (pos (slice_index cycle k) +ℤ d) ≤ℤ pos m) → slice_index least j ≤ m
  pub queued : IsQueue heights queue
  pub entries : (j : ℕ) → j < length kinds → entries_of queue j ≡ due kinds waits order j

module _ (l : Links) (kinds : List (UnitKind × LatKind)) (g : Description) (ok : IsProblem (linked l kinds g)) (heights order cycle : List ℕ)
    (placed : ArePlaced (linked l kinds g) (slice_index heights) (slice_index cycle) [] order)
    (waits least : List ℕ) (queue : List Entry) (s : IsWaiting l kinds g heights order cycle waits least queue) where
  abbrev p : Problem
  p = linked l kinds g

  abbrev h : ℕ → ℕ
  h = slice_index heights

  abbrev n : ℕ
  n = length kinds

  -- links lead from one operation to another exactly where it is before it
  before_counted : (k j : ℕ) → IsBefore p k j → 0 < links_of l k j
  before_counted k j b = linked_counted (row l k) j (sym (along_linked (latency_in kinds g) l k j) ∙ b)

  counted_before : (k j : ℕ) → 0 < links_of l k j → IsBefore p k j
  counted_before k j more = along_linked (latency_in kinds g) l k j ∙ counted_linked (row l k) j more

  -- an operation waits exactly for those before it that aren't placed
  pub after_all : (j : ℕ) → slice_index waits j ≡ 0 → (k : ℕ) → IsBefore p k j → Among k order
  after_all j z k b = zero_all (links_of l) order j n (sym (s.counted j) ∙ z) k (both_inside p ok k j b).0 (before_counted k j b)

  pub waits_none : (j : ℕ) → ((k : ℕ) → IsBefore p k j → Among k order) → slice_index waits j ≡ 0
  waits_none j f = s.counted j ∙ go (cases_lt 0 (waiting (links_of l) order j n))
    where
      go : (0 < waiting (links_of l) order j n) ⊎ (waiting (links_of l) order j n ≤ 0) → waiting (links_of l) order j n ≡ 0
      go (inl more) = absurd (let q = positive_one (links_of l) order j n more in q.3 (f q.0 (counted_before q.0 j q.2)))
      go (inr none) = omega arith

  -- those that are placed wait for none
  pub placed_none : (j : ℕ) → Among j order → slice_index waits j ≡ 0
  placed_none j a =
      let at = place_of p h (slice_index cycle) [] order j placed a in
      waits_none j (λ k b. subst (Among k) (sym at.split) (among_left at.past (j ∷ at.rest) k (at.next.ready.after_all k b)))

  -- an operation can go where it can be placed, the branch excepted
  pub ready_due : (j : ℕ) → IsReady p order j → is_branch kinds j ≡ false → due kinds waits order j ≡ 1
  ready_due j r b = let z = waits_none j r.after_all in rw (not_has j order r.unplaced, eq-eqb (slice_index waits j) 0 z, b) refl

  due_parts : (j : ℕ) → 0 < due kinds waits order j → (Among j order → ⊥) × (slice_index waits j ≡ 0) × (is_branch kinds j ≡ false)
  due_parts j more =
      let t = and_parts (not (has j order)) (can_go kinds waits j) (one_true (not (has j order) && can_go kinds waits j) more) in
      let u = and_parts (nat_eq (slice_index waits j) 0) (not (is_branch kinds j)) t.1 in
      (not_among j order (not_false (has j order) t.0), eqb-true (slice_index waits j) 0 u.0, not_false (is_branch kinds j) u.1)

  entries_due : (size : length heights ≡ n) (j : ℕ) → 0 < entries_of queue j → (j < n) × (0 < due kinds waits order j)
  entries_due size j more =
      let lt : j < n = (let q = entry_inside heights queue s.queued j more in omega arith) in
      (lt, (let e = s.entries j lt in omega arith))

  -- where the queue is empty the branch is left, if anything is
  pub branch_left : length order < n → ((j : ℕ) → entries_of queue j ≡ 0) → (b : ℕ) × (b < n) × (unit_in kinds b ≡ unit.B)
  branch_left few none =
      let u = some_left n order few in
      let q = next_of p ok order h u.0 u.1 u.2 in
      elim (cases_Bool (is_branch kinds q.0)) [
        | inl b ↦ (q.0, q.1.ready.inside, branch_is (unit_in kinds q.0) b)
        | inr f ↦ absurd (
            let d = ready_due q.0 q.1.ready f in
            let e = s.entries q.0 q.1.ready.inside in
            let z = none q.0 in
            omega arith)
      ]

  -- what can be placed, and isn't the branch, is in the queue
  in_queue : (k : ℕ) → IsReady p order k → is_branch kinds k ≡ false → 0 < entries_of queue k
  in_queue k r f = let d = ready_due k r f in let e = s.entries k r.inside in omega arith

  -- the first of the queue goes next
  pub first_next : (size : length heights ≡ n) (new : List Entry) (i : ℕ) → IsFirst heights queue new i → IsNext p h order i
  first_next size new i f = record { ready = ready; first = λ k r. first k r (cases_Bool (is_branch kinds k)) }
    where
      more : 0 < entries_of queue i
      more = let e = f.more i in let one = ap one_where (eq-eqb i i refl) in omega arith

      d : (i < n) × (0 < due kinds waits order i)
      d = entries_due size i more

      parts : (Among i order → ⊥) × (slice_index waits i ≡ 0) × (is_branch kinds i ≡ false)
      parts = due_parts i d.1

      no_branch : unit_in kinds i ≡ unit.B → ⊥
      no_branch e = false≢true (sym parts.2 ∙ is_branch_of (unit_in kinds i) e)

      ready : IsReady p order i
      ready = record { inside = d.0; unplaced = parts.0; after_all = after_all i parts.1; branch_last = λ b. absurd (no_branch b) }

      first : (k : ℕ) → IsReady p order k → (is_branch kinds k ≡ true) ⊎ (is_branch kinds k ≡ false) → (h k < h i) ⊎ ((h k ≡ h i) × (i ≤ k))
      first k r (inr g) = f.first k (in_queue k r g)
      first k r (inl b) =
          let branch = branch_is (unit_in kinds k) b in
          absurd (parts.0 (r.branch_last branch i d.0 (λ e. no_branch (ap (unit_in kinds) e ∙ branch))))

  -- and where the queue is empty the branch
  pub branch_next : length order < n → (new : List Entry) (i : ℕ) → IsBranchLeft kinds queue new i → IsNext p h order i
  branch_next few new i b =
      let u = some_left n order few in
      let q = next_of p ok order h u.0 u.1 u.2 in
      elim (cases_Bool (is_branch kinds q.0)) [
        | inl t ↦ subst (IsNext p h order) (ok.one_branch q.0 i q.1.ready.inside b.inside (branch_is (unit_in kinds q.0) t) b.branch) q.1
        | inr f ↦ absurd (let d = in_queue q.0 q.1.ready f in let z = b.empty q.0 in omega arith)
      ]

  -- so what is taken next can be placed next
  pub goes_next : (size : length heights ≡ n) → length order < n → (new : List Entry) (i : ℕ) → IsFirst heights queue new i ⊎ IsBranchLeft kinds queue new i → IsNext p h order i
  goes_next size few new i (inl f) = first_next size new i f
  goes_next size few new i (inr b) = branch_next few new i b

  -- the least cycle that the delays allow
  pub least_allowed : (i : ℕ) → IsNext p h order i → IsLeast (Allowed p (slice_index cycle) i) (slice_index least i)
  least_allowed i next = record {
    holds = λ k d e. s.bound k i d (next.ready.after_all k (has_delay (delay_along (latency_in kinds g) l k i) d e)) e;
    least = λ m f. s.tight i m (λ k d a e. f k d e);
  }

  module _ (i : ℕ) (next : IsNext p h order i) where
    lt : i < n
    lt = next.ready.inside

    placing : (j : ℕ) → waiting (links_of l) (order ++ i ∷ []) j n + links_of l i j ≡ waiting (links_of l) order j n
    placing j = count_placed (links_of l) order i j n next.ready.unplaced lt

    -- what is taken off was counted
    pub enough : (j : ℕ) → links_of l i j ≤ slice_index waits j
    enough j = let c = placing j in let w = s.counted j in omega arith

    module _ (size : length heights ≡ n) (mid : List Entry) (popped : IsFirst heights queue mid i ⊎ IsBranchLeft kinds queue mid i) where
      -- the others keep their entries
      others_stay : (j : ℕ) → j ≢ i → entries_of mid j ≡ entries_of queue j
      others_stay j ne = elim popped [
        | inl f ↦ (let e = f.more j in let z = ap one_where (ne_eqb i j (λ q. ne (sym q))) in omega arith)
        | inr b ↦ ap (λ q. entries_of q j) b.same
      ]

      itself_gone : entries_of mid i ≡ 0
      itself_gone = elim popped [
        | inl f ↦ (let e = f.more i in let z = ap one_where (eq-eqb i i refl) in let o = s.queued.once i in omega arith)
        | inr b ↦ ap (λ q. entries_of q i) b.same ∙ b.empty i
      ]

      fewer : (j : ℕ) → entries_of mid j ≤ entries_of queue j
      fewer j = elim (cases_eq j i) [
        | inl e ↦ subst (λ k. entries_of mid k ≤ entries_of queue k) (sym e) (let z = itself_gone in omega arith)
        | inr ne ↦ (let o = others_stay j ne in omega arith)
      ]

      -- those in the queue wait for none
      pub idle : (j : ℕ) → 0 < entries_of mid j → slice_index waits j ≡ 0
      idle j more =
          let f = fewer j in
          let d = entries_due size j (omega arith) in
          (due_parts j d.1).1

      module _ (waits' : List ℕ) (size' : length waits' ≡ length waits) (off : (j : ℕ) → slice_index waits' j + links_of l i j ≡ slice_index waits j)
          (queue' : List Entry) (queued' : IsQueue heights queue') (freed : AreFreed kinds waits waits' mid queue')
          (least' : List ℕ) (c : ℕ) (held : IsHeldBack (delay_of (latency_in kinds g) i) (row l i) c least least')
          (cycle' : List ℕ) (agree : (k : ℕ) → Among k order → slice_index cycle k ≡ slice_index cycle' k) (here : slice_index cycle' i ≡ c) where
        abbrev order' : List ℕ
        order' = order ++ i ∷ []

        entries' : (j : ℕ) → j < n → entries_of queue' j ≡ due kinds waits' order' j
        entries' j below = freed j (let z = s.waits_size in omega arith) ∙ go (cases_eq j i) (cases_lt 0 (slice_index waits j)) (cases_Bool (has j order))
          where
            go : (j ≡ i) ⊎ (j ≡ i → ⊥) → (0 < slice_index waits j) ⊎ (slice_index waits j ≤ 0) → (has j order ≡ true) ⊎ (has j order ≡ false) →
                entries_of mid j + one_where (is_freed kinds waits waits' j) ≡ due kinds waits' order' j
            go (inl e) w m =
                let z : slice_index waits i ≡ 0 = waits_none i next.ready.after_all in
                let gone : entries_of mid j ≡ 0 = subst (λ k. entries_of mid k ≡ 0) (sym e) itself_gone in
                let still : nat_lt 0 (slice_index waits j) ≡ false = le-ltb 0 (slice_index waits j) (let q = ap (slice_index waits) e in omega arith) in
                let placed : has j order' ≡ true = subst (λ k. has k order' ≡ true) (sym e) (has_push_same order i) in
                rw (gone, still, placed) refl
            go (inr ne) (inr none) m =
                let z : slice_index waits j ≡ 0 = omega arith in
                let z' : slice_index waits' j ≡ 0 = (let o = off j in omega arith) in
                let still : nat_lt 0 (slice_index waits j) ≡ false = le-ltb 0 (slice_index waits j) none in
                rw (still, has_push_other order i j ne, z') (let o = others_stay j ne in let e = s.entries j below in let d = ap (λ v. one_where (not (has j order) && (nat_eq v 0 && not (is_branch kinds j)))) z in omega arith)
            go (inr ne) (inl some) (inl m) = absurd (let z = placed_none j (has_among j order m) in omega arith)
            go (inr ne) (inl some) (inr m) =
                let waits_still : nat_eq (slice_index waits j) 0 ≡ false = ne_eqb (slice_index waits j) 0 (λ e. omega arith) in
                let none : entries_of mid j ≡ 0 = others_stay j ne ∙ (s.entries j below ∙ (rw (m, waits_still) refl)) in
                rw (none, has_push_other order i j ne, m, lt-ltb 0 (slice_index waits j) some) (omega arith)

        pub next_waiting : IsWaiting l kinds g heights order' cycle' waits' least' queue'
        next_waiting = record {
          waits_size = size' ∙ s.waits_size;
          least_size = held.size ∙ s.least_size;
          counted = λ j. let o = off j in let w = s.counted j in let c = placing j in omega arith;
          bound = λ k j d a e. elim (among_push order i k a) [
            | inl b ↦ (let q = s.bound k j d b e in let m = held.kept j in let f = agree k b in omega (arith, ints))
            | inr same ↦
                (let r = one_has (latency_in kinds g) i (row l i) j d (subst (λ x. delay_along (latency_in kinds g) l x j ≡ Some d) (sym same) e) in
                let b = All-contains (λ (x : Link). (delay_of (latency_in kinds g) i x +ℤ pos c) ≤ℤ pos (slice_index least' x.to)) (row l i) r.0 held.above r.1 in
                let b' = subst (λ m. (delay_of (latency_in kinds g) i r.0 +ℤ pos c) ≤ℤ pos (slice_index least' m)) r.2 b in
                let f = ap (slice_index cycle') (sym same) ∙ here in
                let g = r.3 in
                omega (arith, ints))
          ];
          tight = λ j m f. elim (held.one j) [
            | inl e ↦ (let q = s.tight j m (λ k d a g. let x = f k d (among_before k a) g in let y = agree k a in omega (arith, ints)) in omega arith)
            | inr r ↦
                (let most = at_most (latency_in kinds g) i (row l i) r.0 r.1 in
                let x = f i most.0 (among_new) (subst (λ t. delay_along (latency_in kinds g) l i t ≡ Some most.0) r.2 most.1) in
                let e = r.3 in let le = most.2 in let y = here in
                omega (arith, ints))
          ];
          queued = queued';
          entries = entries';
        }
          where
            among_before : (k : ℕ) → Among k order → Among k order'
            among_before k a = among_kept order i k a

            among_new : Among i order'
            among_new = among_last order i

-- nothing is placed
pub no_waiting : (l : Links) (kinds : List (UnitKind × LatKind)) (g : Description) (heights cycle waits least : List ℕ) (queue : List Entry) → length waits ≡ length kinds → length least ≡ length kinds →
    ((j : ℕ) → slice_index waits j ≡ waiting (links_of l) [] j (length kinds)) → ((j : ℕ) → slice_index least j ≡ 0) → IsQueue heights queue →
    ((j : ℕ) → j < length kinds → entries_of queue j ≡ one_where (can_go kinds waits j)) → IsWaiting l kinds g heights [] cycle waits least queue
no_waiting l kinds g heights cycle waits least queue a b counted zero queued entries = record {
  waits_size = a;
  least_size = b;
  counted = counted;
  bound = λ k j d m. elim m [ ];
  tight = λ j m f. let z = zero j in omega arith;
  queued = queued;
  entries = entries;
}
