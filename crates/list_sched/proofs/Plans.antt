-- Placing one operation after another: what holds of cycles and slots after each step.
use Rattle.std.proofs.Common.{◌≡◌, ◌≢◌, ℕ, ◌+◌, ◌*◌, ◌<◌, ◌≤◌, Bool, cond, ◌&&◌, List, [], ◌∷◌, ◌++◌, length, ◌⊎◌, inl, inr, refl, sym, ap, subst, ◌∙◌, arith, get_or-set_other, get_or-set_same, Some}
use Rattle.std.specs.Prelude.{slice_index, slice_set, nat_eq, nat_le, nat_lt, count_by, ℤ, pos, ◌+ℤ◌, ◌≤ℤ◌}
use Rattle.std.proofs.lemmas.Int.{ints}
use Rattle.std.proofs.lemmas.Bool.{cases_lt, cases_eq, ne_eqb, eq-eqb}
use Rattle.std.proofs.lemmas.List.{length-set}
use Rattle.std.proofs.lemmas.List.Sums.{sum_by-append}
use Rattle.operation.specs.declared.UnitKind.{UnitKind}
use Rattle.operation.specs.declared.UnitKind.TheVariants as unit
use Rattle.operation.specs.Places.{unit_number}
use Rattle.machine_desc.specs.Description.{Description}
use Rattle.machine_desc.specs.Issue.{issuing, busy_on, keeps_busy, same_unit}
use Rattle.machine_desc.specs.Ranges.{unit_below}
use Rattle.serial_order.specs.Lists.{Among, EachOnce}
use Rattle.serial_order.proofs.Members.{among_push, among_left, among_last}
use Rattle.list_sched.specs.Extremes.{IsLeast}
use Rattle.list_sched.specs.Schedule.{Problem, IsProblem, IsSchedule, IsNext, CanIssue, ArePlaced, AreHeights, latency, busy, IsBranch}
use Rattle.list_sched.specs.Slots.{Slots, cycles as cycle_count, busy_in, HasRoomFor, IsTaken}
use Rattle.list_sched.specs.Steps.{IsStart}
use Rattle.list_sched.proofs.Counts.{count_agree}
use Rattle.list_sched.proofs.Close.{can_issue_far}
use Rattle.list_sched.proofs.Places.{has_delay, inside_of, placed_once}
use Rattle.list_sched.proofs.Steps.{placed_step, soon_step, all_there}

-- ---- counts

count_push : (p : ℕ → Bool) (xs : List ℕ) (x : ℕ) → count_by p (xs ++ x ∷ []) ≡ count_by p xs + cond (p x) 1 0
count_push p xs x = let e = sum_by-append (λ y. cond (p y) 1 0) xs (x ∷ []) in e ∙ (omega arith)

-- ---- the state

-- a cycle is from one on, before another
abbrev pub is_from : (from before t : ℕ) → Bool
is_from from before t = nat_le from t && nat_lt t before

pub record IsPlan (p : Problem) (h : ℕ → ℕ) (order cycle : List ℕ) (slots : Slots) (end : ℕ) : Type 0 where
  pub cycles : length cycle ≡ p.count
  pub small : (k : ℕ) → slice_index cycle k ≤ 16384
  pub schedule : ArePlaced p h (slice_index cycle) [] order
  pub soon : (k : ℕ) → Among k order → slice_index cycle k + 32 ≤ 32 * length order
  pub size : 32 * p.count ≤ cycle_count slots
  pub size_busy : 160 * p.count ≤ length slots.busy
  pub all : (c : ℕ) → c < 32 * p.count → slice_index slots.issued c ≡ issuing (slice_index cycle) order c
  pub each : (c : ℕ) (u : UnitKind) → c < 32 * p.count → busy_in slots c u ≡ busy_on p.unit u (slice_index cycle) (busy p) order c
  pub lands : (k : ℕ) → Among k order → slice_index cycle k + latency p k ≤ end
  pub reached : (end ≡ 0) ⊎ ((k : ℕ) × Among k order × (slice_index cycle k + latency p k ≡ end))

-- each delay lets i issue in cycle c
abbrev pub Allowed : Problem → (ℕ → ℕ) → ℕ → ℕ → Type 0
Allowed p cycle i c = (k : ℕ) (d : ℤ) → p.delay k i ≡ Some d → (pos (cycle k) +ℤ d) ≤ℤ pos c

-- where there is room for an operation, from one cycle on up to another
pub record IsRoom (g : Description) (slots : Slots) (u : UnitKind) (busy from last c : ℕ) : Type 0 where
  pub within : (from ≤ c) × (c ≤ last)
  pub room : c < last → HasRoomFor g slots u busy c
  pub full : (m : ℕ) → from ≤ m → m < c → HasRoomFor g slots u busy m → ⊥

module _ (p : Problem) (ok : IsProblem p) (h : ℕ → ℕ) (order cycle : List ℕ) (slots : Slots) (end : ℕ) (s : IsPlan p h order cycle slots end) where
  abbrev at : ℕ → ℕ
  at k = slice_index cycle k

  abbrev last : ℕ
  last = 32 * length order

  -- each operation is placed once, and there is one that isn't
  pub once : EachOnce order
  once = placed_once p h at [] order s.schedule

  pub there_inside : (k : ℕ) → Among k order → k < p.count
  there_inside k a = inside_of p h at [] order k s.schedule a

  -- where all are placed
  pub done : AreHeights p h → length order ≡ p.count → IsSchedule p (record { order = order; cycle = at; end = end })
  done high whole = record {
    height = h;
    heights = high;
    complete = there;
    placed = s.schedule;
    ends = λ k lt. s.lands k (there k lt);
    reached = elim s.reached [
      | inr r ↦ (r.0, there_inside r.0 r.1, r.2)
      | inl z ↦ absurd (let l = s.lands 0 (there 0 ok.some) in let m = (ok.machine.latency (p.kind 0)).0 in omega arith)
    ];
  }
    where
      there : (k : ℕ) → k < p.count → Among k order
      there = all_there p.count order once there_inside whole

  module _ (i : ℕ) (next : IsNext p h order i) (few : length order < p.count) where
    -- it is busy for 1 to 32 cycles
    pub short : busy p i ≤ 32
    short = let b = (ok.machine.busy (p.kind i)).1 in let l = (ok.machine.latency (p.kind i)).1 in omega arith

    pub some : 1 ≤ busy p i
    some = (ok.machine.busy (p.kind i)).0

    pub inside : i < p.count
    inside = next.ready.inside

    module _ (least : ℕ) (is_least : IsLeast (Allowed p at i) least) (from : ℕ) (st : IsStart (p.unit i) (latency p i) least end from) where
      -- it can issue behind all
      pub early : from ≤ last
      early = st.least last
          (is_least.least last (λ k d e. let a = s.soon k (next.ready.after_all k (has_delay (p.delay k i) d e)) in let m = ok.short k i d e in omega (arith, ints)))
          (λ b. elim s.reached [
            | inl z ↦ omega arith
            | inr r ↦ (let a = s.soon r.0 r.1 in let l = (ok.machine.latency (p.kind r.0)).1 in let e = r.2 in omega arith)
          ])

      module _ (c : ℕ) (r : IsRoom p.machine slots (p.unit i) (busy p i) from last c) where
        within : c < 32 * p.count
        within = let w = r.within.1 in omega arith

        holds : CanIssue p at order i c
        holds = elim (cases_lt c last) [
          | inl lt ↦ (let free = r.room lt in let a = s.all c within in record {
            room = record {
              width = let w = free.width in omega arith;
              units = λ t from before. let e = s.each t (p.unit i) (let b = short in omega arith) in let w = free.units t from before in omega arith;
            };
            delays = λ k d q. let b = is_least.holds k d q in let a = st.allowed in let w = r.within.0 in omega (arith, ints);
            lands_last = λ b k q. let l = s.lands k q in let m = st.last b in let w = r.within.0 in omega arith;
          })
          | inr ge ↦ subst (CanIssue p at order i) (let w = r.within.1 in let le : last ≤ c = ge in omega arith) (can_issue_far p ok at order i last inside next.ready.after_all s.soon)
        ]

        pub can_issue : IsLeast (CanIssue p at order i) c
        can_issue = record {
          holds = holds;
          least = λ m q. elim (cases_lt m c) [
            | inl lt ↦ absurd (r.full m (st.least m (is_least.least m q.delays) (ends m q.lands_last)) lt (record {
              width = let a = s.all m (let w = within in omega arith) in let w = q.room.width in omega arith;
              units = λ t from before. let a = s.each t (p.unit i) (let b = short in let w = r.within.1 in omega arith) in let w = q.room.units t from before in omega arith;
            }))
            | inr h ↦ h
          ];
        }
          where
            ends : (m : ℕ) → (IsBranch p i → (k : ℕ) → Among k order → at k + latency p k ≤ m + latency p i) → p.unit i ≡ unit.B → end ≤ m + latency p i
            ends m q b = elim s.reached [ inl z ↦ omega arith | inr r ↦ (let a = q b r.0 r.1 in let e = r.2 in omega arith) ]

        -- the slots have room there
        pub has_room : HasRoomFor p.machine slots (p.unit i) (busy p i) c
        has_room = record {
          width = let a = s.all c within in let w = holds.room.width in omega arith;
          units = λ t from before. let a = s.each t (p.unit i) (let b = short in let w = r.within.1 in omega arith) in let w = holds.room.units t from before in omega arith;
        }

        -- ---- the next state

        module _ (slots' : Slots) (taken : IsTaken slots slots' (p.unit i) (busy p i) c)
            (end' : ℕ) (first : end ≤ end') (second : c + latency p i ≤ end') (one : (end' ≡ end) ⊎ (end' ≡ c + latency p i)) where
          abbrev cycle' : List ℕ
          cycle' = slice_set cycle i c

          abbrev at' : ℕ → ℕ
          at' k = slice_index cycle' k

          pub others : (k : ℕ) → k ≢ i → at k ≡ at' k
          others k ne = sym (get_or-set_other' k ne)
            where
              get_or-set_other' : (k : ℕ) → k ≢ i → at' k ≡ at k
              get_or-set_other' k ne = rw get_or-set_other

          pub here : at' i ≡ c
          here = let lt : i < length cycle = (let z = s.cycles in let q = inside in omega arith) in rw get_or-set_same

          pub agree : (k : ℕ) → Among k order → at k ≡ at' k
          agree k a = others k (λ e. next.ready.unplaced (subst (λ m. Among m order) e a))

          small' : (k : ℕ) → at' k ≤ 16384
          small' k = elim (cases_eq k i) [
            | inl e ↦ (let q = ap at' e in let w = here in let f = ok.few in let v = within in omega arith)
            | inr ne ↦ (let q = others k ne in let w = s.small k in omega arith)
          ]

          -- one more in the cycle
          more : (m : ℕ) → issuing at' (order ++ i ∷ []) m ≡ issuing at order m + cond (nat_eq c m) 1 0
          more m =
              count_push (λ k. nat_eq (at' k) m) order i
              ∙ ap (λ t. t + cond (nat_eq (at' i) m) 1 0) (count_agree (λ k. nat_eq (at' k) m) (λ k. nat_eq (at k) m) order (λ k a. ap (λ t. nat_eq t m) (sym (agree k a))))
              ∙ ap (λ t. issuing at order m + cond (nat_eq t m) 1 0) here

          more_on : (u : UnitKind) (m : ℕ) → busy_on p.unit u at' (busy p) (order ++ i ∷ []) m ≡ busy_on p.unit u at (busy p) order m + cond (is_from c (c + busy p i) m && same_unit (p.unit i) u) 1 0
          more_on u m =
              count_push (keeps_busy p.unit u at' (busy p) m) order i
              ∙ ap (λ t. t + cond ((nat_le (at' i) m && nat_lt m (at' i + busy p i)) && same_unit (p.unit i) u) 1 0) (count_agree (keeps_busy p.unit u at' (busy p) m) (keeps_busy p.unit u at (busy p) m) order (λ k a. ap (λ t. (nat_le t m && nat_lt m (t + busy p k)) && same_unit (p.unit k) u) (sym (agree k a))))
              ∙ ap (λ t. busy_on p.unit u at (busy p) order m + cond ((nat_le t m && nat_lt m (t + busy p i)) && same_unit (p.unit i) u) 1 0) here

          abbrev issued : List ℕ
          issued = slots.issued

          abbrev issued' : List ℕ
          issued' = slice_set issued c (slice_index issued c + 1)

          all_then : (m : ℕ) → m < 32 * p.count → slice_index issued' m ≡ issuing at' (order ++ i ∷ []) m
          all_then m lt = elim (cases_eq m c) [
            | inl e ↦ subst (λ k. slice_index issued' k ≡ issuing at' (order ++ i ∷ []) k) (sym e) (
                let there : c < length issued = (let z = s.size in let w = within in omega arith) in
                let a = s.all c within in
                let b = more c in
                let one : cond {A = ℕ} (nat_eq c c) 1 0 ≡ 1 = ap (λ t. cond {A = ℕ} t 1 0) (eq-eqb c c refl) in
                let w : slice_index issued' c ≡ slice_index issued c + 1 = rw get_or-set_same in
                omega arith)
            | inr ne ↦
                (let a = s.all m lt in
                let b = more m in
                let none : cond {A = ℕ} (nat_eq c m) 1 0 ≡ 0 = ap (λ t. cond {A = ℕ} t 1 0) (ne_eqb c m (λ e. ne (sym e))) in
                let w : slice_index issued' m ≡ slice_index issued m = rw get_or-set_other in
                omega arith)
          ]

          all' : (m : ℕ) → m < 32 * p.count → slice_index slots'.issued m ≡ issuing at' (order ++ i ∷ []) m
          all' m lt = ap (λ l. slice_index l m) taken.issued ∙ all_then m lt

          each' : (m : ℕ) (u : UnitKind) → m < 32 * p.count → busy_in slots' m u ≡ busy_on p.unit u at' (busy p) (order ++ i ∷ []) m
          each' m u lt =
              let there : m * 5 + unit_number u < length slots.busy = (let z = s.size_busy in let b = unit_below u in omega arith) in
              let a = s.each m u lt in
              let b = more_on u m in
              let w = taken.busier m u there in
              omega arith

          pub next_plan : IsPlan p h (order ++ i ∷ []) cycle' slots' end'
          next_plan = record {
            cycles = length-set cycle i c ∙ s.cycles;
            small = small';
            schedule = placed_step p ok h at at' order i c others here s.schedule next can_issue;
            soon = soon_step p ok h at at' order i c others here next.ready.unplaced r.within.1 s.soon;
            size = let same = ap length taken.issued ∙ length-set issued c (slice_index issued c + 1) in let z = s.size in omega arith;
            size_busy = let same = taken.size in let z = s.size_busy in omega arith;
            all = all';
            each = each';
            lands = λ k a. elim (cases_eq k i) [
              | inl e ↦ subst (λ m. at' m + latency p m ≤ end') (sym e) (let q = here in omega arith)
              | inr ne ↦ (let q = others k ne in let l = s.lands k (before_push k ne a) in omega arith)
            ];
            reached = ends one;
          }
            where
              before_push : (k : ℕ) → k ≢ i → Among k (order ++ i ∷ []) → Among k order
              before_push k ne a = elim (among_push order i k a) [ inl b ↦ b | inr e ↦ absurd (ne (sym e)) ]

              ends : (end' ≡ end) ⊎ (end' ≡ c + latency p i) → (end' ≡ 0) ⊎ ((k : ℕ) × Among k (order ++ i ∷ []) × (at' k + latency p k ≡ end'))
              ends (inr e) = inr (i, among_last order i, (let q = here in omega arith))
              ends (inl e) = elim s.reached [
                | inl z ↦ inl (e ∙ z)
                | inr r ↦ inr (r.0, among_left order i r.0 r.1, (let q = agree r.0 r.1 in let w = r.2 in omega arith))
              ]

-- nothing is placed
pub no_plan : (p : Problem) (h : ℕ → ℕ) (cycle : List ℕ) (slots : Slots) → length cycle ≡ p.count → ((k : ℕ) → slice_index cycle k ≡ 0) →
    32 * p.count ≤ cycle_count slots → length slots.busy ≡ cycle_count slots * 5 →
    ((c : ℕ) → c < 32 * p.count → slice_index slots.issued c ≡ 0) → ((u : UnitKind) (c : ℕ) → c < 32 * p.count → busy_in slots c u ≡ 0) → IsPlan p h [] cycle slots 0
no_plan p h cycle slots cs cz size each issued busy = record {
  cycles = cs;
  small = λ k. let z = cz k in omega arith;
  schedule = tt;
  soon = λ k m. elim m [ ];
  size = size;
  size_busy = omega arith;
  all = issued;
  each = λ c u lt. busy u c lt;
  lands = λ k m. elim m [ ];
  reached = inl refl;
}
