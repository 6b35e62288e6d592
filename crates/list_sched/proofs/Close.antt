-- The used cycles of a schedule are close.
use Rattle.std.proofs.Common.{◌≡◌, ◌≢◌, ℕ, zero, suc, ◌+◌, ◌-◌, ◌<◌, ◌≤◌, Bool, false, List, [], ◌∷◌, ◌⊎◌, inl, inr, refl, sym, subst, arith}
use Rattle.std.specs.Prelude.{nat_eq}
use Rattle.std.specs.List.{count_by}
use Rattle.std.proofs.lemmas.Bool.{cases_lt, cases_eq, ne_eqb, and_left, and_right, le-ltb}
use Rattle.std.proofs.lemmas.Int.{ints}
use Rattle.serial_order.specs.Lists.{Among}
use Rattle.machine_desc.specs.Issue.{issuing, busy_on}
use Rattle.list_sched.specs.Extremes.{IsLeast}
use Rattle.serial_order.proofs.Onto.{onto, among_left, among_onto}
use Rattle.list_sched.specs.Schedule.{Problem, IsBefore, Schedule, IsProblem, IsSchedule, CanIssue, ArePlaced, busy}
use Rattle.list_sched.specs.Laws.{IsUsed, IsClose, SchedulesAreClose}
use Rattle.list_sched.proofs.Places.{has_delay, inside_of}

-- a test that no listed number passes
pub count_none : (test : ℕ → Bool) (l : List ℕ) → ((k : ℕ) → Among k l → test k ≡ false) → count_by test l ≡ 0
count_none test [] h = refl
count_none test (x ∷ xs) h = rw (h x (inl refl)) (count_none test xs (λ k a. h k (inr a)))

-- an operation among these issues at or less than 32 cycles before t
abbrev Near : (ℕ → ℕ) → List ℕ → ℕ → Type 0
Near cycle l t = (k : ℕ) × Among k l × (cycle k ≤ t) × (t < cycle k + 32)

near_or_far : (cycle : ℕ → ℕ) (l : List ℕ) (t : ℕ) → Near cycle l t ⊎ ((k : ℕ) → Among k l → (t < cycle k) ⊎ (cycle k + 32 ≤ t))
near_or_far cycle [] t = inr (λ k a. elim a [ ])
near_or_far cycle (x ∷ xs) t = go (cases_lt t (cycle x)) (cases_lt t (cycle x + 32)) (near_or_far cycle xs t)
  where
    more : (t < cycle x) ⊎ (cycle x + 32 ≤ t) → ((k : ℕ) → Among k xs → (t < cycle k) ⊎ (cycle k + 32 ≤ t)) → (k : ℕ) → Among k (x ∷ xs) → (t < cycle k) ⊎ (cycle k + 32 ≤ t)
    more f g k (inl e) = subst (λ n. (t < cycle n) ⊎ (cycle n + 32 ≤ t)) e f
    more f g k (inr a) = g k a

    go : (t < cycle x) ⊎ (cycle x ≤ t) → (t < cycle x + 32) ⊎ (cycle x + 32 ≤ t) → Near cycle xs t ⊎ ((k : ℕ) → Among k xs → (t < cycle k) ⊎ (cycle k + 32 ≤ t)) → Near cycle (x ∷ xs) t ⊎ ((k : ℕ) → Among k (x ∷ xs) → (t < cycle k) ⊎ (cycle k + 32 ≤ t))
    go p q (inl n) = inl (n.0, inr n.1, n.2, n.3)
    go (inr p) (inl q) (inr f) = inl (x, inl refl, p, q)
    go (inl p) q (inr f) = inr (more (inl p) f)
    go (inr p) (inr q) (inr f) = inr (more (inr q) f)

-- each cycle up to one in which an operation issues is near
abbrev pub Covered : (ℕ → ℕ) → List ℕ → Type 0
Covered cycle l = (t k : ℕ) → Among k l → t ≤ cycle k → Near cycle l t

module _ (p : Problem) (ok : IsProblem p) (cycle : ℕ → ℕ) where
  -- an operation can issue 32 cycles after all of the past
  pub can_issue_far : (past : List ℕ) (i c : ℕ) → i < p.count → ((k : ℕ) → IsBefore p k i → Among k past) → ((k : ℕ) → Among k past → cycle k + 32 ≤ c) → CanIssue p cycle past i c
  can_issue_far past i c inside after far = record {
    room = record {
      width = let none : issuing cycle past c ≡ 0 = count_none (λ k. nat_eq (cycle k) c) past apart in let w = ok.machine.width.0 in rw none w;
      units = λ t from before.
          let none : busy_on p.unit (p.unit i) cycle (busy p) past t ≡ 0 = count_none _ past (λ k a. and_left _ _ (and_right _ _ (le-ltb t (cycle k + busy p k) (let f = far k a in let l = (ok.machine.latency (p.kind k)).1 in let b = (ok.machine.busy (p.kind k)).1 in omega arith)))) in
          rw none (ok.units i inside);
    };
    delays = λ k d e. let b = far k (after k (has_delay (p.delay k i) d e)) in let m = ok.short k i d e in omega (arith, ints);
    lands_last = λ b k a. let f = far k a in let l = (ok.machine.latency (p.kind k)).1 in omega arith;
  }
    where
      apart : (k : ℕ) → Among k past → nat_eq (cycle k) c ≡ false
      apart k a = let f = far k a in ne_eqb (cycle k) c (omega arith)

  covered_more : (past : List ℕ) (i : ℕ) → Covered cycle past → i < p.count → ((k : ℕ) → IsBefore p k i → Among k past) → IsLeast (CanIssue p cycle past i) (cycle i) → Covered cycle (i ∷ past)
  covered_more past i cov inside after least t k (inr a) le = let n = cov t k a le in (n.0, inr n.1, n.2, n.3)
  covered_more past i cov inside after least t k (inl e) le = elim (cases_eq t (cycle i)) [
    | inl f ↦ (i, inl refl, omega arith, omega arith)
    | inr f ↦ go (lt f) (near_or_far cycle past t)
  ]
    where
      lt : t ≢ cycle i → t < cycle i
      lt f = let le' : t ≤ cycle i = subst (λ n. t ≤ cycle n) (sym e) le in omega arith

      go : t < cycle i → Near cycle past t ⊎ ((j : ℕ) → Among j past → (t < cycle j) ⊎ (cycle j + 32 ≤ t)) → Near cycle (i ∷ past) t
      go h (inl n) = (n.0, inr n.1, n.2, n.3)
      go h (inr f) = absurd (step (cycle i) least h)
        where
          far : (j : ℕ) → Among j past → cycle j + 32 ≤ t
          far j a = elim (f j a) [
            | inl g ↦ absurd (let n = cov t j a (omega arith) in let m = f n.0 n.1 in omega arith)
            | inr g ↦ g
          ]

          step : (c : ℕ) → IsLeast (CanIssue p cycle past i) c → t < c → ⊥
          step zero l g = omega arith
          step (suc c) l g = let b = l.least c (can_issue_far past i c inside after (λ j a. let q = far j a in omega arith)) in omega arith

  covered_all : (height : ℕ → ℕ) (past rest : List ℕ) → ArePlaced p height cycle past rest → Covered cycle past → Covered cycle (onto rest past)
  covered_all height past [] a cov = cov
  covered_all height past (i ∷ rest) a cov =
      covered_all height (i ∷ past) rest a.2 (covered_more past i cov a.0.ready.inside a.0.ready.after_all a.1)

-- the cycles that a schedule uses
module _ (p : Problem) (s : Schedule) (ok : IsProblem p) (h : IsSchedule p s) where
  covered : Covered s.cycle s.order
  covered t k a le =
      let n = covered_all p ok s.cycle h.height [] s.order h.placed (λ t' k' a'. elim a' [ ]) t k (among_left s.order [] k a) le in
      (n.0, back n.0 n.1, n.2, n.3)
    where
      back : (i : ℕ) → Among i (onto s.order []) → Among i s.order
      back i m = elim (among_onto s.order [] i m) [ inl b ↦ b | inr b ↦ elim b [ ] ]

  used : (i : ℕ) → Among i s.order → IsUsed s (s.cycle i)
  used i a = (i, a, refl)

  pub schedule_is_close : IsClose s
  schedule_is_close = record {
    first =
        let n = covered 0 0 (h.complete 0 ok.some) (omega arith) in
        (n.0, n.1, omega arith);
    next = λ a b u v lt none. next a b v lt none;
    last = λ a u most. (
      (let i = h.ends u.0 (inside u.0 u.1) in let l = (ok.machine.latency (p.kind u.0)).0 in omega arith),
      (let r = h.reached in let m = most (s.cycle r.0) (r.0, h.complete r.0 r.1, refl) in let l = (ok.machine.latency (p.kind r.0)).1 in omega arith),
    );
  }
    where
      inside : (i : ℕ) → Among i s.order → i < p.count
      inside i a = inside_of p h.height s.cycle [] s.order i h.placed a

      next : (a b : ℕ) → IsUsed s b → a < b → ((c : ℕ) → a < c → c < b → ¬ (IsUsed s c)) → b ≤ a + 32
      next a b v lt none = elim (cases_lt (a + 32) b) [
        | inl g ↦ absurd (let n = covered (b - 1) v.0 v.1 (omega arith) in none (s.cycle n.0) (omega arith) (omega arith) (n.0, n.1, refl))
        | inr g ↦ g
      ]

pub schedules_are_close : SchedulesAreClose
schedules_are_close p s ok h = schedule_is_close p s ok h
