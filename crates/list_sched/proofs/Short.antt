-- A schedule ends by 32 cycles an operation.
use Rattle.std.proofs.Common.{◌≡◌, ℕ, zero, suc, ◌+◌, ◌*◌, ◌≤◌, true, List, [], ◌∷◌, length, inl, inr, refl, ap, subst, ◌∙◌, arith}
use Rattle.std.specs.List.{count_by}
use Rattle.serial_order.specs.Lists.{Among}
use Rattle.list_sched.proofs.Counts.{count_cons, count_within}
use Rattle.list_sched.specs.Schedule.{Problem, IsProblem, ArePlaced}
use Rattle.list_sched.specs.Laws.{SchedulesAreShort}
use Rattle.list_sched.proofs.Places.{placed_once, inside_of}
use Rattle.list_sched.proofs.Outs.{below, lt_below}
use Rattle.list_sched.proofs.Close.{can_issue_far}

pub count_all : (l : List ℕ) → count_by (λ k. true) l ≡ length l
count_all [] = refl
count_all (x ∷ xs) = count_cons (λ k. true) x xs ∙ ap (λ n. 1 + n) (count_all xs) ∙ (omega arith)

pub length-below : (n : ℕ) → length (below n) ≡ n
length-below zero = refl
length-below (suc n) = ap suc (length-below n)

module _ (p : Problem) (ok : IsProblem p) (height cycle : ℕ → ℕ) where
  -- the nth operation is placed in one of the first 32 n cycles
  placed_soon : (past rest : List ℕ) → ArePlaced p height cycle past rest → ((k : ℕ) → Among k past → cycle k + 32 ≤ 32 * length past) → (k : ℕ) → Among k rest → cycle k + 32 ≤ 32 * (length past + length rest)
  placed_soon past [] a h k m = elim m [ ]
  placed_soon past (i ∷ rest) a h k m = go (λ b. placed_soon (i ∷ past) rest a.2 all k b) m
    where
      here : cycle i + 32 ≤ 32 * suc (length past)
      here = let l = a.1.least (32 * length past) (can_issue_far p ok cycle past i (32 * length past) a.0.ready.inside a.0.ready.after_all h) in omega arith

      all : (j : ℕ) → Among j (i ∷ past) → cycle j + 32 ≤ 32 * length (i ∷ past)
      all j (inl e) = subst (λ n. cycle n + 32 ≤ 32 * suc (length past)) e here
      all j (inr b) = let q = h j b in omega arith

      go : (Among k rest → cycle k + 32 ≤ 32 * (length (i ∷ past) + length rest)) → Among k (i ∷ rest) → cycle k + 32 ≤ 32 * (length past + length (i ∷ rest))
      go more (inl e) = let q : cycle k + 32 ≤ 32 * suc (length past) = subst (λ n. cycle n + 32 ≤ 32 * suc (length past)) e here in omega arith
      go more (inr b) = let q = more b in omega arith

pub schedules_are_short : SchedulesAreShort
schedules_are_short p s ok h =
    let r = h.reached in
    let a = h.complete r.0 r.1 in
    let c = placed_soon p ok h.height s.cycle [] s.order h.placed (λ k m. elim m [ ]) r.0 a in
    let l = (ok.machine.latency (p.kind r.0)).1 in
    let e = r.2 in
    let w = count_within (λ k. true) s.order (below p.count) (placed_once p h.height s.cycle [] s.order h.placed) (λ k m. lt_below p.count k (inside_of p h.height s.cycle [] s.order k h.placed m)) in
    let v = count_all s.order in
    let u = count_all (below p.count) in
    let z = length-below p.count in
    omega arith
