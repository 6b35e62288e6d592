-- What each operation of a schedule keeps when it is placed.
use Rattle.std.proofs.Common.{◌≡◌, ℕ, ◌+◌, ◌<◌, ◌≤◌, Bool, true, false, cond, List, [], ◌∷◌, inl, inr, refl, sym, ap, subst, Option, Some, None, arith}
use Rattle.std.specs.Prelude.{ℤ, pos, ◌+ℤ◌, ◌≤ℤ◌, IsSome, nat_eq, nat_le, nat_lt}
use Rattle.std.specs.List.{count_by}
use Rattle.machine_desc.proofs.SameUnit.{same_unit_is}
use Rattle.list_sched.proofs.Counts.{count_cons}
use Rattle.std.proofs.lemmas.Bool.{eqb-true, leb-true, ltb-true, and_parts}
use Rattle.serial_order.specs.Lists.{Among, Earlier, EachOnce}
use Rattle.list_sched.specs.Extremes.{IsLeast}
use Rattle.machine_desc.specs.Issue.{issuing, busy_on, is_busy, keeps_busy, same_unit}
use Rattle.operation.specs.declared.UnitKind.{UnitKind}
use Rattle.serial_order.proofs.Onto.{onto, earlier_across}
use Rattle.list_sched.specs.Schedule.{Problem, IsBefore, IsNext, CanIssue, ArePlaced, busy}
use Rattle.list_sched.proofs.Serial.{both_inside}
use Rattle.machine_desc.specs.Description.{units_of}
use Rattle.list_sched.specs.Laws.{SchedulesKeep}

pub has_delay : (o : Option ℤ) (d : ℤ) → o ≡ Some d → IsSome o
has_delay None d e = cc
has_delay (Some x) d e = refl

-- an operation's place among the others
pub record Place (p : Problem) (height cycle : ℕ → ℕ) (all : List ℕ) (i : ℕ) : Type 0 where
  pub past : List ℕ
  pub rest : List ℕ
  pub split : all ≡ onto past (i ∷ rest)
  pub next : IsNext p height past i
  pub least : IsLeast (CanIssue p cycle past i) (cycle i)

pub place_of : (p : Problem) (height cycle : ℕ → ℕ) (past rest : List ℕ) (i : ℕ) → ArePlaced p height cycle past rest → Among i rest → Place p height cycle (onto past rest) i
place_of p height cycle past [] i a m = elim m [ ]
place_of p height cycle past (k ∷ ks) i a (inl e) = record {
  past = past;
  rest = ks;
  split = ap (λ n. onto past (n ∷ ks)) e;
  next = subst (IsNext p height past) e a.0;
  least = subst (λ n. IsLeast (CanIssue p cycle past n) (cycle n)) e a.1;
}
place_of p height cycle past (k ∷ ks) i a (inr m) = place_of p height cycle (k ∷ past) ks i a.2 m

pub schedules_keep : SchedulesKeep
schedules_keep p s ok h = record { delays = delays; order = order }
  where
    at : (i j : ℕ) → IsBefore p i j → Place p h.height s.cycle s.order j
    at i j b = place_of p h.height s.cycle [] s.order j h.placed (h.complete j (both_inside p ok i j b).1)

    delays : (i j : ℕ) (d : ℤ) → p.delay i j ≡ Some d → (pos (s.cycle i) +ℤ d) ≤ℤ pos (s.cycle j)
    delays i j d e = (at i j (has_delay (p.delay i j) d e)).least.holds.delays i d e

    order : (i j : ℕ) → IsBefore p i j → Earlier s.order i j
    order i j b =
        let a = at i j b in
        subst (λ l. Earlier l i j) (sym a.split) (earlier_across a.past (j ∷ a.rest) i j (a.next.ready.after_all i b) (inl refl))

-- only operations of the problem are placed
pub inside_of : (p : Problem) (height cycle : ℕ → ℕ) (past rest : List ℕ) (i : ℕ) → ArePlaced p height cycle past rest → Among i rest → i < p.count
inside_of p height cycle past rest i a m = (place_of p height cycle past rest i a m).next.ready.inside

later_unplaced : (p : Problem) (height cycle : ℕ → ℕ) (past rest : List ℕ) (i : ℕ) → ArePlaced p height cycle past rest → Among i past → ¬ (Among i rest)
later_unplaced p height cycle past [] i a m h = elim h [ ]
later_unplaced p height cycle past (k ∷ ks) i a m (inl e) = a.0.ready.unplaced (subst (λ n. Among n past) (sym e) m)
later_unplaced p height cycle past (k ∷ ks) i a m (inr h) = later_unplaced p height cycle (k ∷ past) ks i a.2 (inr m) h

-- each operation is placed once
pub placed_once : (p : Problem) (height cycle : ℕ → ℕ) (past rest : List ℕ) → ArePlaced p height cycle past rest → EachOnce rest
placed_once p height cycle past [] a = tt
placed_once p height cycle past (k ∷ ks) a = (later_unplaced p height cycle (k ∷ past) ks k a.2 (inl refl), placed_once p height cycle (k ∷ past) ks a.2)

-- one more operation is counted where there was room for it
count_kept : (test : ℕ → Bool) (most k : ℕ) (past : List ℕ) → (test k ≡ true → count_by test past < most) → count_by test past ≤ most → count_by test (k ∷ past) ≤ most
count_kept test most k past room h = rw (count_cons test k past) (go (test k) room)
  where
    go : (b : Bool) → (b ≡ true → count_by test past < most) → cond b 1 0 + count_by test past ≤ most
    go true r = let l = r refl in omega arith
    go false r = omega arith

-- in no cycle a schedule has more operations than the width, or busy on a kind than its units
module _ (p : Problem) (height cycle : ℕ → ℕ) where
  pub width_kept : (past rest : List ℕ) → ArePlaced p height cycle past rest → (c : ℕ) → issuing cycle past c ≤ p.machine.width → issuing cycle (onto rest past) c ≤ p.machine.width
  width_kept past [] a c h = h
  width_kept past (k ∷ ks) a c h =
      width_kept (k ∷ past) ks a.2 c
      (count_kept (λ n. nat_eq (cycle n) c) p.machine.width k past (λ t. subst (λ n. issuing cycle past n < p.machine.width) (eqb-true (cycle k) c t) a.1.holds.room.width) h)

  pub units_kept : (past rest : List ℕ) → ArePlaced p height cycle past rest → (c : ℕ) (u : UnitKind) → busy_on p.unit u cycle (busy p) past c ≤ units_of p.machine u → busy_on p.unit u cycle (busy p) (onto rest past) c ≤ units_of p.machine u
  units_kept past [] a c u h = h
  units_kept past (k ∷ ks) a c u h =
      units_kept (k ∷ past) ks a.2 c u
      (count_kept (keeps_busy p.unit u cycle (busy p) c) (units_of p.machine u) k past
      (λ t.
      let e = and_parts (is_busy cycle (busy p) c k) (same_unit (p.unit k) u) t in
      let f = and_parts (nat_le (cycle k) c) (nat_lt c (cycle k + busy p k)) e.0 in
      let r = a.1.holds.room.units c (leb-true (cycle k) c f.0) (ltb-true c (cycle k + busy p k) f.1) in
      subst (λ v. busy_on p.unit v cycle (busy p) past c < units_of p.machine v) (same_unit_is (p.unit k) u e.1) r) h)
