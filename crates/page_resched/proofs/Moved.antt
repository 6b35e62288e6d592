-- The times of a block's schedule keep the rules, and "before" is the same relation among its operations.
use Rattle.std.proofs.Common.{◌≡◌, ◌≢◌, ℕ, ◌<◌, ◌≤◌, Bool, List, [], inl, inr, refl, sym, ◌∙◌, arith, true, IsTrue}
use Rattle.std.specs.Prelude.{◌↔◌, nat_eq, Option, ℤ}
use Rattle.std.specs.List.{count_by}
use Rattle.std.proofs.lemmas.Bool.{false≢true}
use Rattle.operation.specs.declared.Guarded.{Guarded}
use Rattle.operation.specs.declared.Place.{Place}
use Rattle.operation.specs.declared.Place.TheVariants.{Memory}
use Rattle.operation.specs.declared.UnitKind.{UnitKind}
use Rattle.operation.specs.declared.UnitKind.TheVariants as unit
use Rattle.operation.specs.declared.Op.{Op}
use Rattle.operation.specs.declared.Op.TheVariants as op
use Rattle.operation.specs.Places.{reads, writes, is_branch, unit_kind, latency_kind}
use Rattle.operation.proofs.PlaceLaws.{store_writes, load_reads}
use Rattle.machine_desc.specs.Description.{Description, units_of, latency_of}
use Rattle.serial_order.specs.Lists.{Among, Earlier}
use Rattle.two_timings.specs.Timing.{Timing, lands, IsOrderOf, KeepListOrder, LandApart, BothWriteAt}
use Rattle.two_timings.specs.Before.{Before, Read, ReadOld, Write, Load, LoadOld, Stores, Issue}
use Rattle.serial_order.proofs.Earlier.{never_both}
use Rattle.two_timings.proofs.Ordered.{keep-flip}
use Rattle.two_timings.proofs.Conflicts.{read_way, old_way, write_way, list_way, wired-flip, read_before}
use Rattle.machine_desc.specs.Issue.{issuing, busy_on, keeps_busy}
use Rattle.list_sched.specs.Schedule.{Schedule, Problem, IsProblem, IsSchedule, busy}
use Rattle.list_sched.specs.Laws.{Keeps}
use Rattle.serial_order.proofs.Onto.{onto, among_left}
use Rattle.list_sched.proofs.Counts.{count_within}
use Rattle.list_sched.proofs.Places.{schedules_keep, placed_once, inside_of, width_kept, units_kept}
use Rattle.list_sched.proofs.Last.{branches_are_last}
use Rattle.page_resched.specs.Block.{IsListing, timing_in}
use Rattle.page_resched.proofs.Settings.{AreDelays, KeepsTimes, IsMoved}
use Rattle.page_resched.proofs.Kept

-- the branch is what needs the unit B
pub branch_unit : (o : Op) → is_branch o ≡ true → unit_kind o ≡ unit.B
branch_unit (op.Bru s) h = refl
branch_unit (op.Brct d s) h = refl
branch_unit (op.Brcf d s) h = refl
branch_unit (op.Brl d s) h = refl
branch_unit (op.Halt s) h = refl
branch_unit _ h = absurd (false≢true h)

pub unit_branch : (o : Op) → unit_kind o ≡ unit.B → is_branch o ≡ true
unit_branch (op.Bru s) h = refl
unit_branch (op.Brct d s) h = refl
unit_branch (op.Brcf d s) h = refl
unit_branch (op.Brl d s) h = refl
unit_branch (op.Halt s) h = refl
unit_branch _ h = cc

-- what is scheduled of some operations
abbrev pub problem_of : (ℕ → Guarded) → ℕ → (ℕ → ℕ → Option ℤ) → Description → Problem
problem_of ops n d g = record { count = n; delay = d; unit = λ k. unit_kind (ops k).op; kind = λ k. latency_kind (ops k).op; machine = g }

-- a block that keeps the rules, with its delays under a generation by which it can be scheduled
pub record IsBlock (ops : ℕ → Guarded) (t : Timing) (end : ℕ) (g : Description) (n : ℕ) (d : ℕ → ℕ → Option ℤ) : Type 0 where
  pub numbers : (k : ℕ) → Among k t.listed ↔ (k < n)
  pub times : KeepsTimes ops t end
  pub are : AreDelays ops t (latency_of g) d
  pub ok : IsProblem (problem_of ops n d g)

module _ (ops : ℕ → Guarded) (t : Timing) (end : ℕ) (g : Description) (n : ℕ) (d : ℕ → ℕ → Option ℤ) (s : Schedule) (listed : List ℕ)
    (b : IsBlock ops t end g n d) (h : IsSchedule (problem_of ops n d g) s) (ls : IsListing s listed) where
  abbrev p : Problem
  p = problem_of ops n d g

  abbrev new : Timing
  new = timing_in g s listed

  pub keeps : Keeps p s
  keeps = schedules_keep p s b.ok h

  pub full : IsOrderOf s.order t.listed
  full = record {
    each_once = placed_once p h.height s.cycle [] s.order h.placed;
    same = λ k. (λ m. (b.numbers k).1 (inside_of p h.height s.cycle [] s.order k h.placed m), λ m. h.complete k ((b.numbers k).0 m));
  }

  to_old : (k : ℕ) → Among k listed → Among k t.listed
  to_old k m = (full.same k).0 ((ls.complete.same k).0 m)

  to_new : (k : ℕ) → Among k t.listed → Among k listed
  to_new k m = (ls.complete.same k).1 ((full.same k).1 m)

  inside : (k : ℕ) → Among k listed → k < n
  inside k m = (b.numbers k).0 (to_old k m)

  apart : LandApart ops t
  apart = b.times.landing

  -- ---- the relation

  module _ (i j : ℕ) (a : Among i t.listed) (c : Among j t.listed) (ne : i ≢ j) where
    abbrev kept_value : (q : Before ops t i j) (x : Place) → IsTrue (writes (ops i).op x) → IsTrue (reads (ops j) x) → lands ops new i ≤ s.cycle j
    kept_value = Kept.new_value ops t g p s listed b.are full keeps ls i j a c ne

    abbrev kept_old : (q : Before ops t i j) (x : Place) → IsTrue (reads (ops i) x) → IsTrue (writes (ops j).op x) → s.cycle i < lands ops new j
    kept_old = Kept.old_value ops t g p s listed b.are full keeps ls i j a c ne

    abbrev kept_last : (q : Before ops t i j) (x : Place) → BothWriteAt (ops i).op (ops j).op x → lands ops new i < lands ops new j
    kept_last = Kept.last_value ops t g p s listed b.are full keeps ls i j a c ne

    abbrev kept_list : (q : Before ops t i j) → KeepListOrder (ops i).op (ops j).op → Earlier listed i j
    kept_list = Kept.list_order ops t g p s listed b.are full keeps ls i j a c ne

    to_moved : Before ops t i j → Before ops new i j
    to_moved (Read x m w r f) = Read x m w r (kept_value (Read x m w r f) x w r)
    to_moved (ReadOld x m r w f) = ReadOld x m r w (kept_old (ReadOld x m r w f) x r w)
    to_moved (Write x w f) = Write x w (kept_last (Write x w f) x w)
    to_moved (Load u v f) = Load u v (kept_value (Load u v f) Memory (store_writes (ops i).op u) (load_reads (ops j).op v))
    to_moved (LoadOld u v f) = LoadOld u v (kept_old (LoadOld u v f) Memory (load_reads (ops i).op u) (store_writes (ops j).op v))
    to_moved (Stores u v e) = Stores u v (kept_list (Stores u v e) (inl (u, v)))
    to_moved (Issue k e) = Issue k (kept_list (Issue k e) (inr k))

  module _ (i j : ℕ) (a : Among i t.listed) (c : Among j t.listed) (ne : i ≢ j) where
    back : j ≢ i
    back f = ne (sym f)

    turned : (x : Place) → BothWriteAt (ops i).op (ops j).op x → BothWriteAt (ops j).op (ops i).op x
    turned x w = record { place = w.place; first = w.second; second = w.first; apart = wired-flip (ops j).op (ops i).op x ∙ w.apart }

    new_back : (x : Place) → IsTrue (writes (ops i).op x) → IsTrue (reads (ops j) x) → lands ops new i ≤ s.cycle j → Before ops t i j
    new_back x w r f = elim (read_way ops t apart i j a c ne x w r) [
      | inl q ↦ q.1
      | inr q ↦ absurd (let k = kept_old j i c a back q x r w in omega arith)
    ]

    old_back : (x : Place) → IsTrue (reads (ops i) x) → IsTrue (writes (ops j).op x) → s.cycle i < lands ops new j → Before ops t i j
    old_back x r w f = elim (old_way ops t apart i j a c ne x r w) [
      | inl q ↦ q.1
      | inr q ↦ absurd (let k = kept_value j i c a back q x w r in omega arith)
    ]

    list_back : KeepListOrder (ops i).op (ops j).op → Earlier listed i j → Before ops t i j
    list_back k e = elim (list_way ops t apart i j a c ne k) [
      | inl q ↦ q.1
      | inr q ↦ absurd (never_both listed i j ls.complete.each_once e (kept_list j i c a back q (keep-flip (ops i).op (ops j).op k)))
    ]

    from_moved : Before ops new i j → Before ops t i j
    from_moved (Read x m w r f) = new_back x w r f
    from_moved (ReadOld x m r w f) = old_back x r w f
    from_moved (Write x w f) = elim (write_way ops t apart i j a c ne x w) [
      | inl q ↦ q.1
      | inr q ↦ absurd (let k = kept_last j i c a back q x (turned x w) in omega arith)
    ]
    from_moved (Load u v f) = new_back Memory (store_writes (ops i).op u) (load_reads (ops j).op v) f
    from_moved (LoadOld u v f) = old_back Memory (load_reads (ops i).op u) (store_writes (ops j).op v) f
    from_moved (Stores u v e) = list_back (inl (u, v)) e
    from_moved (Issue k e) = list_back (inr k) e

    lands_apart : (x : Place) → BothWriteAt (ops i).op (ops j).op x → lands ops new i ≢ lands ops new j
    lands_apart x w f = elim (write_way ops t apart i j a c ne x w) [
      | inl q ↦ let k = kept_last i j a c ne q.1 x w in omega arith
      | inr q ↦ let k = kept_last j i c a back q x (turned x w) in omega arith
    ]

  -- ---- the rules

  counted : (test : ℕ → Bool) → count_by test listed ≤ count_by test (onto s.order [])
  counted test = count_within test listed (onto s.order []) ls.complete.each_once (λ k m. among_left s.order [] k ((ls.complete.same k).0 m))

  width : (c : ℕ) → issuing s.cycle listed c ≤ g.width
  width c =
      let k = width_kept p h.height s.cycle [] s.order h.placed c (omega arith) in
      let m = counted (λ i. nat_eq (s.cycle i) c) in
      omega arith

  units : (c : ℕ) (u : UnitKind) → busy_on p.unit u s.cycle (busy p) listed c ≤ units_of g u
  units c u =
      let k = units_kept p h.height s.cycle [] s.order h.placed c u (omega arith) in
      let m = counted (keeps_busy p.unit u s.cycle (busy p) c) in
      omega arith

  pub moved : IsMoved ops t g new s.end
  moved = record {
    timing = record {
      each_once = ls.complete.each_once;
      never_fall = λ i j e. elim (ls.sorted i j e) [ inl f ↦ omega arith | inr f ↦ (let k = f.0 in omega arith) ];
      latencies = λ k. let l = (b.ok.machine.latency k).0 in omega arith;
    };
    complete = record { each_once = ls.complete.each_once; same = λ k. (to_old k, to_new k) };
    fits = record { width = width; units = units };
    keeps = record {
      one_branch = λ i j m k. b.times.one_branch i j (to_old i m) (to_old j k);
      drain = λ i m. h.ends i (inside i m);
      branch_end = λ i m u. (branches_are_last p s b.ok h i (inside i m) (branch_unit (ops i).op u)).lands;
      branch_shadow = λ i c x m k ne u w r.
          let f = b.times.branch_shadow i c x (to_old i m) (to_old c k) ne u w r in
          kept_value i c (to_old i m) (to_old c k) ne (read_before ops t i c x w r f) x w r;
      landing = λ i j x m k ne w. lands_apart i j (to_old i m) (to_old j k) ne x w;
      dests = λ i m. b.times.dests i (to_old i m);
    };
    before = λ i j a c ne. (to_moved i j a c ne, from_moved i j a c ne);
  }
