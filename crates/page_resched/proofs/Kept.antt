-- Kept delays, and the order in which a scheduled block is listed.
use Rattle.std.proofs.Common.{◌≢◌, ℕ, ◌<◌, ◌≤◌, List, ◌⊎◌, inl, inr, sym, arith, IsTrue}
use Rattle.std.specs.Prelude.{ℤ, pos, ◌+ℤ◌, ◌≤ℤ◌}
use Rattle.std.proofs.lemmas.Int.{ints}
use Rattle.operation.specs.declared.Guarded.{Guarded}
use Rattle.operation.specs.declared.Place.{Place}
use Rattle.operation.specs.Places.{reads, writes}
use Rattle.machine_desc.specs.Description.{Description, latency_of}
use Rattle.serial_order.specs.Lists.{Among, Earlier}
use Rattle.two_timings.specs.Timing.{Timing, lands, LandApart, BothWriteAt, IsOrderOf, KeepListOrder, Agrees}
use Rattle.two_timings.specs.Before.{Before, IsSerialOrder}
use Rattle.serial_order.proofs.Earlier.{never_both, which_earlier, earlier_left, distinct}
use Rattle.serial_order.proofs.Members.{earlier_right}
use Rattle.two_timings.proofs.Conflicts.{read_way, old_way, write_way, list_way}
use Rattle.list_sched.specs.Schedule.{Problem, Schedule}
use Rattle.list_sched.specs.Laws.{Keeps}
use Rattle.list_sched.proofs.Serial.{some_delay}
use Rattle.page_resched.specs.Block.{IsListing, timing_in}
use Rattle.page_resched.proofs.Settings.{Wait, NewValue, OldValue, LastValue, ListOrder, AreDelays}

module _ (ops : ℕ → Guarded) (t : Timing) (g : Description) (p : Problem) (s : Schedule) (listed : List ℕ)
    (are : AreDelays ops t (latency_of g) p.delay) (full : IsOrderOf s.order t.listed) (keeps : Keeps p s) (ls : IsListing s listed) where
  abbrev new : Timing
  new = timing_in g s listed

  module _ (i j : ℕ) (a : Among i t.listed) (b : Among j t.listed) (ne : i ≢ j) where
    -- what issues no later and is placed earlier is listed earlier
    pub listed_as_placed : s.cycle i ≤ s.cycle j → Earlier s.order i j → Earlier listed i j
    listed_as_placed le e =
        let at = λ (k : ℕ) (m : Among k t.listed). (ls.complete.same k).1 ((full.same k).1 m) in
        elim (which_earlier listed i j (at i a) (at j b)) [
          | inl f ↦ absurd (ne f)
          | inr (inl h) ↦ h
          | inr (inr h) ↦ elim (ls.sorted j i h) [
            | inl lt ↦ absurd (omega arith)
            | inr later ↦ absurd (never_both s.order i j full.each_once e later.1)
          ]
        ]

    module _ (before : Before ops t i j) where
      -- each wait is kept
      pub waits : (w : ℤ) → Wait (latency_of g) (ops i) (ops j) w → (pos (s.cycle i) +ℤ w) ≤ℤ pos (s.cycle j)
      waits w h =
          let r = some_delay (p.delay i j) ((are.decided i j a b ne).1 before) in
          let m = are.greatest i j r.0 r.1 w h in
          let k = keeps.delays i j r.0 r.1 in
          omega (arith, ints)

      pub new_value : (x : Place) → IsTrue (writes (ops i).op x) → IsTrue (reads (ops j) x) → lands ops new i ≤ s.cycle j
      new_value x w r = let h = waits _ (NewValue x w r) in omega (arith, ints)

      pub old_value : (x : Place) → IsTrue (reads (ops i) x) → IsTrue (writes (ops j).op x) → s.cycle i < lands ops new j
      old_value x r w = let h = waits _ (OldValue x r w) in omega (arith, ints)

      pub last_value : (x : Place) → BothWriteAt (ops i).op (ops j).op x → lands ops new i < lands ops new j
      last_value x w = let h = waits _ (LastValue x w) in omega (arith, ints)

      pub list_order : KeepListOrder (ops i).op (ops j).op → Earlier listed i j
      list_order k =
          let h = waits _ (ListOrder k) in
          listed_as_placed (omega (arith, ints)) (keeps.order i j ((are.decided i j a b ne).1 before))

  -- such a schedule agrees with every serial order
  module _ (order : List ℕ) (apart : LandApart ops t) (o : IsSerialOrder ops t order) where
    module _ (i j : ℕ) (e : Earlier order i j) where
      first : Among i t.listed
      first = (o.complete.same i).0 (earlier_left order i j e)

      second : Among j t.listed
      second = (o.complete.same j).0 (earlier_right order i j e)

      ne : i ≢ j
      ne = distinct order i j o.complete.each_once e

      -- of two ways the one that goes along with the order
      along : (P : Type 0) → ((P × Before ops t i j) ⊎ Before ops t j i) → Before ops t i j
      along P (inl h) = h.1
      along P (inr h) = absurd (never_both order i j o.complete.each_once e (o.kept j i second first (λ f. ne (sym f)) h))

    pub kept_delays_agree : Agrees ops new order
    kept_delays_agree = record {
      new_read = λ i j x e w r. new_value i j (first i j e) (second i j e) (ne i j e) (along i j e _ (read_way ops t apart i j (first i j e) (second i j e) (ne i j e) x w r)) x w r;
      old_read = λ i j x e r w. old_value i j (first i j e) (second i j e) (ne i j e) (along i j e _ (old_way ops t apart i j (first i j e) (second i j e) (ne i j e) x r w)) x r w;
      in_turn = λ i j x e w. last_value i j (first i j e) (second i j e) (ne i j e) (along i j e _ (write_way ops t apart i j (first i j e) (second i j e) (ne i j e) x w)) x w;
      listed = λ i j e k. list_order i j (first i j e) (second i j e) (ne i j e) (along i j e _ (list_way ops t apart i j (first i j e) (second i j e) (ne i j e) k)) k;
    }
