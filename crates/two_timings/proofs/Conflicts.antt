-- Of two operations that touch one place, or that keep their order in the list, one is before the other.
use Rattle.std.proofs.Common.{◌≡◌, ◌≢◌, ℕ, ◌<◌, ◌≤◌, List, ◌⊎◌, inl, inr, refl, sym, ◌∙◌, Option, Some, None, IsTrue}
use Rattle.std.proofs.lemmas.Bool.{cases_lt, cases_order}
use Rattle.operation.specs.declared.Guarded.{Guarded}
use Rattle.operation.specs.declared.Op.{Op}
use Rattle.operation.specs.declared.Place.{Place}
use Rattle.operation.specs.declared.Place.TheVariants.{General, Predicate, Target, Memory}
use Rattle.operation.specs.declared.Family.{Family}
use Rattle.operation.specs.declared.Family.TheVariants.{One, Zero}
use Rattle.operation.specs.Places.{reads, writes, wired, same_family, are_wired_together}
use Rattle.operation.proofs.PlaceLaws.{writer_stores, reader_loads}
use Rattle.serial_order.specs.Lists.{Among, Earlier}
use Rattle.serial_order.proofs.Members.{earlier_right}
use Rattle.two_timings.specs.Timing.{Timing, lands, BothWriteAt, LandApart, KeepListOrder}
use Rattle.two_timings.specs.Before.{Before, Read, ReadOld, Write, Load, LoadOld, Stores, Issue, IsSerialOrder}
use Rattle.two_timings.specs.Law.{OwnTimesAgree}
use Rattle.serial_order.proofs.Earlier.{earlier_left, never_both, distinct, which_earlier}
use Rattle.two_timings.proofs.Ordered.{keep-flip}

same_family-flip : (f g : Option Family) → same_family f g ≡ same_family g f
same_family-flip None None = refl
same_family-flip None (Some One) = refl
same_family-flip None (Some Zero) = refl
same_family-flip (Some One) None = refl
same_family-flip (Some Zero) None = refl
same_family-flip (Some One) (Some One) = refl
same_family-flip (Some One) (Some Zero) = refl
same_family-flip (Some Zero) (Some One) = refl
same_family-flip (Some Zero) (Some Zero) = refl

pub wired-flip : (i j : Op) (x : Place) → are_wired_together i j x ≡ are_wired_together j i x
wired-flip i j (General n) = refl
wired-flip i j (Predicate p) = same_family-flip (wired i p) (wired j p)
wired-flip i j (Target n) = refl
wired-flip i j Memory = refl

both-flip : (i j : Op) (x : Place) → BothWriteAt i j x → BothWriteAt j i x
both-flip i j x w = record { place = w.place; first = w.second; second = w.first; apart = wired-flip j i x ∙ w.apart }

module _ (ops : ℕ → Guarded) (t : Timing) (i j : ℕ) where
  pub read_before :
      (x : Place) → IsTrue (writes (ops i).op x) → IsTrue (reads (ops j) x) → lands ops t i ≤ t.at j → Before ops t i j
  read_before (General n) w r h = Read (General n) (λ e. cc) w r h
  read_before (Predicate n) w r h = Read (Predicate n) (λ e. cc) w r h
  read_before (Target n) w r h = Read (Target n) (λ e. cc) w r h
  read_before Memory w r h = Load (writer_stores (ops i).op w) (reader_loads (ops j).op r) h

  pub old_before :
      (x : Place) → IsTrue (reads (ops i) x) → IsTrue (writes (ops j).op x) → t.at i < lands ops t j → Before ops t i j
  old_before (General n) r w h = ReadOld (General n) (λ e. cc) r w h
  old_before (Predicate n) r w h = ReadOld (Predicate n) (λ e. cc) r w h
  old_before (Target n) r w h = ReadOld (Target n) (λ e. cc) r w h
  old_before Memory r w h = LoadOld (reader_loads (ops i).op r) (writer_stores (ops j).op w) h

  pub listed_before : KeepListOrder (ops i).op (ops j).op → Earlier t.listed i j → Before ops t i j
  listed_before (inl k) e = Stores k.0 k.1 e
  listed_before (inr k) e = Issue k e

module _ (ops : ℕ → Guarded) (t : Timing) (apart : LandApart ops t) (i j : ℕ) (a : Among i t.listed) (b : Among j t.listed) (ne : i ≢ j) where
  -- i writes what j reads
  pub read_way :
      (x : Place) → IsTrue (writes (ops i).op x) → IsTrue (reads (ops j) x) →
      ((lands ops t i ≤ t.at j) × Before ops t i j) ⊎ Before ops t j i
  read_way x w r = elim (cases_lt (t.at j) (lands ops t i)) [
    | inl h ↦ inr (old_before ops t j i x r w h)
    | inr h ↦ inl (h, read_before ops t i j x w r h)
  ]

  -- i reads what j writes
  pub old_way :
      (x : Place) → IsTrue (reads (ops i) x) → IsTrue (writes (ops j).op x) →
      ((t.at i < lands ops t j) × Before ops t i j) ⊎ Before ops t j i
  old_way x r w = elim (cases_lt (t.at i) (lands ops t j)) [
    | inl h ↦ inl (h, old_before ops t i j x r w h)
    | inr h ↦ inr (read_before ops t j i x w r h)
  ]

  -- both write a place
  pub write_way :
      (x : Place) → BothWriteAt (ops i).op (ops j).op x →
      ((lands ops t i < lands ops t j) × Before ops t i j) ⊎ Before ops t j i
  write_way x w = elim (cases_order (lands ops t i) (lands ops t j)) [
    | inl e ↦ absurd (apart i j x a b ne w e)
    | inr (inl h) ↦ inl (h, Write x w h)
    | inr (inr h) ↦ inr (Write x (both-flip (ops i).op (ops j).op x w) h)
  ]

  -- they keep their order in the list
  pub list_way : KeepListOrder (ops i).op (ops j).op → (Earlier t.listed i j × Before ops t i j) ⊎ Before ops t j i
  list_way k = elim (which_earlier t.listed i j a b) [
    | inl e ↦ absurd (ne e)
    | inr (inl h) ↦ inl (h, listed_before ops t i j k h)
    | inr (inr h) ↦ inr (listed_before ops t j i (keep-flip (ops i).op (ops j).op k) h)
  ]

-- in a serial order the later of two operations isn't before the earlier
module _ (ops : ℕ → Guarded) (t : Timing) (order : List ℕ) (o : IsSerialOrder ops t order) (i j : ℕ) (e : Earlier order i j) where
  pub forward : (P : Type 0) → (Among i t.listed → Among j t.listed → i ≢ j → (P × Before ops t i j) ⊎ Before ops t j i) → P
  forward P way =
      let a = (o.complete.same i).0 (earlier_left order i j e) in
      let b = (o.complete.same j).0 (earlier_right order i j e) in
      let ne = distinct order i j o.complete.each_once e in
      elim (way a b ne) [
        | inl h ↦ h.0
        | inr h ↦ absurd (never_both order i j o.complete.each_once e (o.kept j i b a (λ f. ne (sym f)) h))
      ]

pub own_times_agree : OwnTimesAgree
own_times_agree ops t order apart o = record {
  new_read = λ i j x e w r. forward ops t order o i j e (lands ops t i ≤ t.at j) (λ a b n. read_way ops t apart i j a b n x w r);
  old_read = λ i j x e r w. forward ops t order o i j e (t.at i < lands ops t j) (λ a b n. old_way ops t apart i j a b n x r w);
  in_turn = λ i j x e w. forward ops t order o i j e (lands ops t i < lands ops t j) (λ a b n. write_way ops t apart i j a b n x w);
  listed = λ i j e k. forward ops t order o i j e (Earlier t.listed i j) (λ a b n. list_way ops t apart i j a b n k);
}
