-- Accesses that clash, and operations that write one place and land together.
use Rattle.std.proofs.Common.{◌≡◌, ◌≢◌, ℕ, ◌+◌, true, not, ◌&&◌, refl, sym, ap, ◌∙◌, arith, Option, Some, None}
use Rattle.std.specs.Prelude.{nat_eq}
use Rattle.std.proofs.lemmas.Bool.{and_parts, and_from, not-true, eqb-true, eqb-false}
use Rattle.operation.specs.declared.Op.{Op}
use Rattle.operation.specs.declared.Place.{Place}
use Rattle.operation.specs.declared.Place.TheVariants.{General, Predicate, Target, Memory}
use Rattle.operation.specs.declared.Family.{Family}
use Rattle.operation.specs.declared.Family.TheVariants.{One, Zero}
use Rattle.operation.specs.Places.{writes, destinations, are_wired_together, same_family, wired}
use Rattle.operation.proofs.PlaceLaws.{writes_at, written_among, write_varies}
use Rattle.timed_meaning.specs.declared.TimedOp.{TimedOp}
use Rattle.dependences.specs.declared.footprint.Role.{Role}
use Rattle.dependences.specs.declared.access.Usage.{Usage}
use Rattle.dependences.specs.declared.access.Usage.TheVariants.{Write}
use Rattle.dependences.specs.declared.access.Access.{Access}
use Rattle.dependences.specs.Before.{is_memory, both_write, both_write_at}
use Rattle.dependences.specs.Footprint.{role_in, role_at}
use Rattle.dependences.specs.Accesses.{access_at, is_clash, write_apart}
use Rattle.dependences.specs.Laws.{LandTogether, ClashesLandTogether}
use Rattle.dependences.proofs.Places.{some_of, of_some, one_place}
use Rattle.dependences.proofs.Told.{IsWrite, Tells, told}

-- ---- two writes of a place

apart_in : (f g : Option Family) → write_apart (Write (role_in f)) (Write (role_in g)) ≡ not (same_family f g)
apart_in None None = refl
apart_in None (Some One) = refl
apart_in None (Some Zero) = refl
apart_in (Some One) None = refl
apart_in (Some One) (Some One) = refl
apart_in (Some One) (Some Zero) = refl
apart_in (Some Zero) None = refl
apart_in (Some Zero) (Some One) = refl
apart_in (Some Zero) (Some Zero) = refl

-- they are apart where the place isn't the memory and they aren't of one wired family there
apart_at : (i j : Op) (x : Place) → write_apart (Write (role_at i x)) (Write (role_at j x)) ≡ (not (is_memory x) && not (are_wired_together i j x))
apart_at i j (General k) = refl
apart_at i j (Predicate k) = apart_in (wired i k) (wired j k)
apart_at i j (Target k) = refl
apart_at i j Memory = refl

-- a place that both write, not as one family
pub record WrittenApart (i j : Op) : Type 0 where
  pub of : Place
  pub first : writes i of ≡ true
  pub second : writes j of ≡ true
  pub apart : write_apart (Write (role_at i of)) (Write (role_at j of)) ≡ true

pub apart_both : (i j : Op) → WrittenApart i j → both_write i j ≡ true
apart_both i j w =
    let x = w.of in
    let parts = and_parts (not (is_memory x)) (not (are_wired_together i j x)) (sym (apart_at i j x) ∙ w.apart) in
    of_some (both_write_at i j) (destinations j) x (written_among j x w.second)
    (and_from (not (is_memory x)) (writes i x && not (are_wired_together i j x)) parts.0
    (and_from (writes i x) (not (are_wired_together i j x)) w.first parts.1))

pub both_apart : (i j : Op) → both_write i j ≡ true → WrittenApart i j
both_apart i j h =
    let s = some_of (both_write_at i j) (destinations j) h in
    let x = s.place in
    let p = and_parts (not (is_memory x)) (writes i x && not (are_wired_together i j x)) s.passes in
    let q = and_parts (writes i x) (not (are_wired_together i j x)) p.1 in
    record {
      of = x;
      first = q.0;
      second = writes_at j x (write_varies i x q.0) s.among;
      apart = apart_at i j x ∙ and_from (not (is_memory x)) (not (are_wired_together i j x)) p.0 q.1;
    }

-- two writes of one place in the list that are apart
pub written_apart :
    (ops : ℕ → TimedOp) (n : ℕ) (a b : Access) (r t : Role) → IsWrite ops n a r → IsWrite ops n b t → a.place ≡ b.place →
    write_apart (Write r) (Write t) ≡ true → WrittenApart (ops a.number).guarded.op (ops b.number).guarded.op
written_apart ops n a b r t f g e h =
    let i = (ops a.number).guarded.op in
    let j = (ops b.number).guarded.op in
    let same : f.of ≡ g.of = one_place f.of g.of f.in_range g.in_range (sym f.numbered ∙ e ∙ g.numbered) in
    let there : role_at j f.of ≡ t = ap (role_at j) same ∙ g.role in
    record {
      of = f.of;
      first = f.writes_it;
      second = ap (writes j) same ∙ g.writes_it;
      apart = ap (λ x. write_apart (Write x) (Write (role_at j f.of))) f.role ∙ ap (λ x. write_apart (Write r) (Write x)) there ∙ h;
    }

-- ---- accesses that clash

-- what says that two accesses clash
record AreClash (a b : Access) : Type 0 where
  place : a.place ≡ b.place
  time : a.time ≡ b.time
  differ : a.number ≢ b.number
  apart : write_apart a.usage b.usage ≡ true

clash_parts : (a b : Access) → is_clash a b ≡ true → AreClash a b
clash_parts a b h =
    let p = and_parts (nat_eq a.place b.place) _ h in
    let q = and_parts (nat_eq a.time b.time) _ p.1 in
    let r = and_parts (not (nat_eq a.number b.number)) _ q.1 in
    record {
      place = eqb-true a.place b.place p.0;
      time = eqb-true a.time b.time q.0;
      differ = eqb-false a.number b.number (not-true (nat_eq a.number b.number) r.0);
      apart = r.1;
    }

pub clashes_land_together : ClashesLandTogether
clashes_land_together ops n list are p lt h = go a.usage b.usage (told ops n list are p (omega arith)) (told ops n list are (p + 1) lt) (clash_parts a b h).apart
  where
    a : Access
    a = access_at list p

    b : Access
    b = access_at list (p + 1)

    go : (u v : Usage) → Tells ops n a u → Tells ops n b v → write_apart u v ≡ true → LandTogether ops n a.number b.number
    go (Write r) (Write t) f g e =
        let c = clash_parts a b h in
        record {
          first = f.inside;
          second = g.inside;
          differ = c.differ;
          write = apart_both _ _ (written_apart ops n a b r t f g c.place e);
          land = (let x = f.timed in let y = g.timed in let same = c.time in omega arith);
        }
    go u v f g e = absurd (let k : ⊥ = cc in k)
