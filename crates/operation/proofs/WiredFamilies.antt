-- An operation is wired on a predicate where all its destinations there are of one family.
use Rattle.std.proofs.Common.{◌≡◌, ℕ, zero, suc, Bool, true, false, refl, sym, ◌||◌}
use Rattle.std.specs.Prelude.{◌↔◌, IsTrue, nat_eq, Option, Some, None, [], ◌∷◌}
use Rattle.std.proofs.lemmas.Bool.{eqb-true, eq-eqb}
use Rattle.operation.specs.declared.Op.{Op}
use Rattle.operation.specs.declared.Op.TheVariants as op
use Rattle.operation.specs.declared.Dest.{Dest}
use Rattle.operation.specs.declared.Family.{Family}
use Rattle.operation.specs.declared.Family.TheVariants.{One, Zero}
use Rattle.operation.specs.declared.Place.TheVariants.{Predicate}
use Rattle.operation.specs.Places.{writes, wired, wired_on, wired_by, common, family}
use Rattle.operation.specs.Laws.{compare_destinations, ActIn}

common_first : (u v : Option Family) (f : Family) → common u v ≡ Some f → u ≡ Some f
common_first (Some One) (Some One) f h = h
common_first (Some Zero) (Some Zero) f h = h
common_first (Some One) (Some Zero) f h = cc
common_first (Some Zero) (Some One) f h = cc
common_first (Some One) None f h = cc
common_first (Some Zero) None f h = cc
common_first None v f h = cc

common_second : (u v : Option Family) (f : Family) → common u v ≡ Some f → v ≡ Some f
common_second (Some One) (Some One) f h = h
common_second (Some Zero) (Some Zero) f h = h
common_second (Some One) (Some Zero) f h = cc
common_second (Some Zero) (Some One) f h = cc
common_second (Some One) None f h = cc
common_second (Some Zero) None f h = cc
common_second None v f h = cc

common_same : (f : Family) → common (Some f) (Some f) ≡ Some f
common_same One = refl
common_same Zero = refl

-- what a compare's answer by its destinations says of each
pub record Both (u v : Option Family) (x y : Bool) (f : Family) : Type 0 where
  pub there : (x || (y || false)) ≡ true
  pub first : x ≡ true → u ≡ Some f
  pub second : y ≡ true → v ≡ Some f

to_both : (u v : Option Family) (x y : Bool) (f : Family) → wired_by x y u v ≡ Some f → Both u v x y f
to_both u v true true f h =
    record { there = refl; first = (λ _. common_first u v f h); second = (λ _. common_second u v f h) }
to_both u v true false f h = record { there = refl; first = (λ _. h); second = (λ e. absurd (let k : ⊥ = cc in k)) }
to_both u v false true f h = record { there = refl; first = (λ e. absurd (let k : ⊥ = cc in k)); second = (λ _. h) }
to_both u v false false f h = absurd (let k : ⊥ = cc in k)

from_both : (u v : Option Family) (x y : Bool) (f : Family) → Both u v x y f → wired_by x y u v ≡ Some f
from_both u v true true f h = rw (h.first refl, h.second refl) (common_same f)
from_both u v true false f h = h.first refl
from_both u v false true f h = h.second refl
from_both u v false false f h = absurd (let e : false ≡ true = h.there in let k : ⊥ = cc in k)

to_all :
    (a b : Dest) (p : ℕ) (f : Family) → wired_on a b p ≡ Some f →
    ((nat_eq p a.p || (nat_eq p b.p || false)) ≡ true) × ActIn f p (a ∷ (b ∷ []))
to_all a b p f h =
    let both : Both (family a.action) (family b.action) (nat_eq p a.p) (nat_eq p b.p) f =
    to_both (family a.action) (family b.action) (nat_eq p a.p) (nat_eq p b.p) f h in (
      both.there,
      (
        (λ e. both.first (eq-eqb p a.p (sym e))),
        ((λ e. both.second (eq-eqb p b.p (sym e))), tt),
      ),
    )

from_all :
    (a b : Dest) (p : ℕ) (f : Family) →
    ((nat_eq p a.p || (nat_eq p b.p || false)) ≡ true) × ActIn f p (a ∷ (b ∷ [])) →
    wired_on a b p ≡ Some f
from_all a b p f (there, (first, (second, _))) =
    from_both
    (family a.action)
    (family b.action)
    (nat_eq p a.p)
    (nat_eq p b.p)
    f
    (record {
      there = there;
      first = (λ e. first (sym (eqb-true p a.p e)));
      second = (λ e. second (sym (eqb-true p b.p e)));
    })

-- what is wired nowhere and writes no predicate meets the law
nowhere : {P : Type 0} (f : Family) → (None ≡ Some f) ↔ ((false ≡ true) × P)
nowhere f = ((λ h. absurd (let k : ⊥ = cc in k)), (λ h. absurd (let e : false ≡ true = h.0 in let k : ⊥ = cc in k)))

pub wired_by_all_destinations :
    (o : Op) (p : ℕ) (f : Family) →
    (wired o p ≡ Some f) ↔ (IsTrue (writes o (Predicate p)) × ActIn f p (compare_destinations o))
wired_by_all_destinations (op.Cmp test a b s t) zero f = nowhere f
wired_by_all_destinations (op.CmpImm test a b s imm) zero f = nowhere f
wired_by_all_destinations (op.Cmp test a b s t) (suc p) f = (to_all a b (suc p) f, from_all a b (suc p) f)
wired_by_all_destinations (op.CmpImm test a b s imm) (suc p) f = (to_all a b (suc p) f, from_all a b (suc p) f)
wired_by_all_destinations o zero f = nowhere f
wired_by_all_destinations o (suc p) f = nowhere f
