-- The example meets the laws' premises.
use Rattle.std.proofs.Common.{◌≡◌, ◌≢◌, ℕ, zero, suc, ◌<◌, true, [], ◌∷◌, inl, inr, refl, sym, subst, ◌∙◌, arith}
use Rattle.operation.specs.declared.Place.{Place}
use Rattle.operation.specs.declared.Place.TheVariants.{General, Predicate, Target, Memory}
use Rattle.operation.specs.Places.{writes}
use Rattle.serial_order.specs.Lists.{Among, Earlier, EachOnce}
use Rattle.two_timings.specs.Timing.{Timing, IsOrderOf, LandApart, Agrees, HasOneBranch, KeepListOrder, lands}
use Rattle.two_timings.specs.Before.{Before, Read, ReadOld, Write, Load, LoadOld, Stores, Issue}
use Rattle.two_timings.specs.Law.{IsTimingOf}
use Rattle.two_timings.specs.Example.{MeetsThePremises, ops, too_early, in_turn, order}

no_write : (x : Place) → writes (ops 1).op x ≡ true → ⊥
no_write (General zero) e = cc
no_write (General (suc n)) e = cc
no_write (Predicate zero) e = cc
no_write (Predicate (suc n)) e = cc
no_write (Target n) e = cc
no_write Memory e = cc

module _ (a b : ℕ) (ne : a ≢ b) where
  two_once : EachOnce (a ∷ (b ∷ []))
  two_once = (λ m. elim m [ inl e ↦ ne (sym e) | inr n ↦ elim n [ ] ], ((λ n. elim n [ ]), tt))

  two_earlier : (i j : ℕ) → Earlier (a ∷ (b ∷ [])) i j → (a ≡ i) × (b ≡ j)
  two_earlier i j (inl (e, inl f)) = (e, f)
  two_earlier i j (inl (e, inr f)) = elim f [ ]
  two_earlier i j (inr (inl (e, f))) = elim f [ ]
  two_earlier i j (inr (inr e)) = elim e [ ]

two_among : (a b k : ℕ) → Among k (a ∷ (b ∷ [])) → Among k (b ∷ (a ∷ []))
two_among a b k (inl e) = inr (inl e)
two_among a b k (inr (inl e)) = inl e
two_among a b k (inr (inr n)) = elim n [ ]

output_sum : ◌≢◌ {A = ℕ} 1 0
output_sum e = cc

sum_output : ◌≢◌ {A = ℕ} 0 1
sum_output e = cc

-- the output stands first in the order: it writes nothing, and reads what the sum writes
agrees : (t : Timing) → t.at 1 < lands ops t 0 → Agrees ops t order
agrees t h = record {
  new_read = λ i j x e w r. absurd (no_write x (subst (λ n. writes (ops n).op x ≡ true) (sym (two_earlier 1 0 output_sum i j e).0) w));
  old_read = λ i j x e r w. let p = two_earlier 1 0 output_sum i j e in subst (λ n. t.at n < lands ops t j) p.0 (subst (λ n. t.at 1 < lands ops t n) p.1 h);
  in_turn = λ i j x e w. absurd (no_write x (subst (λ n. writes (ops n).op x ≡ true) (sym (two_earlier 1 0 output_sum i j e).0) w.first));
  listed = λ i j e k. let p = two_earlier 1 0 output_sum i j e in absurd (free (subst (λ n. KeepListOrder (ops 1).op (ops n).op) (sym p.1) (subst (λ n. KeepListOrder (ops n).op (ops j).op) (sym p.0) k)));
}
  where
    free : KeepListOrder (ops 1).op (ops 0).op → ⊥
    free (inl k) = let e = k.0 in cc
    free (inr k) = cc

is_order :
    (t : Timing) → ((k : ℕ) → Among k t.listed → Among k order) → ((k : ℕ) → Among k order → Among k t.listed) →
    IsOrderOf order t.listed
is_order t to from = record { each_once = two_once 1 0 output_sum; same = λ k. (from k, to k) }

no_branch : HasOneBranch ops order
no_branch zero j a b e f = absurd (let k : ⊥ = cc in k)
no_branch (suc i) j a b e f = absurd (let k : ⊥ = cc in k)

too_early_agrees : IsTimingOf ops order too_early
too_early_agrees = record {
  timing = record {
    each_once = two_once 0 1 sum_output;
    never_fall = λ i j e. let p = two_earlier 0 1 sum_output i j e in omega (arith, p.0, p.1);
    latencies = λ k. omega arith;
  };
  complete = is_order too_early (two_among 0 1) (two_among 1 0);
  agrees = agrees too_early (omega arith);
}

in_turn_agrees : IsTimingOf ops order in_turn
in_turn_agrees = record {
  timing = record {
    each_once = two_once 1 0 output_sum;
    never_fall = λ i j e. let p = two_earlier 1 0 output_sum i j e in omega (arith, p.0, p.1);
    latencies = λ k. omega arith;
  };
  complete = is_order in_turn (λ k a. a) (λ k a. a);
  agrees = agrees in_turn (omega arith);
}

apart : LandApart ops too_early
apart zero zero x a b ne w = absurd (ne refl)
apart zero (suc j) x a b ne w = absurd (no_write x w.second)
apart (suc i) j x a b ne w = absurd (no_write x w.first)

-- the sum isn't before the output
not_before : Before ops too_early 0 1 → ⊥
not_before (Read x m w r h) = omega arith
not_before (ReadOld x m r w h) = no_write x w
not_before (Write x w h) = no_write x w.second
not_before (Load s l h) = cc
not_before (LoadOld l s h) = cc
not_before (Stores s u e) = cc
not_before (Issue k e) = cc

kept :
    (i j : ℕ) → Among i too_early.listed → Among j too_early.listed → i ≢ j → Before ops too_early i j → Earlier order i j
kept i j (inl a) (inl b) ne h = absurd (ne (sym a ∙ b))
kept i j (inl a) (inr (inl b)) ne h = absurd (not_before (subst (λ n. Before ops too_early n 1) (sym a) (subst (λ n. Before ops too_early i n) (sym b) h)))
kept i j (inr (inl a)) (inl b) ne h = inl (a, inl b)
kept i j (inr (inl a)) (inr (inl b)) ne h = absurd (ne (sym a ∙ b))
kept i j (inr (inr a)) b ne h = elim a [ ]
kept i j a (inr (inr b)) ne h = elim b [ ]

pub meets_the_premises : MeetsThePremises
meets_the_premises = record {
  agree = record { branch = no_branch; first = too_early_agrees; second = in_turn_agrees };
  apart = apart;
  serial = record { complete = is_order too_early (two_among 0 1) (two_among 1 0); kept = kept };
}
