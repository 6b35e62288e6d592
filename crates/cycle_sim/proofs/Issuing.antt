-- What an issue puts onto the wheel.
use Rattle.std.proofs.Common.{◌≡◌, ℕ, ◌+◌, ◌≤◌, Bool, true, false, cond, List, [], ◌∷◌, ◌++◌, length, refl, ap, sym, ◌∙◌, Option, Some, None, arith}
use Rattle.operation.specs.declared.Op.{Op}
use Rattle.operation.specs.declared.Op.TheVariants as op
use Rattle.operation.specs.declared.Test.{Test}
use Rattle.operation.specs.declared.Dest.{Dest}
use Rattle.std.specs.Prelude.{ℤ}
use Rattle.operation.specs.declared.Place.{Place}
use Rattle.operation.specs.declared.Place.TheVariants.{Predicate}
use Rattle.operation.specs.Places.{is_constant}
use Rattle.timed_meaning.specs.declared.Cell.{Cell}
use Rattle.timed_meaning.specs.declared.Cell.TheVariants.{At}
use Rattle.timed_meaning.specs.declared.Write.{Write}
use Rattle.timed_meaning.specs.Block.{landing, to_place, to_predicate, to_predicates}
use Rattle.block_steps.specs.Flight.{in_turn}
use Rattle.block_steps.proofs.Turns.{in_turn_twice, in_turn_append}
use Rattle.cycle_sim.specs.declared.registers.Landing.{Landing}
use Rattle.cycle_sim.specs.Wheel.{flight_of}
use Rattle.block_steps.proofs.Few.{length-in_turn}
use Rattle.cycle_sim.proofs.Flights.{flight_sorted, length-landings}

-- nothing more lands
pub no_more : (slots : List (List Landing)) (t s : ℕ) (vs : List (Cell × ℕ)) → vs ≡ [] → flight_of slots t ≡ in_turn (landing s vs ++ flight_of slots t)
no_more slots t s vs e = sym (flight_sorted slots t) ∙ ap (λ l. in_turn (landing s l ++ flight_of slots t)) (sym e)

pub constant_place : (x : Place) (v : ℕ) → is_constant x ≡ true → to_place x v ≡ []
constant_place x v e = ap (λ b. cond b [] ((At x, v) ∷ [])) e

landing_append : (s : ℕ) (us vs : List (Cell × ℕ)) (ws : List Write) → landing s (us ++ vs) ++ ws ≡ landing s us ++ (landing s vs ++ ws)
landing_append s [] vs ws = refl
landing_append s (u ∷ us) vs ws = ap (λ l. record { cell = u.0; value = u.1; lands = s } ∷ l) (landing_append s us vs ws)

-- what lands together, in two parts
pub both_more : (s : ℕ) (us vs : List (Cell × ℕ)) (old mid new : List Write) → new ≡ in_turn (landing s us ++ mid) → mid ≡ in_turn (landing s vs ++ old) → new ≡ in_turn (landing s (us ++ vs) ++ old)
both_more s us vs old mid new e f =
    e
    ∙ ap (λ l. in_turn (landing s us ++ l)) f
    ∙ in_turn_append (landing s us) (in_turn (landing s vs ++ old)) (landing s vs ++ old) (in_turn_twice (landing s vs ++ old))
    ∙ ap in_turn (sym (landing_append s us vs old))

pub length-more : (s : ℕ) (vs : List (Cell × ℕ)) (old new : List Write) → new ≡ in_turn (landing s vs ++ old) → length new ≡ length vs + length old
length-more s vs old new e = ap length e ∙ length-in_turn (landing s vs ++ old) ∙ length-landings s vs old

pub predicate_few : (n : ℕ) (o : Option Bool) → length (to_predicate n o) ≤ 1
predicate_few n None = omega arith
predicate_few n (Some true) = elim (is_constant (Predicate n)) as (λ b. length (cond {A = List (Cell × ℕ)} b [] ((At (Predicate n), 1) ∷ [])) ≤ 1) [ true ↦ omega arith | false ↦ omega arith ]
predicate_few n (Some false) = elim (is_constant (Predicate n)) as (λ b. length (cond {A = List (Cell × ℕ)} b [] ((At (Predicate n), 0) ∷ [])) ≤ 1) [ true ↦ omega arith | false ↦ omega arith ]

-- only compares write predicates
pub no_compare : (o : Op) (x y : Option Bool) → ((t : Test) (a b : Dest) (s u : ℕ) → o ≡ op.Cmp t a b s u → ⊥) → ((t : Test) (a b : Dest) (s : ℕ) (i : ℤ) → o ≡ op.CmpImm t a b s i → ⊥) → to_predicates o x y ≡ []
no_compare (op.Cmp t a b s u) x y h k = absurd (h t a b s u refl)
no_compare (op.CmpImm t a b s i) x y h k = absurd (k t a b s i refl)
no_compare o x y h k = refl
