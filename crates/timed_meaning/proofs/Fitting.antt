-- Every write to a byte of memory is a byte.
use Rattle.std.proofs.Common.{◌≡◌, ℕ, zero, suc, ◌+◌, ◌<◌, ◌%◌, ◌/◌, Bool, true, false, cond, List, [], ◌∷◌, ◌++◌, length, reverse, All, Option, Some, None, refl, sym, ap, subst, ◌∙◌, arith}
use Rattle.std.specs.Prelude.{nat_lt, nat_le, slice_get}
use Rattle.std.specs.List.{AllByRecursion}
use Rattle.std.proofs.lemmas.Bool.{false≢true}
use Rattle.std.proofs.lemmas.List.Elements.{All-from_recursion, recursion_from_All}
use Rattle.std.proofs.lemmas.List.Sorted.{All-permutation, IsPermutation-reverse, IsPermutation-sym}
use Rattle.operation.specs.declared.Op.{Op}
use Rattle.operation.specs.declared.Op.TheVariants as op
use Rattle.operation.specs.declared.Effect.{Effect}
use Rattle.operation.specs.declared.Effect.TheVariants as effects
use Rattle.operation.specs.declared.Place.{Place}
use Rattle.operation.specs.declared.Place.TheVariants.{General, Predicate, Target}
use Rattle.operation.specs.declared.Trap.{Trap}
use Rattle.operation.specs.Places.{is_constant}
use Rattle.operation.specs.Arithmetic.{bytes_of, extended}
use Rattle.operation.specs.Effects.{effect}
use Rattle.timed_meaning.specs.declared.Cell.{Cell}
use Rattle.timed_meaning.specs.declared.Cell.TheVariants.{At, Byte}
use Rattle.timed_meaning.specs.declared.Write.{Write}
use Rattle.timed_meaning.specs.declared.TimedOp.{TimedOp}
use Rattle.timed_meaning.specs.Values.{bit, last_write, later, same_cell, value_at}
use Rattle.timed_meaning.specs.Block.{Start, Progress, Ran, Through, Stopped, act, act_of, issued, run, landing, to_place, to_predicate, to_predicates, bytes_at, number_at, input_or_ones, entry_or_zero, operands}
use Rattle.timed_meaning.specs.Evaluator.{FitsCell, FitsIts, ran_to}
use Rattle.timed_meaning.specs.declared.issue.Work.{Work}

abbrev AllFit : List Write → Type 0
AllFit = AllByRecursion FitsIts

abbrev ValuesFit : List (Cell × ℕ) → Type 0
ValuesFit = AllByRecursion (λ v. FitsCell v.0 v.1)

both : (vs ws : List (Cell × ℕ)) → ValuesFit vs → ValuesFit ws → ValuesFit (vs ++ ws)
both [] ws h k = k
both (v ∷ vs) ws h k = (h.0, both vs ws h.1 k)

fits_if : (b : Bool) (vs ws : List (Cell × ℕ)) → ValuesFit vs → ValuesFit ws → ValuesFit (cond b vs ws)
fits_if true vs ws h k = h
fits_if false vs ws h k = k

place_fits : (x : Place) (v : ℕ) → ValuesFit (to_place x v)
place_fits x v = fits_if (is_constant x) [] ((At x, v) ∷ []) tt (tt, tt)

predicate_fits : (p : ℕ) (o : Option Bool) → ValuesFit (to_predicate p o)
predicate_fits p None = tt
predicate_fits p (Some b) = place_fits (Predicate p) (bit b)

predicates_fit : (o : Op) (x y : Option Bool) → ValuesFit (to_predicates o x y)
predicates_fit (op.Cmp test a b s t) x y = both (to_predicate b.p y) (to_predicate a.p x) (predicate_fits b.p y) (predicate_fits a.p x)
predicates_fit (op.CmpImm test a b s imm) x y = both (to_predicate b.p y) (to_predicate a.p x) (predicate_fits b.p y) (predicate_fits a.p x)
predicates_fit _ x y = tt

bytes_fit : (address n v : ℕ) → ValuesFit (bytes_at address n v)
bytes_fit address zero v = tt
bytes_fit address (suc n) v = let byte : v % 256 < 256 = omega arith in (byte, bytes_fit (address + 1) n (v / 256))

act_fits : (o : Op) (value : Cell → ℕ) (byte next : Option ℕ) (e : Effect) → ValuesFit (act_of o value byte next e).values
act_fits o value byte next effects.Nothing = tt
act_fits o value byte next (effects.General d v) = place_fits (General d) v
act_fits o value byte next (effects.Predicates x y) = predicates_fit o x y
act_fits o value byte next (effects.Target d v) = place_fits (Target d) v
act_fits o value byte next (effects.Load d address size) = place_fits (General d) (extended size (number_at value address (bytes_of size)))
act_fits o value byte next (effects.Store address size v) = bytes_fit address (bytes_of size) v
act_fits o value byte next (effects.Take d) = place_fits (General d) (input_or_ones byte)
act_fits o value byte next (effects.Put v) = tt
act_fits o value byte next (effects.Trapped t) = tt
act_fits o value byte next (effects.Jump t) = tt
act_fits o value byte next (effects.Link d t) = place_fits (Target d) (entry_or_zero next)
act_fits o value byte next (effects.Halt code) = tt

landing_fits : (t : ℕ) (vs : List (Cell × ℕ)) (ws : List Write) → ValuesFit vs → AllFit ws → AllFit (landing t vs ++ ws)
landing_fits t [] ws h k = k
landing_fits t (v ∷ vs) ws h k = (h.0, landing_fits t vs ws h.1 k)

-- what has been done, trap or not
abbrev done : Ran → Progress
done (Through p) = p
done (Stopped t p) = p

act_of_fits : (c : Start) (k : TimedOp) (p : Progress) → ValuesFit (act c k p).values
act_of_fits c k p =
    let value = value_at c.state p.writes k.at in
    act_fits k.guarded.op value (slice_get c.input p.position) c.next
    (effect k.guarded (operands k.guarded value (length c.state.memory) (nat_le c.limit (length p.output))))

run_fits : (c : Start) (ks : List TimedOp) (p : Progress) → AllFit p.writes → AllFit (done (run c ks p)).writes
run_fits c [] p h = h
run_fits c (k ∷ ks) p h = go (run_fits c ks (issued k (act c k p) p) (landing_fits (k.at + k.latency) (act c k p).values p.writes fits h)) (act c k p).trap
  where
    fits : ValuesFit (act c k p).values
    fits = act_of_fits c k p

    go : AllFit (done (run c ks (issued k (act c k p) p))).writes → (o : Option Trap) → AllFit (done (elim o [ None ↦ run c ks (issued k (act c k p) p) | Some t ↦ Stopped t p ])).writes
    go g None = g
    go g (Some t) = h

ran_writes : (trap : Option Trap) (w : Work) → (done (ran_to trap w)).writes ≡ reverse w.writes.items
ran_writes None w = refl
ran_writes (Some t) w = refl

-- all writes of a run that begins without any, in the order in which they are listed
pub writes_fit : (c : Start) (ks : List TimedOp) (p : Progress) (trap : Option Trap) (w : Work) → p.writes ≡ [] → ran_to trap w ≡ run c ks p → All FitsIts w.writes.items
writes_fit c ks p trap w none ran =
    let ws = w.writes.items in
    let e : (done (run c ks p)).writes ≡ reverse ws = ap (λ r. (done r).writes) (sym ran) ∙ ran_writes trap w in
    let h : AllFit (reverse ws) = subst AllFit e (run_fits c ks p (subst AllFit (sym none) tt)) in
    All-permutation FitsIts (reverse ws) ws (IsPermutation-sym ws (reverse ws) (IsPermutation-reverse ws)) (All-from_recursion FitsIts (reverse ws) h)

same_fits : (x y : Cell) (v : ℕ) → same_cell x y ≡ true → FitsCell y v → FitsCell x v
same_fits (At x) y v e h = tt
same_fits (Byte a) (Byte b) v e h = h
same_fits (Byte a) (At y) v e h = absurd (false≢true e)

abbrev FitsLast : Cell → Option Write → Type 0
FitsLast x None = Unit {0}
FitsLast x (Some w) = FitsCell x w.value

later_fits : (x : Cell) (w : Write) (o : Option Write) → FitsCell x w.value → FitsLast x o → FitsLast x (later w o)
later_fits x w None h k = h
later_fits x w (Some v) h k = elim (nat_lt w.lands v.lands) as (λ b. FitsLast x (Some (cond b v w))) [ true ↦ k | false ↦ h ]

last_fits : (x : Cell) (ws : List Write) → AllFit ws → FitsLast x (last_write x ws)
last_fits x [] h = tt
last_fits x (w ∷ ws) h = go (last_fits x ws h.1) (same_cell x w.cell) refl
  where
    go : FitsLast x (last_write x ws) → (b : Bool) → same_cell x w.cell ≡ b → FitsLast x (cond b (later w (last_write x ws)) (last_write x ws))
    go k true e = later_fits x w (last_write x ws) (same_fits x w.cell w.value e h.0) k
    go k false e = k

-- the last write to a cell fits the cell
pub last_write_fits : (x : Cell) (ws : List Write) (w : Write) → All FitsIts ws → last_write x (reverse ws) ≡ Some w → FitsCell x w.value
last_write_fits x ws w h e =
    subst (FitsLast x) e
    (last_fits x (reverse ws) (recursion_from_All FitsIts (reverse ws) (All-permutation FitsIts ws (reverse ws) (IsPermutation-reverse ws) h)))
