-- A turn, of whatever system the core held.
use Rattle.std.proofs.Common.{◌≡◌, ◌<◌, ℕ, Bool, true, false, List, length, map, get_or, refl, sym, ap, subst, ◌∙◌, Option, Some, None}
use Rattle.std.specs.Prelude.{slice_get, slice_set, not, IsSome}
use Rattle.std.specs.Option.{is_some}
use Rattle.std.proofs.lemmas.Option.{slice_get-get_or, slice_get_within}
use Rattle.operation.specs.declared.End.{End}
use Rattle.image_resched.specs.Laws.{OneRescheduled}
use Rattle.page_fault.specs.Loading.{Loading}
use Rattle.context_system.specs.declared.Event.{Event}
use Rattle.context_system.specs.declared.Event.TheVariants.{Turn}
use Rattle.context_system.specs.System.{System, step}
use Rattle.context_system.proofs.Still.{ended_stand_still}
use Rattle.contexts.specs.declared.seat.Seat.{Seat}
use Rattle.contexts.specs.Core.{Contexts, Holds}
use Rattle.contexts.specs.Standing.{Read, IsCore, seat_of, contexts_of}
use Rattle.contexts.proofs.Lists.{set_same, at_mapped}
use Rattle.contexts.proofs.Systems.{one_system, own_at, context_at}

pub has_no_end : (o : Option End) (b : Bool) → is_some o ≡ not b → b ≡ true → o ≡ None
has_no_end None b e f = refl
has_no_end (Some k) b e f = let t : not b ≡ false = ap not f in absurd (let no : ⊥ = cc in no)

pub has_end : (o : Option End) (b : Bool) → is_some o ≡ not b → b ≡ false → IsSome o
has_end None b e f = let t : not b ≡ true = ap not f in absurd (let no : ⊥ = cc in no)
has_end (Some k) b e f = refl

-- the element at a place, as it is lent
pub lent_at : (seats : List Seat) (c : ℕ) (seat : Seat) → c < length seats → seat ≡ get_or seats c seat → slice_get seats c ≡ Some seat
lent_at seats c seat below same = slice_get-get_or seats c seat below ∙ ap (λ (e : Seat). Some e) (sym same)

-- a core that held a system did hold that one
pub held_is : OneRescheduled → (seats : List Seat) (loading : Loading) (reads : List Read) (core : IsCore seats loading reads) (s : System) →
    Holds (contexts_of seats loading) s → core.held ≡ s
held_is one seats loading reads core s h = sym (one_system one (contexts_of seats loading) s core.held h core.holds core.ready)

-- so what holds of a step of the one holds of a step of each
pub of_each : OneRescheduled → (seats : List Seat) (loading : Loading) (reads : List Read) (core : IsCore seats loading reads) (new : Contexts) (e : Event) →
    Holds new (step core.held e) → (s : System) → Holds (contexts_of seats loading) s → Holds new (step s e)
of_each one seats loading reads core new e h s held =
    subst (λ (t : System). Holds new (step t e)) (held_is one seats loading reads core s held) h

-- a context that has ended stays as it is
pub stays_ended : (seats : List Seat) (loading : Loading) (c : ℕ) (seat : Seat) → slice_get seats c ≡ Some seat → IsSome seat.end → (s : System) →
    Holds (contexts_of seats loading) s → Holds (contexts_of (slice_set seats c seat) loading) (step s (Turn c))
stays_ended seats loading c seat at ended s h =
    let mapped : slice_get (map seat_of seats) c ≡ Some (seat_of seat) = at_mapped seat_of seats c seat at in
    let x = context_at (contexts_of seats loading) s h c (slice_get_within (map seat_of seats) c (seat_of seat) mapped) in
    let own = own_at (contexts_of seats loading) s h c x.0 x.1 in
    let d = h.each c own.0 (seat_of seat) x.0 own.1 mapped x.1 in
    let over : IsSome x.0.end = subst IsSome (sym d.end) ended in
    subst (λ (l : List Seat). Holds (contexts_of l loading) (step s (Turn c))) (sym (set_same seats c seat at))
    (subst (Holds (contexts_of seats loading)) (sym (ended_stand_still s c x.0 x.1 over)) h)
