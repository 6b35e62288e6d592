-- Turns of one context, one after another.
use Rattle.std.proofs.Common.{◌≡◌, ◌<◌, ◌≤◌, ℕ, zero, suc, ◌+◌, ◌-◌, length, replicate, refl, sym, ap, subst, ◌∙◌, Option, arith}
use Rattle.std.specs.Prelude.{slice_get, IfSome, IsSome}
use Rattle.operation.specs.declared.End.{End}
use Rattle.context_system.specs.declared.Event.{Event}
use Rattle.context_system.specs.declared.Event.TheVariants.{Turn}
use Rattle.context_system.specs.System.{System, step, play}
use Rattle.context_system.proofs.Still.{ended_stand_still}
use Rattle.contexts.specs.Core.{Seat, Contexts, Holds, RunsStill}
use Rattle.contexts.proofs.Lists.{there_is}
use Rattle.contexts.proofs.Systems.{own_at, context_at}

one_more : (e : Event) (k : ℕ) (s : System) → play s (replicate (k + 1) e) ≡ step (play s (replicate k e)) e
one_more e zero s = refl
one_more e (suc k) s =
    let more : suc k + 1 ≡ suc (k + 1) = omega arith in
    ap (λ (n : ℕ). play s (replicate n e)) more ∙ one_more e k (step s e)

split : (e : Event) (k m : ℕ) (s : System) → play s (replicate (k + m) e) ≡ play (play s (replicate k e)) (replicate m e)
split e zero m s = let same : zero + m ≡ m = omega arith in ap (λ (n : ℕ). play s (replicate n e)) same
split e (suc k) m s =
    let more : suc k + m ≡ suc (k + m) = omega arith in
    ap (λ (n : ℕ). play s (replicate n e)) more ∙ split e k m (step s e)

still : (e : Event) (s : System) → step s e ≡ s → (m : ℕ) → play s (replicate m e) ≡ s
still e s h zero = refl
still e s h (suc m) = ap (λ (t : System). play t (replicate m e)) h ∙ still e s h m

-- behind k of so many turns
pub record IsBehindTurns (old new : Contexts) (c times k : ℕ) : Type 0 where
  pub below : k ≤ times
  pub held : (s : System) → Holds old s → Holds new (play s (replicate k (Turn c)))
  pub kept : RunsStill old new

pub none_yet : (old : Contexts) (c times : ℕ) → IsBehindTurns old old c times 0
none_yet old c times = record { below = omega arith; held = λ s h. h; kept = record { contexts = refl; programs = refl } }

pub one_more_turn : (old core new : Contexts) (c times k : ℕ) → IsBehindTurns old core c times k → k < times →
    ((s : System) → Holds core s → Holds new (step s (Turn c))) → RunsStill core new → IsBehindTurns old new c times (k + 1)
one_more_turn old core new c times k h lt turn kept = record {
  below = omega arith;
  held = λ s held. subst (Holds new) (sym (one_more (Turn c) k s)) (turn (play s (replicate k (Turn c))) (h.held s held));
  kept = record { contexts = kept.contexts ∙ h.kept.contexts; programs = kept.programs ∙ h.kept.programs };
}

pub all_turns : (old new : Contexts) (c times k : ℕ) → IsBehindTurns old new c times k → times ≤ k → (s : System) → Holds old s →
    Holds new (play s (replicate times (Turn c)))
all_turns old new c times k h ge s held =
    let below = h.below in
    let all : k ≡ times = omega arith in
    subst (λ (m : ℕ). Holds new (play s (replicate m (Turn c)))) all (h.held s held)

-- where the context has ended the other turns change nothing
pub turns_over : (old core : Contexts) (c times k : ℕ) → IsBehindTurns old core c times k → c < length core.seats → (end : Option End) →
    IfSome (slice_get core.seats c) (λ seat. end ≡ seat.end) → IsSome end → (s : System) → Holds old s → Holds core (play s (replicate times (Turn c)))
turns_over old core c times k h lt end same over s held =
    let now = h.held s held in
    let seat = there_is core.seats c lt in
    let x = context_at core (play s (replicate k (Turn c))) now c lt in
    let own = own_at core (play s (replicate k (Turn c))) now c x.0 x.1 in
    let d = now.each c own.0 seat.0 x.0 own.1 seat.1 x.1 in
    let here : end ≡ seat.0.end = subst (λ (o : Option Seat). IfSome o (λ seat. end ≡ seat.end)) seat.1 same in
    let ended : IsSome x.0.end = subst IsSome (here ∙ sym d.end) over in
    let below = h.below in
    let rest : k + (times - k) ≡ times = omega arith in
    let stay : play (play s (replicate k (Turn c))) (replicate (times - k) (Turn c)) ≡ play s (replicate k (Turn c)) =
    still (Turn c) (play s (replicate k (Turn c))) (ended_stand_still (play s (replicate k (Turn c))) c x.0 x.1 ended) (times - k) in
    subst (λ (n : ℕ). Holds core (play s (replicate n (Turn c)))) rest
    (subst (Holds core) (sym (split (Turn c) k (times - k) s ∙ stay)) now)
