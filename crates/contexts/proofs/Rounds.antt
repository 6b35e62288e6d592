-- Turns round the contexts.
use Rattle.std.proofs.Common.{◌≡◌, ℕ, zero, suc, ◌+◌, ◌-◌, ◌<◌, ◌≤◌, Bool, true, ◌&&◌, List, [], ◌∷◌, ◌++◌, length, map, refl, sym, ap, subst, ◌∙◌, Option, Some, None, arith}
use Rattle.std.specs.Prelude.{slice_get, slice_set, IsSome, is_some}
use Rattle.std.specs.List.{range_with_len, list_all}
use Rattle.std.proofs.lemmas.Bool.{and_parts}
use Rattle.std.proofs.lemmas.List.FromFn.{map-range_with_len_more}
use Rattle.context_system.specs.declared.Event.{Event}
use Rattle.context_system.specs.declared.Event.TheVariants.{Turn, Evict, Drop, Prefetch}
use Rattle.context_system.specs.Context.{Context, turn}
use Rattle.context_system.specs.System.{System, step, play, rounds, paging_for_turn}
use Rattle.context_system.proofs.Still.{ended_stand_still}
use Rattle.contexts.specs.declared.seat.Seat as code
use Rattle.contexts.specs.Core.{Seat, Contexts, Holds}
use Rattle.page_fault.specs.Loading.{Loading}
use Rattle.contexts.specs.Standing.{Read, IsCore, seat_of, contexts_of}
use Rattle.contexts.proofs.Lists.{length_set}
use Rattle.contexts.proofs.Systems.{seat_at, own_at}

-- the turns of the contexts below n in order
abbrev pub turns_below : ℕ → List Event
turns_below n = map Turn (range_with_len 0 n)

pub play_append : (s : System) (es fs : List Event) → play s (es ++ fs) ≡ play (play s es) fs
play_append s [] fs = refl
play_append s (e ∷ es) fs = play_append (step s e) es fs

pub one_more_turn : (s : System) (n : ℕ) → play s (turns_below (n + 1)) ≡ step (play s (turns_below n)) (Turn n)
one_more_turn s n = ap (play s) (map-range_with_len_more Turn 0 n n (omega arith)) ∙ play_append s (turns_below n) (Turn n ∷ [])

pub one_round : (s : System) (n : ℕ) → play s (rounds n 1) ≡ play s (turns_below n)
one_round s n = play_append s (turns_below n) []

-- no event changes how many contexts there are
step_length : (s : System) (e : Event) → length (step s e).contexts ≡ length s.contexts
step_length s (Turn c) = go (slice_get s.contexts c)
  where
    go : (o : Option Context) → let t : System = elim o [
      | None ↦ s
      | Some x ↦ record { contexts = slice_set s.contexts c (turn x); paging = paging_for_turn s.contexts x s.paging }
    ] in length t.contexts ≡ length s.contexts
    go None = refl
    go (Some x) = length_set s.contexts c (turn x)
step_length s (Evict k) = refl
step_length s (Drop k) = refl
step_length s (Prefetch k) = refl

pub play_length : (s : System) (es : List Event) → length (play s es).contexts ≡ length s.contexts
play_length s [] = refl
play_length s (e ∷ es) = play_length (step s e) es ∙ step_length s e

-- more rounds, behind some
pub rounds_more : (n k m : ℕ) (s : System) → play s (rounds n (k + m)) ≡ play (play s (rounds n k)) (rounds n m)
rounds_more n zero m s = let e : zero + m ≡ m = omega arith in ap (λ (j : ℕ). play s (rounds n j)) e
rounds_more n (suc k) m s =
    let e : suc k + m ≡ suc (k + m) = omega arith in
    ap (λ (j : ℕ). play s (rounds n j)) e
    ∙ play_append s (turns_below n) (rounds n (k + m))
    ∙ rounds_more n k m (play s (turns_below n))
    ∙ ap (λ (t : System). play t (rounds n m)) (sym (play_append s (turns_below n) (rounds n k)))

-- ---- where all have ended nothing changes

-- all contexts of a system have ended
abbrev pub AllEnded : System → Type 0
AllEnded s = (c : ℕ) (x : Context) → slice_get s.contexts c ≡ Some x → IsSome x.end

still_step : (s : System) → AllEnded s → (c : ℕ) → step s (Turn c) ≡ s
still_step s h c = go (slice_get s.contexts c) refl
  where
    go : (o : Option Context) → slice_get s.contexts c ≡ o → step s (Turn c) ≡ s
    go None e = ap (λ (o : Option Context). let t : System = elim o [
      | None ↦ s
      | Some x ↦ record { contexts = slice_set s.contexts c (turn x); paging = paging_for_turn s.contexts x s.paging }
    ] in t) e
    go (Some x) e = ended_stand_still s c x e (h c x e)

still_turns : (s : System) → AllEnded s → (cs : List ℕ) → play s (map Turn cs) ≡ s
still_turns s h [] = refl
still_turns s h (c ∷ cs) = ap (λ (t : System). play t (map Turn cs)) (still_step s h c) ∙ still_turns s h cs

pub still_rounds : (s : System) → AllEnded s → (n k : ℕ) → play s (rounds n k) ≡ s
still_rounds s h n zero = refl
still_rounds s h n (suc k) =
    play_append s (turns_below n) (rounds n k) ∙ ap (λ (t : System). play t (rounds n k)) (still_turns s h (range_with_len 0 n)) ∙ still_rounds s h n k

at_all : (seats : List Seat) → list_all (λ seat. is_some seat.end) seats ≡ true → (c : ℕ) (seat : Seat) → slice_get seats c ≡ Some seat → IsSome seat.end
at_all [] h c seat e = absurd (let no : ⊥ = cc in no)
at_all (x ∷ xs) h zero seat e =
    let same : x ≡ seat = cc in
    subst (λ (z : Seat). IsSome z.end) same (and_parts (is_some x.end) (list_all (λ seat. is_some seat.end) xs) h).0
at_all (x ∷ xs) h (suc c) seat e = at_all xs (and_parts (is_some x.end) (list_all (λ seat. is_some seat.end) xs) h).1 c seat e

pub all_ended : (core : Contexts) (s : System) → Holds core s → list_all (λ seat. is_some seat.end) core.seats ≡ true → AllEnded s
all_ended core s h all c x at =
    let seat = seat_at core s h c x at in
    let own = own_at core s h c x at in
    let d = h.each c own.0 seat.0 x own.1 seat.1 at in
    subst IsSome (sym d.end) (at_all core.seats all c seat.0 seat.1)

-- the seats as they are seen
pub all_seen : (seats : List code.Seat) → list_all (λ seat. is_some seat.end) (map seat_of seats) ≡ list_all (λ (seat : code.Seat). is_some seat.end) seats
all_seen [] = refl
all_seen (x ∷ xs) = ap (λ (b : Bool). is_some x.end && b) (all_seen xs)

-- ---- a loop of rounds

pub round_on : (s : System) (n k : ℕ) (new : Contexts) → n ≡ length s.contexts → (held : System) → held ≡ play s (rounds n k) →
    Holds new (play held (rounds (length held.contexts) 1)) → Holds new (play s (rounds n (k + 1)))
round_on s n k new many held is h =
    let same : length held.contexts ≡ n = ap (λ (t : System). length t.contexts) is ∙ play_length s (rounds n k) ∙ sym many in
    subst (Holds new) (sym (rounds_more n k 1 s))
    (subst (λ (t : System). Holds new (play t (rounds n 1))) is (subst (λ (m : ℕ). Holds new (play held (rounds m 1))) same h))

pub rounds_over : (s : System) (n k times : ℕ) (core : Contexts) → k ≤ times → Holds core (play s (rounds n k)) →
    list_all (λ seat. is_some seat.end) core.seats ≡ true → Holds core (play s (rounds n times))
rounds_over s n k times core below h all =
    let split : k + (times - k) ≡ times = omega arith in
    let stay : play (play s (rounds n k)) (rounds n (times - k)) ≡ play s (rounds n k) =
    still_rounds (play s (rounds n k)) (all_ended core (play s (rounds n k)) h all) n (times - k) in
    subst (λ (j : ℕ). Holds core (play s (rounds n j))) split
    (subst (Holds core) (sym (rounds_more n k (times - k) s ∙ stay)) h)

-- within a round, before the turn of the context c of n
pub record IsInRound (old : Contexts) (seats : List code.Seat) (loading : Loading) (reads : List Read) (n c : ℕ) : Type 0 where
  pub core : IsCore seats loading reads
  pub size : length seats ≡ n
  pub first : length old.seats ≡ n
  pub below : c ≤ n
  pub held : (s : System) → Holds old s → Holds (contexts_of seats loading) (play s (turns_below c))

pub turned_on : (old : Contexts) (seats seats' : List code.Seat) (loading loading' : Loading) (reads reads' : List Read) (n c : ℕ) → IsInRound old seats loading reads n c → c < n →
    IsCore seats' loading' reads' → length seats' ≡ length seats →
    ((s : System) → Holds (contexts_of seats loading) s → Holds (contexts_of seats' loading') (step s (Turn c))) → IsInRound old seats' loading' reads' n (c + 1)
turned_on old seats seats' loading loading' reads reads' n c h lt core size turn = record {
  core = core;
  size = size ∙ h.size;
  first = h.first;
  below = omega arith;
  held = λ s held. subst (Holds (contexts_of seats' loading')) (sym (one_more_turn s c)) (turn (play s (turns_below c)) (h.held s held));
}

pub round_over : (old : Contexts) (seats : List code.Seat) (loading : Loading) (reads : List Read) (n c : ℕ) → IsInRound old seats loading reads n c → n ≤ c →
    (s : System) → Holds old s → Holds (contexts_of seats loading) (play s (rounds (length s.contexts) 1))
round_over old seats loading reads n c h ge s held =
    let below = h.below in
    let all : c ≡ n = omega arith in
    let many : c ≡ length s.contexts = all ∙ sym h.first ∙ held.seats in
    subst (λ (m : ℕ). Holds (contexts_of seats loading) (play s (rounds m 1))) many
    (subst (Holds (contexts_of seats loading)) (sym (one_round s c)) (h.held s held))

-- behind k of so many rounds
pub record IsBehindRounds (old new : Contexts) (times k : ℕ) : Type 0 where
  pub below : k ≤ times
  pub held : (s : System) → Holds old s → Holds new (play s (rounds (length s.contexts) k))

pub one_more_round : (old core new : Contexts) (times k : ℕ) → IsBehindRounds old core times k → k < times →
    ((s : System) → Holds core s → Holds new (play s (rounds (length s.contexts) 1))) → IsBehindRounds old new times (k + 1)
one_more_round old core new times k h lt round = record {
  below = omega arith;
  held = λ s held. round_on s (length s.contexts) k new refl (play s (rounds (length s.contexts) k)) refl (round (play s (rounds (length s.contexts) k)) (h.held s held));
}

pub all_over : (old new : Contexts) (times k : ℕ) → IsBehindRounds old new times k → times ≤ k → (s : System) → Holds old s →
    Holds new (play s (rounds (length s.contexts) times))
all_over old new times k h ge s held =
    let below = h.below in
    let all : k ≡ times = omega arith in
    subst (λ (m : ℕ). Holds new (play s (rounds (length s.contexts) m))) all (h.held s held)
