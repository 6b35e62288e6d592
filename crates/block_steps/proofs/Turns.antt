-- Writes by their landings.
use Rattle.std.proofs.Common.{◌≡◌, ℕ, ◌<◌, ◌≤◌, Bool, true, false, cond, List, [], ◌∷◌, ◌++◌, ◌⊎◌, inl, inr, refl, sym, ap, ◌∙◌, Option, Some, None, arith}
use Rattle.std.specs.Prelude.{nat_lt, nat_le, filter}
use Rattle.std.specs.List.{AllByRecursion}
use Rattle.std.proofs.lemmas.Bool.{cases_lt, lt-ltb, le-ltb}
use Rattle.timed_meaning.specs.declared.Cell.{Cell}
use Rattle.timed_meaning.specs.declared.Write.{Write}
use Rattle.timed_meaning.specs.Values.{same_cell, later, last_write, landed, pending}
use Rattle.block_steps.specs.Flight.{put_in_turn, in_turn, in_flight}

-- by their landings, the last to land first
abbrev pub Falls : List Write → Type 0
Falls [] = Unit {0}
Falls (w ∷ ws) = AllByRecursion (λ v. v.lands ≤ w.lands) ws × Falls ws

pub put_below : (t : ℕ) (w : Write) (vs : List Write) → w.lands ≤ t → AllByRecursion (λ v. v.lands ≤ t) vs → AllByRecursion (λ v. v.lands ≤ t) (put_in_turn w vs)
put_below t w [] h k = (h, tt)
put_below t w (v ∷ vs) h k = elim (nat_lt w.lands v.lands) as (λ b. AllByRecursion (λ v. v.lands ≤ t) (cond b (v ∷ put_in_turn w vs) (w ∷ (v ∷ vs)))) [
  | true ↦ (k.0, put_below t w vs h k.1)
  | false ↦ (h, k)
]

pub below_more : (s t : ℕ) (vs : List Write) → s ≤ t → AllByRecursion (λ v. v.lands ≤ s) vs → AllByRecursion (λ v. v.lands ≤ t) vs
below_more s t [] h k = tt
below_more s t (v ∷ vs) h k = let this : v.lands ≤ s = k.0 in (omega arith, below_more s t vs h k.1)

put_falls : (w : Write) (vs : List Write) → Falls vs → Falls (put_in_turn w vs)
put_falls w [] h = (tt, tt)
put_falls w (v ∷ vs) h = go (put_falls w vs h.1) (cases_lt w.lands v.lands)
  where
    go : Falls (put_in_turn w vs) → (w.lands < v.lands) ⊎ (v.lands ≤ w.lands) → Falls (put_in_turn w (v ∷ vs))
    go rest (inl lt) = rw (lt-ltb w.lands v.lands lt) (put_below v.lands w vs (omega arith) h.0, rest)
    go rest (inr le) = rw (le-ltb w.lands v.lands le) ((le, below_more v.lands w.lands vs le h.0), h)

pub falls : (ws : List Write) → Falls (in_turn ws)
falls [] = tt
falls (w ∷ ws) = put_falls w (in_turn ws) (falls ws)

-- writes that stand so stay so
pub put_first : (w : Write) (vs : List Write) → AllByRecursion (λ v. v.lands ≤ w.lands) vs → put_in_turn w vs ≡ w ∷ vs
put_first w [] h = refl
put_first w (v ∷ vs) h = rw (le-ltb w.lands v.lands h.0)

pub in_turn_falls : (ws : List Write) → Falls ws → in_turn ws ≡ ws
in_turn_falls [] h = refl
in_turn_falls (w ∷ ws) h = ap (put_in_turn w) (in_turn_falls ws h.1) ∙ put_first w ws h.0

pub in_turn_twice : (ws : List Write) → in_turn (in_turn ws) ≡ in_turn ws
in_turn_twice ws = in_turn_falls (in_turn ws) (falls ws)

-- ---- some of the writes

module _ (p : Write → Bool) where
  filter_put : (w : Write) (vs : List Write) → Falls vs → filter p (put_in_turn w vs) ≡ cond (p w) (put_in_turn w (filter p vs)) (filter p vs)
  filter_put w [] h = refl
  filter_put w (v ∷ vs) h = go (filter_put w vs h.1) (cases_lt w.lands v.lands) (p v) refl
    where
      below : (us : List Write) → AllByRecursion (λ u. u.lands ≤ v.lands) us → AllByRecursion (λ u. u.lands ≤ v.lands) (filter p us)
      below [] k = tt
      below (u ∷ us) k = elim (p u) as (λ b. AllByRecursion (λ u. u.lands ≤ v.lands) (cond b (u ∷ filter p us) (filter p us))) [
        | true ↦ (k.0, below us k.1)
        | false ↦ below us k.1
      ]

      early : (c b : Bool) → (w.lands < v.lands) → cond c (v ∷ cond b (put_in_turn w (filter p vs)) (filter p vs)) (cond b (put_in_turn w (filter p vs)) (filter p vs)) ≡ cond b (put_in_turn w (cond c (v ∷ filter p vs) (filter p vs))) (cond c (v ∷ filter p vs) (filter p vs))
      early true true lt = rw (lt-ltb w.lands v.lands lt)
      early true false lt = refl
      early false true lt = refl
      early false false lt = refl

      late : (c b : Bool) → (v.lands ≤ w.lands) → cond b (w ∷ cond c (v ∷ filter p vs) (filter p vs)) (cond c (v ∷ filter p vs) (filter p vs)) ≡ cond b (put_in_turn w (cond c (v ∷ filter p vs) (filter p vs))) (cond c (v ∷ filter p vs) (filter p vs))
      late true true le = rw (le-ltb w.lands v.lands le)
      late false true le = sym (put_first w (filter p vs) (below_more v.lands w.lands (filter p vs) le (below vs h.0)))
      late c false le = refl

      go : filter p (put_in_turn w vs) ≡ cond (p w) (put_in_turn w (filter p vs)) (filter p vs) → (w.lands < v.lands) ⊎ (v.lands ≤ w.lands) → (c : Bool) → p v ≡ c → filter p (put_in_turn w (v ∷ vs)) ≡ cond (p w) (put_in_turn w (filter p (v ∷ vs))) (filter p (v ∷ vs))
      go ih (inl lt) c e =
          rw (lt-ltb w.lands v.lands lt)
          (ap (λ us. cond (p v) (v ∷ us) us) ih ∙ early (p v) (p w) lt)
      go ih (inr le) c e =
          rw (le-ltb w.lands v.lands le)
          (late (p v) (p w) le)

  pub filter_in_turn : (ws : List Write) → filter p (in_turn ws) ≡ in_turn (filter p ws)
  filter_in_turn [] = refl
  filter_in_turn (w ∷ ws) =
      filter_put w (in_turn ws) (falls ws)
      ∙ ap (λ us. cond (p w) (put_in_turn w us) us) (filter_in_turn ws)
      ∙ go (p w)
    where
      go : (b : Bool) → cond b (put_in_turn w (in_turn (filter p ws))) (in_turn (filter p ws)) ≡ in_turn (cond b (w ∷ filter p ws) (filter p ws))
      go true = refl
      go false = refl

-- ---- the last write

-- of two writes that don't land together the order doesn't matter
later_turns : (v w : Write) (o : Option Write) → w.lands < v.lands → later v (later w o) ≡ later w (later v o)
later_turns v w None lt =
    let a : nat_lt v.lands w.lands ≡ false = le-ltb v.lands w.lands (omega arith) in
    let b : nat_lt w.lands v.lands ≡ true = lt-ltb w.lands v.lands lt in
    rw (a, b)
later_turns v w (Some u) lt = go (cases_lt w.lands u.lands) (cases_lt v.lands u.lands)
  where
    go : (w.lands < u.lands) ⊎ (u.lands ≤ w.lands) → (v.lands < u.lands) ⊎ (u.lands ≤ v.lands) → later v (later w (Some u)) ≡ later w (later v (Some u))
    go (inl a) (inl b) = rw (lt-ltb w.lands u.lands a, lt-ltb v.lands u.lands b, lt-ltb w.lands u.lands a)
    go (inl a) (inr b) = rw (lt-ltb w.lands u.lands a, le-ltb v.lands u.lands b, lt-ltb w.lands v.lands lt)
    go (inr a) (inl b) = absurd (omega arith)
    go (inr a) (inr b) =
        let c : nat_lt v.lands w.lands ≡ false = le-ltb v.lands w.lands (omega arith) in
        rw (le-ltb w.lands u.lands a, c, le-ltb v.lands u.lands b, lt-ltb w.lands v.lands lt)

last_put : (x : Cell) (w : Write) (vs : List Write) → last_write x (put_in_turn w vs) ≡ last_write x (w ∷ vs)
last_put x w [] = refl
last_put x w (v ∷ vs) = go (last_put x w vs) (cases_lt w.lands v.lands)
  where
    both : (a b : Bool) → (w.lands < v.lands) → cond a (later v (cond b (later w (last_write x vs)) (last_write x vs))) (cond b (later w (last_write x vs)) (last_write x vs)) ≡ cond b (later w (cond a (later v (last_write x vs)) (last_write x vs))) (cond a (later v (last_write x vs)) (last_write x vs))
    both true true lt = later_turns v w (last_write x vs) lt
    both true false lt = refl
    both false true lt = refl
    both false false lt = refl

    go : last_write x (put_in_turn w vs) ≡ last_write x (w ∷ vs) → (w.lands < v.lands) ⊎ (v.lands ≤ w.lands) → last_write x (put_in_turn w (v ∷ vs)) ≡ last_write x (w ∷ (v ∷ vs))
    go ih (inl lt) =
        rw (lt-ltb w.lands v.lands lt)
        (ap (λ o. cond (same_cell x v.cell) (later v o) o) ih ∙ both (same_cell x v.cell) (same_cell x w.cell) lt)
    go ih (inr le) = rw (le-ltb w.lands v.lands le)

pub last_in_turn : (x : Cell) (ws : List Write) → last_write x (in_turn ws) ≡ last_write x ws
last_in_turn x [] = refl
last_in_turn x (w ∷ ws) = last_put x w (in_turn ws) ∙ ap (λ o. cond (same_cell x w.cell) (later w o) o) (last_in_turn x ws)

pub last_landed_in_turn : (x : Cell) (t : ℕ) (ws : List Write) → last_write x (landed t (in_turn ws)) ≡ last_write x (landed t ws)
last_landed_in_turn x t ws = ap (last_write x) (filter_in_turn (λ w. nat_le w.lands t) ws) ∙ last_in_turn x (landed t ws)

pub pending_in_turn : (t : ℕ) (ws : List Write) → pending t (in_turn ws) ≡ in_flight t ws
pending_in_turn t ws = filter_in_turn (λ w. nat_lt t w.lands) ws

pub in_turn_append : (us vs ws : List Write) → in_turn vs ≡ in_turn ws → in_turn (us ++ vs) ≡ in_turn (us ++ ws)
in_turn_append [] vs ws e = e
in_turn_append (u ∷ us) vs ws e = ap (put_in_turn u) (in_turn_append us vs ws e)

-- ---- later cycles

pub pending_later : (s t : ℕ) (ws : List Write) → s ≤ t → pending t (pending s ws) ≡ pending t ws
pending_later s t [] h = refl
pending_later s t (w ∷ ws) h = go (pending_later s t ws h) (cases_lt s w.lands)
  where
    go : pending t (pending s ws) ≡ pending t ws → (s < w.lands) ⊎ (w.lands ≤ s) → pending t (pending s (w ∷ ws)) ≡ pending t (w ∷ ws)
    go ih (inl lt) = rw (lt-ltb s w.lands lt) (ap (λ us. cond (nat_lt t w.lands) (w ∷ us) us) ih)
    go ih (inr le) =
        let e : nat_lt t w.lands ≡ false = le-ltb t w.lands (omega arith) in
        rw (le-ltb s w.lands le, e) ih

-- what is in flight at a later cycle is among what was in flight
pub flight_later : (s t : ℕ) (vs ws : List Write) → s ≤ t → in_turn vs ≡ in_flight s ws → in_flight t vs ≡ in_flight t ws
flight_later s t vs ws h e =
    sym (pending_in_turn t vs)
    ∙ ap (pending t) e
    ∙ pending_in_turn t (pending s ws)
    ∙ ap in_turn (pending_later s t ws h)
