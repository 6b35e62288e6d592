-- The wheel as writes in flight, and one more landing.
use Rattle.std.proofs.Common.{◌≡◌, ◌≢◌, ℕ, zero, suc, ◌+◌, ◌-◌, ◌%◌, ◌<◌, ◌≤◌, List, [], ◌∷◌, ◌++◌, ◌⊎◌, inl, inr, length, set, refl, ap, sym, subst, ◌∙◌, arith, length-append, get_or-set_same, get_or-set_other}
use Rattle.std.specs.List.{AllByRecursion}
use Rattle.std.proofs.lemmas.Bool.{cases_lt, lt-ltb}
use Rattle.timed_meaning.specs.declared.Cell.{Cell}
use Rattle.timed_meaning.specs.declared.Write.{Write}
use Rattle.timed_meaning.specs.Block.{landing}
use Rattle.block_steps.specs.Flight.{put_in_turn, in_turn}
use Rattle.block_steps.proofs.Turns.{Falls, below_more, in_turn_falls}
use Rattle.operation.specs.declared.Size.TheVariants.{Word, Half, HalfU, Byte, ByteU}
use Rattle.cycle_sim.specs.declared.registers.Landing.{Landing}
use Rattle.cycle_sim.specs.declared.registers.Landing.TheVariants.{General, Predicate, Target, Bytes}
use Rattle.cycle_sim.specs.Registers.{values_of}
use Rattle.cycle_sim.specs.Wheel.{values_in, slot_at, flight_within, flight_of}
use Rattle.cycle_sim.proofs.Landings.{values_more}
use Rattle.cycle_sim.proofs.Cells.{landing_by}

-- ---- slots of different cycles

-- cycles that are less than 32 apart have different slots
pub apart : (s t : ℕ) → s < t → t < s + 32 → s % 32 ≢ t % 32
apart s t h k = omega arith

pub slot_other : (slots : List (List Landing)) (s t : ℕ) (slot : List Landing) → s % 32 ≢ t % 32 → slot_at (set slots (s % 32) slot) t ≡ slot_at slots t
slot_other slots s t slot h = let ne : t % 32 ≢ s % 32 = (λ e. h (sym e)) in get_or-set_other slots (s % 32) (t % 32) slot [] ne

pub slot_same : (slots : List (List Landing)) (s : ℕ) (slot : List Landing) → length slots ≡ 32 → slot_at (set slots (s % 32) slot) s ≡ slot
slot_same slots s slot h = get_or-set_same slots (s % 32) slot [] (omega arith)

-- ---- which writes are in flight

pub both_by : (t : ℕ) (us ws : List Write) → AllByRecursion (λ w. w.lands ≤ t) us → AllByRecursion (λ w. w.lands ≤ t) ws → AllByRecursion (λ w. w.lands ≤ t) (us ++ ws)
both_by t [] ws h k = k
both_by t (u ∷ us) ws h k = (h.0, both_by t us ws h.1 k)

pub within_by : (slots : List (List Landing)) (t n : ℕ) → AllByRecursion (λ w. w.lands ≤ t + n) (flight_within slots t n)
within_by slots t zero = tt
within_by slots t (suc n) =
    both_by (t + suc n) (landing (t + suc n) (values_in (slot_at slots (t + suc n)))) (flight_within slots t n)
    (landing_by (t + suc n) (values_in (slot_at slots (t + suc n))))
    (below_more (t + n) (t + suc n) (flight_within slots t n) (omega arith) (within_by slots t n))

landing_falls : (t : ℕ) (vs : List (Cell × ℕ)) (ws : List Write) → AllByRecursion (λ w. w.lands ≤ t) ws → Falls ws → Falls (landing t vs ++ ws)
landing_falls t [] ws h k = k
landing_falls t (v ∷ vs) ws h k = (both_by t (landing t vs) ws (landing_by t vs) h, landing_falls t vs ws h k)

pub within_falls : (slots : List (List Landing)) (t n : ℕ) → Falls (flight_within slots t n)
within_falls slots t zero = tt
within_falls slots t (suc n) =
    landing_falls (t + suc n) (values_in (slot_at slots (t + suc n))) (flight_within slots t n)
    (below_more (t + n) (t + suc n) (flight_within slots t n) (omega arith) (within_by slots t n))
    (within_falls slots t n)

-- ---- one more landing

-- writes that land together and no earlier than the others stand in front
front : (s : ℕ) (us : List (Cell × ℕ)) (ws : List Write) → AllByRecursion (λ w. w.lands ≤ s) ws → Falls ws → in_turn (landing s us ++ ws) ≡ landing s us ++ ws
front s us ws h k = in_turn_falls (landing s us ++ ws) (landing_falls s us ws h k)

-- and otherwise behind those that land later
put_pass : (w : Write) (t : ℕ) (vs : List (Cell × ℕ)) (ws : List Write) → w.lands < t → put_in_turn w (landing t vs ++ ws) ≡ landing t vs ++ put_in_turn w ws
put_pass w t [] ws h = refl
put_pass w t (v ∷ vs) ws h = rw (lt-ltb w.lands t h) (ap (λ l. record { cell = v.0; value = v.1; lands = t } ∷ l) (put_pass w t vs ws h))

all_pass : (s t : ℕ) (us vs : List (Cell × ℕ)) (ws : List Write) → s < t → in_turn (landing t vs ++ ws) ≡ landing t vs ++ in_turn ws → in_turn (landing s us ++ (landing t vs ++ ws)) ≡ landing t vs ++ in_turn (landing s us ++ ws)
all_pass s t [] vs ws h e = e
all_pass s t (u ∷ us) vs ws h e =
    let w : Write = record { cell = u.0; value = u.1; lands = s } in
    ap (put_in_turn w) (all_pass s t us vs ws h e) ∙ put_pass w t vs (in_turn (landing s us ++ ws)) h

module _ (slots : List (List Landing)) (t s : ℕ) (x : Landing) (whole : length slots ≡ 32) (late : t < s) (early : s ≤ t + 32) where
  abbrev more : List (List Landing)
  more = set slots (s % 32) (slot_at slots s ++ x ∷ [])

  -- slots before that of the cycle
  below : (n : ℕ) → t + n < s → flight_within more t n ≡ flight_within slots t n
  below zero h = refl
  below (suc n) h =
      let ne : s % 32 ≢ (t + suc n) % 32 = (λ e. apart (t + suc n) s h (omega arith) (sym e)) in
      ap (λ l. landing (t + suc n) (values_in l) ++ flight_within more t n) (slot_other slots s (t + suc n) (slot_at slots s ++ x ∷ []) ne)
      ∙ ap (λ l. landing (t + suc n) (values_in (slot_at slots (t + suc n))) ++ l) (below n (omega arith))

  landing_append : (us vs : List (Cell × ℕ)) (ws : List Write) → landing s (us ++ vs) ++ ws ≡ landing s us ++ (landing s vs ++ ws)
  landing_append [] vs ws = refl
  landing_append (u ∷ us) vs ws = ap (λ l. record { cell = u.0; value = u.1; lands = s } ∷ l) (landing_append us vs ws)

  -- the slot itself
  here : (n : ℕ) → t + suc n ≡ s → flight_within more t (suc n) ≡ in_turn (landing s (values_of x) ++ flight_within slots t (suc n))
  here n e =
      let old = slot_at slots s in
      let rest = flight_within slots t n in
      let low : AllByRecursion (λ w. w.lands ≤ s) (flight_within slots t (suc n)) = subst (λ m. AllByRecursion (λ w. w.lands ≤ m) (flight_within slots t (suc n))) e (within_by slots t (suc n)) in
      ap (λ m. landing m (values_in (slot_at more m)) ++ flight_within more t n) e
      ∙ ap (λ l. landing s (values_in l) ++ flight_within more t n) (slot_same slots s (old ++ x ∷ []) whole)
      ∙ ap (λ l. landing s l ++ flight_within more t n) (values_more old x)
      ∙ ap (λ l. landing s (values_of x ++ values_in old) ++ l) (below n (omega arith))
      ∙ landing_append (values_of x) (values_in old) rest
      ∙ ap (λ m. landing s (values_of x) ++ (landing m (values_in (slot_at slots m)) ++ rest)) (sym e)
      ∙ sym (front s (values_of x) (flight_within slots t (suc n)) low (within_falls slots t (suc n)))

  -- slots behind it
  above : (n i : ℕ) → t + suc i ≡ s → n ≤ 32 → suc i ≤ n → flight_within more t n ≡ in_turn (landing s (values_of x) ++ flight_within slots t n)
  above zero i e few le = absurd (omega arith)
  above (suc n) i e few le = go (λ g. above n i e (omega arith) g) (cases_lt i n)
    where
      go : (suc i ≤ n → flight_within more t n ≡ in_turn (landing s (values_of x) ++ flight_within slots t n)) → (i < n) ⊎ (n ≤ i) → flight_within more t (suc n) ≡ in_turn (landing s (values_of x) ++ flight_within slots t (suc n))
      go ih (inr g) = let same : i ≡ n = omega arith in here n (subst (λ m. t + suc m ≡ s) same e)
      go ih (inl g) =
          let u = t + suc n in
          let vs = values_in (slot_at slots u) in
          let ne : s % 32 ≢ u % 32 = apart s u (omega arith) (omega arith) in
          let sorted : in_turn (flight_within slots t (suc n)) ≡ flight_within slots t (suc n) = in_turn_falls (flight_within slots t (suc n)) (within_falls slots t (suc n)) in
          let rest : flight_within slots t n ≡ in_turn (flight_within slots t n) = sym (in_turn_falls (flight_within slots t n) (within_falls slots t n)) in
          ap (λ l. landing u (values_in l) ++ flight_within more t n) (slot_other slots s u (slot_at slots s ++ x ∷ []) ne)
          ∙ ap (λ l. landing u vs ++ l) (ih g)
          ∙ sym (all_pass s u (values_of x) vs (flight_within slots t n) (omega arith) (sorted ∙ ap (λ l. landing u vs ++ l) rest))

  pub flight_more : flight_of more t ≡ in_turn (landing s (values_of x) ++ flight_of slots t)
  unfolding flight_of
  flight_more = above 32 (s - t - 1) (omega arith) (omega arith) (omega arith)

pub flight_sorted : (slots : List (List Landing)) (t : ℕ) → in_turn (flight_of slots t) ≡ flight_of slots t
unfolding flight_of
flight_sorted slots t = in_turn_falls (flight_within slots t 32) (within_falls slots t 32)

-- ---- how many writes are in flight

some_values : (x : Landing) → 1 ≤ length (values_of x)
some_values (General n v) = omega arith
some_values (Predicate n b) = omega arith
some_values (Target n v) = omega arith
some_values (Bytes Word a v) = omega arith
some_values (Bytes Half a v) = omega arith
some_values (Bytes HalfU a v) = omega arith
some_values (Bytes Byte a v) = omega arith
some_values (Bytes ByteU a v) = omega arith

values_many : (xs : List Landing) → length xs ≤ length (values_in xs)
values_many [] = omega arith
values_many (x ∷ xs) = omega (arith, some_values x, values_many xs, length-append (values_in xs) (values_of x))

length-landing : (t : ℕ) (vs : List (Cell × ℕ)) → length (landing t vs) ≡ length vs
length-landing t [] = refl
length-landing t (v ∷ vs) = ap suc (length-landing t vs)

pub length-landings : (t : ℕ) (vs : List (Cell × ℕ)) (ws : List Write) → length (landing t vs ++ ws) ≡ length vs + length ws
length-landings t vs ws = length-append (landing t vs) ws ∙ ap (λ n. n + length ws) (length-landing t vs)

slot_within : (slots : List (List Landing)) (t n k : ℕ) → suc k ≤ n → length (slot_at slots (t + suc k)) ≤ length (flight_within slots t n)
slot_within slots t zero k h = absurd (omega arith)
slot_within slots t (suc n) k h = go (λ g. slot_within slots t n k g) (cases_lt k n)
  where
    this : ℕ → List Landing
    this m = slot_at slots (t + suc m)

    go : (suc k ≤ n → length (slot_at slots (t + suc k)) ≤ length (flight_within slots t n)) → (k < n) ⊎ (n ≤ k) → length (slot_at slots (t + suc k)) ≤ length (flight_within slots t (suc n))
    go ih (inl g) =
        let rest = ih g in
        omega (arith, length-landings (t + suc n) (values_in (slot_at slots (t + suc n))) (flight_within slots t n))
    go ih (inr g) =
        let same : k ≡ n = omega arith in
        let at = ap (λ m. length (slot_at slots (t + suc m))) same in
        omega (arith, values_many (slot_at slots (t + suc n)), length-landings (t + suc n) (values_in (slot_at slots (t + suc n))) (flight_within slots t n))

pub slot_few : (slots : List (List Landing)) (t s : ℕ) → t < s → s ≤ t + 32 → length (slot_at slots s) ≤ length (flight_of slots t)
unfolding flight_of
slot_few slots t s h k =
    let e : t + suc (s - t - 1) ≡ s = omega arith in
    subst (λ n. length (slot_at slots n) ≤ length (flight_within slots t 32)) e (slot_within slots t 32 (s - t - 1) (omega arith))
