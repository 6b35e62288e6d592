-- The wheel as it turns: slots that are emptied, and the state into which they are.
use Rattle.std.proofs.Common.{◌≡◌, ◌≢◌, ℕ, zero, suc, ◌+◌, ◌-◌, ◌*◌, ◌%◌, ◌<◌, ◌≤◌, min, List, [], ◌∷◌, ◌++◌, ◌⊎◌, inl, inr, length, get_or, set, refl, ap, sym, subst, ◌∙◌, arith, length-set, get_or-set_same}
use Rattle.std.specs.List.{AllByRecursion}
use Rattle.std.proofs.lemmas.Bool.{cases_lt, lt-ltb, le-ltb, le-leb, lt-leb}
use Rattle.timed_meaning.specs.declared.Cell.{Cell}
use Rattle.timed_meaning.specs.declared.Write.{Write}
use Rattle.timed_meaning.specs.Values.{State, entry_value, last_write, landed, pending}
use Rattle.timed_meaning.specs.Block.{landing}
use Rattle.block_steps.specs.Flight.{in_turn, in_flight}
use Rattle.block_steps.proofs.Turns.{below_more, in_turn_falls, pending_in_turn}
use Rattle.cycle_sim.specs.declared.registers.Landing.{Landing}
use Rattle.cycle_sim.specs.Registers.{all_set}
use Rattle.cycle_sim.specs.Wheel.{values_in, slot_at, flight_within, flight_of, emptied_into, emptied}
use Rattle.cycle_sim.proofs.Flights.{apart, slot_other, within_by, within_falls, slot_few}
use Rattle.cycle_sim.proofs.Cells.{SameSizes, same_sizes, sizes_along, set_sizes, IsThere, there_along, held_or, set_value, last_over, held_over}

-- ---- emptied slots

pub length-emptied : (slots : List (List Landing)) (t n : ℕ) → length (emptied slots t n) ≡ length slots
length-emptied slots t zero = refl
length-emptied slots t (suc n) = length-set (emptied slots t n) ((t + suc n) % 32) [] ∙ length-emptied slots t n

-- slots of cycles behind those
pub emptied_out : (slots : List (List Landing)) (t n s : ℕ) → t + n < s → s ≤ t + 32 → slot_at (emptied slots t n) s ≡ slot_at slots s
emptied_out slots t zero s h k = refl
emptied_out slots t (suc n) s h k =
    slot_other (emptied slots t n) (t + suc n) s [] (apart (t + suc n) s h (omega arith)) ∙ emptied_out slots t n s (omega arith) k

-- and those
emptied_in : (slots : List (List Landing)) (t n i s : ℕ) → length slots ≡ 32 → n ≤ 32 → suc i ≤ n → (t + suc i) % 32 ≡ s % 32 → slot_at (emptied slots t n) s ≡ []
emptied_in slots t zero i s whole few le e = absurd (omega arith)
emptied_in slots t (suc n) i s whole few le e = go (λ g. emptied_in slots t n i s whole (omega arith) g e) (cases_lt i n)
  where
    go : (suc i ≤ n → slot_at (emptied slots t n) s ≡ []) → (i < n) ⊎ (n ≤ i) → slot_at (emptied slots t (suc n)) s ≡ []
    go ih (inl g) =
        let ne : (t + suc n) % 32 ≢ s % 32 = (λ f. apart (t + suc i) (t + suc n) (omega arith) (omega arith) (e ∙ sym f)) in
        slot_other (emptied slots t n) (t + suc n) s [] ne ∙ ih g
    go ih (inr g) =
        let same : i ≡ n = omega arith in
        let at : (t + suc n) % 32 ≡ s % 32 = subst (λ m. (t + suc m) % 32 ≡ s % 32) same e in
        let long : length (emptied slots t n) ≡ 32 = length-emptied slots t n ∙ whole in
        ap (λ m. get_or (set (emptied slots t n) ((t + suc n) % 32) []) m []) (sym at)
        ∙ get_or-set_same (emptied slots t n) ((t + suc n) % 32) [] [] (omega arith)

-- writes that land later are pending
pending_landing : (u t : ℕ) (vs : List (Cell × ℕ)) (ws : List Write) → u < t → pending u (landing t vs ++ ws) ≡ landing t vs ++ pending u ws
pending_landing u t [] ws h = refl
pending_landing u t (v ∷ vs) ws h = rw (lt-ltb u t h) (ap (λ l. record { cell = v.0; value = v.1; lands = t } ∷ l) (pending_landing u t vs ws h))

none_pending : (u : ℕ) (ws : List Write) → AllByRecursion (λ w. w.lands ≤ u) ws → pending u ws ≡ []
none_pending u [] h = refl
none_pending u (w ∷ ws) h = rw (le-ltb u w.lands h.0) (none_pending u ws h.1)

still_pending : (slots : List (List Landing)) (t n j : ℕ) → pending (t + n) (flight_within slots t (n + j)) ≡ flight_within slots (t + n) j
still_pending slots t n zero =
    let e : n + 0 ≡ n = omega arith in
    ap (λ m. pending (t + n) (flight_within slots t m)) e ∙ none_pending (t + n) (flight_within slots t n) (within_by slots t n)
still_pending slots t n (suc j) =
    let e : n + suc j ≡ suc (n + j) = omega arith in
    let at : t + suc (n + j) ≡ (t + n) + suc j = omega arith in
    ap (λ m. pending (t + n) (flight_within slots t m)) e
    ∙ ap (λ m. pending (t + n) (landing m (values_in (slot_at slots m)) ++ flight_within slots t (n + j))) at
    ∙ pending_landing (t + n) ((t + n) + suc j) (values_in (slot_at slots ((t + n) + suc j))) (flight_within slots t (n + j)) (omega arith)
    ∙ ap (λ l. landing ((t + n) + suc j) (values_in (slot_at slots ((t + n) + suc j))) ++ l) (still_pending slots t n j)

module _ (slots : List (List Landing)) (t n : ℕ) (whole : length slots ≡ 32) (few : n ≤ 32) where
  kept_slots : (j : ℕ) → n + j ≤ 32 → flight_within (emptied slots t n) (t + n) j ≡ flight_within slots (t + n) j
  kept_slots zero h = refl
  kept_slots (suc j) h =
      ap (λ l. landing ((t + n) + suc j) (values_in l) ++ flight_within (emptied slots t n) (t + n) j) (emptied_out slots t n ((t + n) + suc j) (omega arith) (omega arith))
      ∙ ap (λ l. landing ((t + n) + suc j) (values_in (slot_at slots ((t + n) + suc j))) ++ l) (kept_slots j (omega arith))

  empty_slots : (i j : ℕ) → n + j ≡ 32 → i ≤ n → flight_within (emptied slots t n) (t + n) (j + i) ≡ flight_within slots (t + n) j
  empty_slots zero j e h =
      let same : j + 0 ≡ j = omega arith in
      ap (flight_within (emptied slots t n) (t + n)) same ∙ kept_slots j (omega arith)
  empty_slots (suc i) j e h =
      let same : j + suc i ≡ suc (j + i) = omega arith in
      let s = (t + n) + suc (j + i) in
      let turn : (t + suc i) % 32 ≡ s % 32 = omega arith in
      ap (flight_within (emptied slots t n) (t + n)) same
      ∙ ap (λ l. landing s (values_in l) ++ flight_within (emptied slots t n) (t + n) (j + i)) (emptied_in slots t n i s whole few h turn)
      ∙ empty_slots i j e (omega arith)

  pub flight_emptied : flight_of (emptied slots t n) (t + n) ≡ in_flight (t + n) (flight_of slots t)
  unfolding flight_of
  flight_emptied =
      let j = 32 - n in
      let all : n + j ≡ 32 = omega arith in
      let turn : j + n ≡ 32 = omega arith in
      ap (flight_within (emptied slots t n) (t + n)) (sym turn)
      ∙ empty_slots n j all (omega arith)
      ∙ sym (still_pending slots t n j)
      ∙ ap (λ m. pending (t + n) (flight_within slots t m)) all
      ∙ ap (pending (t + n)) (sym (in_turn_falls (flight_within slots t 32) (within_falls slots t 32)))
      ∙ pending_in_turn (t + n) (flight_within slots t 32)

-- ---- the state into which slots are emptied

pub into_sizes : (slots : List (List Landing)) (t n : ℕ) (s : State) → SameSizes s (emptied_into slots t n s)
into_sizes slots t zero s = same_sizes s
into_sizes slots t (suc n) s =
    let e = emptied_into slots t n s in
    let vs = values_in (slot_at slots (t + suc n)) in
    sizes_along s e (all_set vs e) (into_sizes slots t n s) (set_sizes vs e)

into_value : (slots : List (List Landing)) (t n : ℕ) (s : State) (y : Cell) → IsThere s y → entry_value (emptied_into slots t n s) y ≡ held_or y (entry_value s y) (last_write y (flight_within slots t n))
into_value slots t zero s y h = refl
into_value slots t (suc n) s y h =
    let e = emptied_into slots t n s in
    let u = t + suc n in
    let vs = values_in (slot_at slots u) in
    let ws = flight_within slots t n in
    set_value u vs e y (there_along s e y (into_sizes slots t n s) h)
    ∙ ap (λ v. held_or y v (last_write y (landing u vs))) (into_value slots t n s y h)
    ∙ held_over y (entry_value s y) (last_write y ws) (last_write y (landing u vs))
    ∙ ap (held_or y (entry_value s y)) (sym (last_over u y vs ws (below_more (t + n) u ws (omega arith) (within_by slots t n))))

landed_none : (u t : ℕ) (vs : List (Cell × ℕ)) (ws : List Write) → u < t → landed u (landing t vs ++ ws) ≡ landed u ws
landed_none u t [] ws h = refl
landed_none u t (v ∷ vs) ws h = rw (lt-leb t u h) (landed_none u t vs ws h)

pub landed_all : (u : ℕ) (ws : List Write) → AllByRecursion (λ w. w.lands ≤ u) ws → landed u ws ≡ ws
landed_all u [] h = refl
landed_all u (w ∷ ws) h = rw (le-leb w.lands u h.0) (ap (λ l. w ∷ l) (landed_all u ws h.1))

-- those that have landed are those of the emptied slots
landed_within : (slots : List (List Landing)) (t n j : ℕ) → landed (t + n) (flight_within slots t (n + j)) ≡ flight_within slots t n
landed_within slots t n zero =
    let e : n + 0 ≡ n = omega arith in
    ap (λ m. landed (t + n) (flight_within slots t m)) e ∙ landed_all (t + n) (flight_within slots t n) (within_by slots t n)
landed_within slots t n (suc j) =
    let e : n + suc j ≡ suc (n + j) = omega arith in
    ap (λ m. landed (t + n) (flight_within slots t m)) e
    ∙ landed_none (t + n) (t + suc (n + j)) (values_in (slot_at slots (t + suc (n + j)))) (flight_within slots t (n + j)) (omega arith)
    ∙ landed_within slots t n j

pub into_landed : (slots : List (List Landing)) (t n : ℕ) (s : State) (y : Cell) → n ≤ 32 → IsThere s y → entry_value (emptied_into slots t n s) y ≡ held_or y (entry_value s y) (last_write y (landed (t + n) (flight_of slots t)))
unfolding flight_of
into_landed slots t n s y few h =
    let j = 32 - n in
    let all : n + j ≡ 32 = omega arith in
    into_value slots t n s y h
    ∙ ap (λ ws. held_or y (entry_value s y) (last_write y ws)) (sym (landed_within slots t n j))
    ∙ ap (λ m. held_or y (entry_value s y) (last_write y (landed (t + n) (flight_within slots t m)))) all

-- ---- what is in flight

-- nothing in flight has landed
pub none_landed : (slots : List (List Landing)) (t : ℕ) → landed t (flight_of slots t) ≡ []
unfolding flight_of
none_landed slots t =
    let e : t + 0 ≡ t = omega arith in
    ap (λ u. landed u (flight_within slots t 32)) (sym e) ∙ landed_within slots t 0 32

-- all that is in flight lands within 32 cycles
pub all_land : (slots : List (List Landing)) (t n : ℕ) → 32 ≤ n → AllByRecursion (λ w. w.lands ≤ t + n) (flight_of slots t)
unfolding flight_of
all_land slots t n h = below_more (t + 32) (t + n) (flight_within slots t 32) (omega arith) (within_by slots t 32)

-- what lands by a cycle isn't in flight then
pub none_left : (u : ℕ) (ws : List Write) → AllByRecursion (λ w. w.lands ≤ u) ws → in_flight u ws ≡ []
none_left u ws h = ap in_turn (none_pending u ws h)

-- where nothing is in flight, nothing is at any cycle
no_length : {A : Type 0} (xs : List A) → length xs ≤ 0 → xs ≡ []
no_length [] h = refl
no_length (x ∷ xs) h = absurd (omega arith)

slot_none : (slots : List (List Landing)) (t s : ℕ) → flight_of slots t ≡ [] → slot_at slots s ≡ []
slot_none slots t s e =
    let k = (s + 31 * (t + 1)) % 32 in
    let same : (t + 1 + k) % 32 ≡ s % 32 = omega arith in
    let few = slot_few slots t (t + 1 + k) (omega arith) (omega arith) in
    let none = ap length e in
    ap (λ n. get_or slots n []) (sym same) ∙ no_length (slot_at slots (t + 1 + k)) (omega arith)

within_none : (slots : List (List Landing)) (t u n : ℕ) → flight_of slots t ≡ [] → flight_within slots u n ≡ []
within_none slots t u zero e = refl
within_none slots t u (suc n) e =
    ap (λ l. landing (u + suc n) (values_in l) ++ flight_within slots u n) (slot_none slots t (u + suc n) e) ∙ within_none slots t u n e

pub flight_none : (slots : List (List Landing)) (t u : ℕ) → flight_of slots t ≡ [] → flight_of slots u ≡ []
unfolding flight_of
flight_none slots t u e = within_none slots t u 32 e

-- empty slots
pub flight_empty : (slots : List (List Landing)) (t : ℕ) → ((s : ℕ) → slot_at slots s ≡ []) → flight_of slots t ≡ []
unfolding flight_of
flight_empty slots t h = go 32
  where
    go : (n : ℕ) → flight_within slots t n ≡ []
    go zero = refl
    go (suc n) = ap (λ l. landing (t + suc n) (values_in l) ++ flight_within slots t n) (h (t + suc n)) ∙ go n

-- after 32 cycles nothing more lands
module _ (slots new : List (List Landing)) (t n m : ℕ) (least : m ≡ min n 32) where
  past : {A : Type 0} (x y : A) → (m ≡ n → x ≡ y) → (m ≡ 32 → 32 ≤ n → x ≡ y) → x ≡ y
  past x y few many = go (cases_lt 32 n)
    where
      go : (32 < n) ⊎ (n ≤ 32) → x ≡ y
      go (inl gt) = many (omega arith) (omega arith)
      go (inr le) = few (omega arith)

  pub landed_past : landed (t + m) (flight_of slots t) ≡ landed (t + n) (flight_of slots t)
  landed_past =
      past (landed (t + m) (flight_of slots t)) (landed (t + n) (flight_of slots t)) (λ e. ap (λ k. landed (t + k) (flight_of slots t)) e)
      (λ e le. landed_all (t + m) (flight_of slots t) (all_land slots t m (omega arith)) ∙ sym (landed_all (t + n) (flight_of slots t) (all_land slots t n le)))

  pub flight_past : flight_of new (t + m) ≡ in_flight (t + m) (flight_of slots t) → flight_of new (t + n) ≡ in_flight (t + n) (flight_of slots t)
  flight_past h =
      past (flight_of new (t + n)) (in_flight (t + n) (flight_of slots t)) (λ e. subst (λ k. flight_of new (t + k) ≡ in_flight (t + k) (flight_of slots t)) e h)
      (λ e le.
      flight_none new (t + m) (t + n) (h ∙ none_left (t + m) (flight_of slots t) (all_land slots t m (omega arith)))
      ∙ sym (none_left (t + n) (flight_of slots t) (all_land slots t n le)))
