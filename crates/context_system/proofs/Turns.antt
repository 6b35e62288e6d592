-- A context is where its own turns have brought it.
use Rattle.std.proofs.Common.{◌≡◌, ◌≢◌, ℕ, zero, suc, ◌+◌, Bool, true, false, cond, List, [], ◌∷◌, map, refl, sym, ap, subst, ◌∙◌, Option, Some, None, zero-add, arith}
use Rattle.std.specs.Prelude.{nat_eq, slice_get, slice_set, option_map, replicate}
use Rattle.std.proofs.lemmas.Bool.{eqb-true, eq-eqb}
use Rattle.std.proofs.lemmas.Option.{slice_get-map}
use Rattle.context_system.specs.declared.Event.{Event}
use Rattle.context_system.specs.declared.Event.TheVariants.{Turn, Evict, Drop, Prefetch}
use Rattle.context_system.specs.Context.{Setup, Context, opened, turn}
use Rattle.context_system.specs.System.{System, step, play, first, paging_for_turn}
use Rattle.context_system.specs.Turns.{turns, turns_in, turns_among, OnlyItsTurnsCount, DoesAsAlone}

turns_split : (m n : ℕ) (x : Context) → turns (m + n) x ≡ turns n (turns m x)
turns_split zero n x = ap (λ (k : ℕ). turns k x) (zero-add n)
turns_split (suc m) n x = let e : suc m + n ≡ suc (m + n) = omega arith in ap (λ (k : ℕ). turns k x) e ∙ turns_split m n (turn x)

then_turns : (m n : ℕ) (o : Option Context) → option_map (turns n) (option_map (turns m) o) ≡ option_map (turns (m + n)) o
then_turns m n None = refl
then_turns m n (Some x) = ap (λ (y : Context). Some y) (sym (turns_split m n x))

no_turns : (o : Option Context) → o ≡ option_map (turns 0) o
no_turns None = refl
no_turns (Some x) = refl

get_set_same : (xs : List Context) (c : ℕ) (x y : Context) → slice_get xs c ≡ Some x → slice_get (slice_set xs c y) c ≡ Some y
get_set_same [] c x y h = absurd (let no : ⊥ = cc in no)
get_set_same (z ∷ xs) zero x y h = refl
get_set_same (z ∷ xs) (suc c) x y h = get_set_same xs c x y h

get_set_other : (xs : List Context) (d c : ℕ) (y : Context) → d ≢ c → slice_get (slice_set xs d y) c ≡ slice_get xs c
get_set_other [] d c y ne = refl
get_set_other (z ∷ xs) zero zero y ne = absurd (ne refl)
get_set_other (z ∷ xs) zero (suc c) y ne = refl
get_set_other (z ∷ xs) (suc d) zero y ne = refl
get_set_other (z ∷ xs) (suc d) (suc c) y ne = get_set_other xs d c y (λ e. ne (ap suc e))

-- a turn's system, by the context that has it
abbrev pub turned : System → ℕ → Option Context → System
turned s d o = elim o [
  | None ↦ s
  | Some x ↦ record { contexts = slice_set s.contexts d (turn x); paging = paging_for_turn s.contexts x s.paging }
]

turn_is : (s : System) (d c : ℕ) (o : Option Context) → slice_get s.contexts d ≡ o → (b : Bool) → nat_eq d c ≡ b →
    slice_get (turned s d o).contexts c ≡ option_map (turns (cond b 1 0)) (slice_get s.contexts c)
turn_is s d c None h true e = let same : d ≡ c = eqb-true d c e in let none : slice_get s.contexts c ≡ None = ap (slice_get s.contexts) (sym same) ∙ h in rw none refl
turn_is s d c None h false e = no_turns (slice_get s.contexts c)
turn_is s d c (Some x) h true e =
    let same : d ≡ c = eqb-true d c e in
    let here : slice_get s.contexts c ≡ Some x = ap (slice_get s.contexts) (sym same) ∙ h in
    ap (λ (k : ℕ). slice_get (slice_set s.contexts k (turn x)) c) same ∙ get_set_same s.contexts c x (turn x) here
    ∙ ap (option_map (turns 1)) (sym here)
turn_is s d c (Some x) h false e =
    get_set_other s.contexts d c (turn x) (λ same. let no : ⊥ = let yes : nat_eq d c ≡ true = eq-eqb d c same in cc in no)
    ∙ no_turns (slice_get s.contexts c)

pub step_is : (s : System) (e : Event) (c : ℕ) → slice_get (step s e).contexts c ≡ option_map (turns (turns_in c e)) (slice_get s.contexts c)
step_is s (Turn d) c = turn_is s d c (slice_get s.contexts d) refl (nat_eq d c) refl
step_is s (Evict k) c = no_turns (slice_get s.contexts c)
step_is s (Drop k) c = no_turns (slice_get s.contexts c)
step_is s (Prefetch k) c = no_turns (slice_get s.contexts c)

pub only_its_turns_count : OnlyItsTurnsCount
only_its_turns_count s [] c = no_turns (slice_get s.contexts c)
only_its_turns_count s (e ∷ es) c =
    only_its_turns_count (step s e) es c
    ∙ ap (option_map (turns (turns_among c es))) (step_is s e c)
    ∙ then_turns (turns_in c e) (turns_among c es) (slice_get s.contexts c)

all_turns : (n : ℕ) → turns_among 0 (replicate n (Turn 0)) ≡ n
all_turns zero = refl
all_turns (suc n) = let e : 1 + n ≡ suc n = omega arith in ap (λ (k : ℕ). 1 + k) (all_turns n) ∙ e

pub opened_at : (setups : List Setup) (c : ℕ) (s : Setup) → slice_get setups c ≡ Some s → slice_get (map opened setups) c ≡ Some (opened s)
opened_at setups c s h = slice_get-map opened setups c ∙ ap (option_map opened) h

-- what holds of a context alone after as many turns holds of it, whatever events came
pub behind_its_turns : (So : Setup → Context → Type 0) (setups : List Setup) (frames saved : ℕ) (events : List Event) (c : ℕ) (s : Setup) (x : Context) →
    slice_get setups c ≡ Some s → slice_get (play (first setups frames saved) events).contexts c ≡ Some x →
    So s (turns (turns_among c events) (opened s)) → So s x
behind_its_turns So setups frames saved events c s x h k so =
    let n : ℕ = turns_among c events in
    let there : Some x ≡ Some (turns n (opened s)) =
    sym k ∙ only_its_turns_count (first setups frames saved) events c ∙ ap (option_map (turns n)) (opened_at setups c s h) in
    let same : turns n (opened s) ≡ x = cc in
    subst (So s) same so

pub does_as_alone : DoesAsAlone
does_as_alone setups frames saved frames' saved' events c s h =
    let n : ℕ = turns_among c events in
    only_its_turns_count (first setups frames saved) events c
    ∙ ap (option_map (turns n)) (opened_at setups c s h)
    ∙ ap (λ (k : ℕ). option_map (turns k) (Some (opened s))) (sym (all_turns n))
    ∙ sym (only_its_turns_count (first (s ∷ []) frames' saved') (replicate n (Turn 0)) 0)
