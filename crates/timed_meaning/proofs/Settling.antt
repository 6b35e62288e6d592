-- The cells that were written hold the values of the last writes to them, and the others are as before.
use Rattle.std.proofs.Common.{◌≡◌, ◌≢◌, ℕ, zero, suc, ◌<◌, Bool, true, false, cond, ◌||◌, List, [], ◌∷◌, ◌++◌, length, reverse, map, get_or, set, refl, ap, sym, ◌∙◌, Option, Some, None, arith, length-set, get_or-set_same, get_or-set_other}
use Rattle.std.specs.List.{range_with_len}
use Rattle.std.proofs.lemmas.Bool.{false≢true, eqb-true, eqb-false, or_parts, or_from}
use Rattle.std.proofs.lemmas.List.{reverse-append}
use Rattle.std.proofs.lemmas.List.FromFn.{fill_by_all}
use Rattle.operation.specs.declared.Place.TheVariants.{General, Predicate, Target, Memory}
use Rattle.timed_meaning.specs.declared.Answer.{Answer}
use Rattle.timed_meaning.specs.declared.Cell.{Cell}
use Rattle.timed_meaning.specs.declared.Cell.TheVariants.{At, Byte}
use Rattle.timed_meaning.specs.declared.Write.{Write}
use Rattle.timed_meaning.specs.Values.{State, same_cell, bit, is_set, entry_value, last_write, written_or, value_after, memory_after}
use Rattle.timed_meaning.specs.Block.{state_after}
use Rattle.timed_meaning.specs.Evaluator.{with_value, with_last, all_settled}
use Rattle.timed_meaning.proofs.Reading.{with_output}

-- ---- sizes stay

record SameSizes (s t : State) : Type 0 where
  general : length t.general ≡ length s.general
  predicates : length t.predicates ≡ length s.predicates
  targets : length t.targets ≡ length s.targets
  memory : length t.memory ≡ length s.memory

same_sizes : (s : State) → SameSizes s s
same_sizes s = record { general = refl; predicates = refl; targets = refl; memory = refl }

value_sizes : (s : State) (x : Cell) (v : ℕ) → SameSizes s (with_value s x v)
value_sizes s (At (General n)) v = record { general = length-set s.general n v; predicates = refl; targets = refl; memory = refl }
value_sizes s (At (Predicate n)) v = record { general = refl; predicates = length-set s.predicates n (is_set v); targets = refl; memory = refl }
value_sizes s (At (Target n)) v = record { general = refl; predicates = refl; targets = length-set s.targets n v; memory = refl }
value_sizes s (At Memory) v = same_sizes s
value_sizes s (Byte a) v = record { general = refl; predicates = refl; targets = refl; memory = length-set s.memory a v }

last_sizes : (ws : List Write) (s : State) (u : Write) → SameSizes s (with_last ws s u)
last_sizes ws s u = elim (last_write u.cell ws) as (λ o. SameSizes s (elim o [ None ↦ s | Some w ↦ with_value s u.cell w.value ])) [ None ↦ same_sizes s | Some w ↦ value_sizes s u.cell w.value ]

all_sizes : (ws : List Write) (s : State) (us : List Write) → SameSizes s (all_settled ws s us)
all_sizes ws s [] = same_sizes s
all_sizes ws s (u ∷ us) =
    let one = last_sizes ws s u in
    let rest = all_sizes ws (with_last ws s u) us in
    record {
      general = rest.general ∙ one.general;
      predicates = rest.predicates ∙ one.predicates;
      targets = rest.targets ∙ one.targets;
      memory = rest.memory ∙ one.memory;
    }

-- ---- one value

-- the machine has the cell
abbrev IsThere : State → Cell → Type 0
IsThere s (At (General n)) = n < length s.general
IsThere s (At (Predicate n)) = n < length s.predicates
IsThere s (At (Target n)) = n < length s.targets
IsThere s (At Memory) = ⊥
IsThere s (Byte a) = a < length s.memory

there_along : (s t : State) (x : Cell) → SameSizes s t → IsThere s x → IsThere t x
there_along s t (At (General n)) e h = let e1 = e.general in omega arith
there_along s t (At (Predicate n)) e h = let e1 = e.predicates in omega arith
there_along s t (At (Target n)) e h = let e1 = e.targets in omega arith
there_along s t (At Memory) e h = h
there_along s t (Byte a) e h = let e1 = e.memory in omega arith

-- what a cell holds of a value: a predicate is true or false
abbrev held : Cell → ℕ → ℕ
held (At (General n)) v = v
held (At (Predicate n)) v = bit (is_set v)
held (At (Target n)) v = v
held (At Memory) v = v
held (Byte a) v = v

value_same : (s : State) (x y : Cell) (v : ℕ) → IsThere s y → same_cell y x ≡ true → entry_value (with_value s x v) y ≡ held y v
value_same s (At (General n)) (At (General m)) v h e = let k : m ≡ n = eqb-true m n e in rw k (get_or-set_same s.general n v 0 (omega arith))
value_same s (At (Predicate n)) (At (Predicate m)) v h e = let k : m ≡ n = eqb-true m n e in rw k (ap bit (get_or-set_same s.predicates n (is_set v) false (omega arith)))
value_same s (At (Target n)) (At (Target m)) v h e = let k : m ≡ n = eqb-true m n e in rw k (get_or-set_same s.targets n v 0 (omega arith))
value_same s (Byte n) (Byte m) v h e = let k : m ≡ n = eqb-true m n e in rw k (get_or-set_same s.memory n v 0 (omega arith))
value_same s x (At Memory) v h e = absurd h
value_same s _ _ v h e = absurd (false≢true e)

value_other : (s : State) (x y : Cell) (v : ℕ) → same_cell y x ≡ false → entry_value (with_value s x v) y ≡ entry_value s y
value_other s (At (General n)) (At (General m)) v e = get_or-set_other s.general n m v 0 (eqb-false m n e)
value_other s (At (Predicate n)) (At (Predicate m)) v e = ap bit (get_or-set_other s.predicates n m (is_set v) false (eqb-false m n e))
value_other s (At (Target n)) (At (Target m)) v e = get_or-set_other s.targets n m v 0 (eqb-false m n e)
value_other s (Byte n) (Byte m) v e = get_or-set_other s.memory n m v 0 (eqb-false m n e)
value_other s _ _ v e = refl

-- ---- all values

-- what a cell holds when a write to it, if there is one, has landed
abbrev held_or : Cell → ℕ → Option Write → ℕ
held_or x old None = old
held_or x old (Some w) = held x w.value

last_value : (ws : List Write) (s : State) (u : Write) (y : Cell) → IsThere s y → entry_value (with_last ws s u) y ≡ cond (same_cell y u.cell) (held_or y (entry_value s y) (last_write u.cell ws)) (entry_value s y)
last_value ws s u y h = go (last_write u.cell ws) (same_cell y u.cell) refl
  where
    go : (o : Option Write) (b : Bool) → same_cell y u.cell ≡ b → entry_value (elim o [ None ↦ s | Some w ↦ with_value s u.cell w.value ]) y ≡ cond b (held_or y (entry_value s y) o) (entry_value s y)
    go None true e = refl
    go None false e = refl
    go (Some w) true e = value_same s u.cell y w.value h e
    go (Some w) false e = value_other s u.cell y w.value e

-- equal cells have the same writes
same_last : (x y : Cell) (ws : List Write) → same_cell y x ≡ true → last_write x ws ≡ last_write y ws
same_last (At (General n)) (At (General m)) ws e = let k : m ≡ n = eqb-true m n e in ap (λ a. last_write (At (General a)) ws) (sym k)
same_last (At (Predicate n)) (At (Predicate m)) ws e = let k : m ≡ n = eqb-true m n e in ap (λ a. last_write (At (Predicate a)) ws) (sym k)
same_last (At (Target n)) (At (Target m)) ws e = let k : m ≡ n = eqb-true m n e in ap (λ a. last_write (At (Target a)) ws) (sym k)
same_last (At Memory) (At Memory) ws e = refl
same_last (Byte n) (Byte m) ws e = let k : m ≡ n = eqb-true m n e in ap (λ a. last_write (Byte a) ws) (sym k)
same_last _ _ ws e = absurd (false≢true e)

last_value_of : (ws : List Write) (s : State) (u : Write) (y : Cell) → IsThere s y → entry_value (with_last ws s u) y ≡ cond (same_cell y u.cell) (held_or y (entry_value s y) (last_write y ws)) (entry_value s y)
last_value_of ws s u y h = last_value ws s u y h ∙ go (same_cell y u.cell) refl
  where
    go : (b : Bool) → same_cell y u.cell ≡ b → cond b (held_or y (entry_value s y) (last_write u.cell ws)) (entry_value s y) ≡ cond b (held_or y (entry_value s y) (last_write y ws)) (entry_value s y)
    go true e = ap (held_or y (entry_value s y)) (same_last u.cell y ws e)
    go false e = refl

-- some of the writes are to the cell
abbrev touches : Cell → List Write → Bool
touches y [] = false
touches y (u ∷ us) = same_cell y u.cell || touches y us

twice : (y : Cell) (old : ℕ) (o : Option Write) (b c : Bool) → cond c (held_or y (cond b (held_or y old o) old) o) (cond b (held_or y old o) old) ≡ cond (b || c) (held_or y old o) old
twice y old None true true = refl
twice y old None true false = refl
twice y old (Some w) true true = refl
twice y old (Some w) true false = refl
twice y old o false true = refl
twice y old o false false = refl

settled_value : (ws : List Write) (s : State) (us : List Write) (y : Cell) → IsThere s y → entry_value (all_settled ws s us) y ≡ cond (touches y us) (held_or y (entry_value s y) (last_write y ws)) (entry_value s y)
settled_value ws s [] y h = refl
settled_value ws s (u ∷ us) y h =
    settled_value ws (with_last ws s u) us y (there_along s (with_last ws s u) y (last_sizes ws s u) h)
    ∙ ap (λ v. cond (touches y us) (held_or y v (last_write y ws)) v) (last_value_of ws s u y h)
    ∙ twice y (entry_value s y) (last_write y ws) (same_cell y u.cell) (touches y us)

-- without a write to a cell there is no last one
untouched : (y : Cell) (ws : List Write) → touches y ws ≡ false → last_write y ws ≡ None
untouched y [] e = refl
untouched y (w ∷ ws) e =
    let parts = or_parts (same_cell y w.cell) (touches y ws) e in
    rw parts.0 (untouched y ws parts.1)

touches-append : (y : Cell) (us ws : List Write) → touches y (us ++ ws) ≡ (touches y us || touches y ws)
touches-append y [] ws = refl
touches-append y (u ∷ us) ws = ap (λ b. same_cell y u.cell || b) (touches-append y us ws) ∙ or_assoc (same_cell y u.cell) (touches y us) (touches y ws)
  where
    or_assoc : (a b c : Bool) → (a || (b || c)) ≡ ((a || b) || c)
    or_assoc true b c = refl
    or_assoc false b c = refl

touches-reverse : (y : Cell) (us : List Write) → touches y us ≡ false → touches y (reverse us) ≡ false
touches-reverse y [] e = refl
touches-reverse y (u ∷ us) e =
    let parts = or_parts (same_cell y u.cell) (touches y us) e in
    ap (touches y) (reverse-append (u ∷ []) us)
    ∙ touches-append y (reverse us) (u ∷ [])
    ∙ or_from (touches y (reverse us)) (touches y (u ∷ [])) (touches-reverse y us parts.1) (or_from (same_cell y u.cell) false parts.0 refl)

-- each cell holds the value of the last write to it
all_settled_value : (s : State) (us : List Write) (y : Cell) → IsThere s y → entry_value (all_settled (reverse us) s us) y ≡ held_or y (entry_value s y) (last_write y (reverse us))
all_settled_value s us y h = settled_value (reverse us) s us y h ∙ go (touches y us) refl
  where
    go : (b : Bool) → touches y us ≡ b → cond b (held_or y (entry_value s y) (last_write y (reverse us))) (entry_value s y) ≡ held_or y (entry_value s y) (last_write y (reverse us))
    go true e = refl
    go false e = ap (held_or y (entry_value s y)) (sym (untouched y (reverse us) (touches-reverse y us e)))

-- ---- the state after a block

written : (old : ℕ) (o : Option Write) → held_or (At Memory) old o ≡ written_or old o
written old None = refl
written old (Some w) = refl

is_set-bit : (b : Bool) → is_set (bit b) ≡ b
is_set-bit true = refl
is_set-bit false = refl

is_set-held_or : (n old : ℕ) (o : Option Write) → is_set (held_or (At (Predicate n)) old o) ≡ is_set (written_or old o)
is_set-held_or n old None = refl
is_set-held_or n old (Some w) = is_set-bit (is_set w.value)

module _ (s : State) (us : List Write) (output : List ℕ) (position : ℕ) where
  general_value : (k : ℕ) → k < length s.general → get_or (set (all_settled (reverse us) s us).general 0 0) k 0 ≡ value_after (with_output s output position) (reverse us) (At (General k))
  general_value zero h = let e = (all_sizes (reverse us) s us).general in get_or-set_same (all_settled (reverse us) s us).general 0 0 0 (omega arith)
  general_value (suc k) h =
      let ne : suc k ≢ 0 = omega arith in
      get_or-set_other (all_settled (reverse us) s us).general 0 (suc k) 0 0 ne
      ∙ all_settled_value s us (At (General (suc k))) h
      ∙ written_general (get_or s.general (suc k) 0) (last_write (At (General (suc k))) (reverse us))
    where
      written_general : (old : ℕ) (o : Option Write) → held_or (At (General (suc k))) old o ≡ written_or old o
      written_general old None = refl
      written_general old (Some w) = refl

  predicate_value : (k : ℕ) → k < length s.predicates → get_or (set (all_settled (reverse us) s us).predicates 0 true) k false ≡ is_set (value_after (with_output s output position) (reverse us) (At (Predicate k)))
  predicate_value zero h = let e = (all_sizes (reverse us) s us).predicates in get_or-set_same (all_settled (reverse us) s us).predicates 0 true false (omega arith)
  predicate_value (suc k) h =
      let ne : suc k ≢ 0 = omega arith in
      get_or-set_other (all_settled (reverse us) s us).predicates 0 (suc k) true false ne
      ∙ sym (is_set-bit (get_or (all_settled (reverse us) s us).predicates (suc k) false))
      ∙ ap is_set (all_settled_value s us (At (Predicate (suc k))) h)
      ∙ is_set-held_or (suc k) (bit (get_or s.predicates (suc k) false)) (last_write (At (Predicate (suc k))) (reverse us))

  target_value : (k : ℕ) → k < length s.targets → get_or (all_settled (reverse us) s us).targets k 0 ≡ value_after (with_output s output position) (reverse us) (At (Target k))
  target_value k h =
      all_settled_value s us (At (Target k)) h
      ∙ written_target (get_or s.targets k 0) (last_write (At (Target k)) (reverse us))
    where
      written_target : (old : ℕ) (o : Option Write) → held_or (At (Target k)) old o ≡ written_or old o
      written_target old None = refl
      written_target old (Some w) = refl

  memory_value : (k : ℕ) → k < length s.memory → get_or (all_settled (reverse us) s us).memory k 0 ≡ value_after (with_output s output position) (reverse us) (Byte k)
  memory_value k h =
      all_settled_value s us (Byte k) h
      ∙ written_byte (get_or s.memory k 0) (last_write (Byte k) (reverse us))
    where
      written_byte : (old : ℕ) (o : Option Write) → held_or (Byte k) old o ≡ written_or old o
      written_byte old None = refl
      written_byte old (Some w) = refl

same_state : (a a' : List ℕ) (b b' : List Bool) (d d' m m' output : List ℕ) (position : ℕ) → a ≡ a' → b ≡ b' → d ≡ d' → m ≡ m' → ◌≡◌ {A = State} (record { general = a; predicates = b; targets = d; memory = m; output = output; position = position }) (record { general = a'; predicates = b'; targets = d'; memory = m'; output = output; position = position })
same_state a a' b b' d d' m m' output position h i j k = cc

-- the machine has 32 general registers, 32 predicates and 8 targets
pub record IsWhole (s : State) : Type 0 where
  pub general : length s.general ≡ 32
  pub predicates : length s.predicates ≡ 32
  pub targets : length s.targets ≡ 8

-- the cells, and r0 and p0 as they always are, are those of the state after the block
pub settled_lem : (s mid : State) (us : List Write) (output : List ℕ) (position count : ℕ) (answer : Answer) → IsWhole s → mid ≡ all_settled (reverse us) s us →
    ◌≡◌ {A = State} (record { general = set mid.general 0 0; predicates = set mid.predicates 0 true; targets = mid.targets; memory = mid.memory; output = output; position = position })
    (state_after (with_output s output position) (record { count = count; writes = reverse us; output = output; position = position; answer = answer }))
settled_lem s mid us output position count answer h e =
    let t = with_output s output position in
    let all = all_settled (reverse us) s us in
    let sizes = all_sizes (reverse us) s us in
    ap (λ (x : State). record { general = set x.general 0 0; predicates = set x.predicates 0 true; targets = x.targets; memory = x.memory; output = output; position = position }) e
    ∙ same_state (set all.general 0 0) (map (λ n. value_after t (reverse us) (At (General n))) (range_with_len 0 32)) (set all.predicates 0 true) (map (λ n. is_set (value_after t (reverse us) (At (Predicate n)))) (range_with_len 0 32)) all.targets (map (λ n. value_after t (reverse us) (At (Target n))) (range_with_len 0 8)) all.memory (memory_after t (reverse us)) output position
    (fill_by_all (λ n. value_after t (reverse us) (At (General n))) (set all.general 0 0) 32 0 (length-set all.general 0 0 ∙ sizes.general ∙ h.general) (λ k lt. let l = h.general in general_value s us output position k (omega arith)))
    (fill_by_all (λ n. is_set (value_after t (reverse us) (At (Predicate n)))) (set all.predicates 0 true) 32 false (length-set all.predicates 0 true ∙ sizes.predicates ∙ h.predicates) (λ k lt. let l = h.predicates in predicate_value s us output position k (omega arith)))
    (fill_by_all (λ n. value_after t (reverse us) (At (Target n))) all.targets 8 0 (sizes.targets ∙ h.targets) (λ k lt. let l = h.targets in target_value s us output position k (omega arith)))
    (fill_by_all (λ n. value_after t (reverse us) (Byte n)) all.memory (length s.memory) 0 sizes.memory (λ k lt. memory_value s us output position k lt))

pub settled_memory : (s mid : State) (us : List Write) → mid ≡ all_settled (reverse us) s us → length mid.memory ≡ length s.memory
settled_memory s mid us e = ap (λ (x : State). length x.memory) e ∙ (all_sizes (reverse us) s us).memory
