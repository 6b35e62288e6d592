-- Documents: their names as a table's keys, and the numbers of one whose keys are in their ranges.
use Rattle.std.proofs.Common.{◌≡◌, ℕ, zero, suc, ◌+◌, ◌-◌, ◌≤◌, ◌<◌, ℤ, pos, negsuc, nat_abs, Bool, true, false, cond, ◌||◌, List, [], ◌∷◌, map, Option, Some, None, option_map, refl, sym, ap, ◌∙◌, arith, lit<, ◌⊎◌, inl, inr, Bor, String}
use Rattle.std.specs.Prelude.{find, string_bytes, int_lt, slice_index}
use Rattle.std.specs.List.{range_with_len}
use Rattle.std.specs.Option.{option_or}
use Rattle.std.specs.declared.alloc.Global.{Global}
use Rattle.std.proofs.lemmas.Bool.{or_parts, ltb-false, cases_lt}
use Rattle.std.proofs.lemmas.List.FromFn.{get_or-map-range_with_len}
use Rattle.tnk_base.proofs.Searches.{none_at}
use Rattle.toml.specs.Data.{Members}
use Rattle.toml.specs.View.{members_view}
use Rattle.toml.specs.declared.value.Value.{Value}
use Rattle.operation.specs.declared.UnitKind.{UnitKind}
use Rattle.operation.specs.declared.UnitKind.TheVariants as unit
use Rattle.operation.specs.declared.LatKind.{LatKind}
use Rattle.operation.specs.declared.LatKind.TheVariants as lat
use Rattle.machine_desc.specs.Description.{IsDescription, units_of, latency_of, busy_of}
use Rattle.machine_desc.specs.Ranges.{by_unit, by_latency}
use Rattle.machine_desc.specs.declared.reading.MdesFault.{MdesFault}
use Rattle.machine_desc.specs.declared.reading.MdesFault.TheVariants.{Toml, Missing, Unknown, NotNumber, Range, NoMemory}
use Rattle.machine_desc.specs.File.{names, number, numbers, is_missing, is_other, least, greatest, is_out, first_unknown, first_key, first_fault, AreInRange, described, IsDocument, IsMdesFault}

-- what is found under a view of the members
pub find_along : {X Y : Type 0} (f : X → Y) (test : Y → Bool) (xs : List X) →
    option_map f (find (λ x. test (f x)) xs) ≡ find test (map f xs)
find_along f test [] = refl
find_along f test (x ∷ xs) = go (test (f x)) refl (find_along f test xs)
  where
    go : (b : Bool) → test (f x) ≡ b → option_map f (find (λ x. test (f x)) xs) ≡ find test (map f xs) →
        option_map f (find (λ x. test (f x)) (x ∷ xs)) ≡ find test (map f (x ∷ xs))
    go true e rest =
        ap (λ b. option_map f (cond b (Some x) (find (λ x. test (f x)) xs))) e ∙ sym (ap (λ b. cond b (Some (f x)) (find test (map f xs))) e)
    go false e rest =
        ap (λ b. option_map f (cond b (Some x) (find (λ x. test (f x)) xs))) e ∙ (rest
        ∙ sym (ap (λ b. cond b (Some (f x)) (find test (map f xs))) e))

pub bytes_of_found : (r : Option (Bor (String Global))) → option_map (λ name. string_bytes name.now) r ≡ option_map string_bytes (option_map (λ name. name.now) r)
bytes_of_found None = refl
bytes_of_found (Some name) = refl

-- the names in a document are a table's keys
pub names_of : (es : List (String Global × Value)) → names (members_view es) ≡ map string_bytes (map (λ e. e.0) es)
names_of [] = refl
names_of (e ∷ es) = ap (λ ns. string_bytes e.0 ∷ ns) (names_of es)

-- the number at a key is in its range
at_key : (m : Members) → AreInRange m → (n : ℕ) → n < 24 → is_out m n ≡ false
at_key m h n below = none_at (is_out m) 24 n h below

-- a whole number from low to high, which is none below 0
record IsWithin (low : ℕ) (z high : ℤ) : Type 0 where
  value : z ≡ pos (nat_abs z)
  above : low ≤ nat_abs z
  below : (b : ℕ) → high ≡ pos b → nat_abs z ≤ b

within : (low : ℕ) (z high : ℤ) → (int_lt z (pos low) || int_lt high z) ≡ false → IsWithin low z high
within low (negsuc k) high h = absurd (let k : ⊥ = cc in k)
within low (pos k) high h = record {
  value = refl;
  above = ltb-false k low (neither.0);
  below = λ b e. ltb-false b k (sym (ap (λ y. int_lt y (pos k)) e) ∙ neither.1);
}
  where
    neither : (int_lt (pos k) (pos low) ≡ false) × (int_lt high (pos k) ≡ false)
    neither = or_parts (int_lt (pos k) (pos low)) (int_lt high (pos k)) h

-- the number at a key, where its least and its greatest number are known
number_within : (m : Members) → AreInRange m → (n low : ℕ) → n < 24 → least n ≡ pos low → IsWithin low (number m n) (greatest m n)
number_within m h n low below e =
    within low (number m n) (greatest m n) (ap (λ y. int_lt (number m n) y || int_lt (greatest m n) (number m n)) (sym e) ∙ at_key m h n below)

unit_within : (m : Members) → AreInRange m → (k : UnitKind) → units_of (described m) k ≤ 8
unit_within m h unit.I = (number_within m h 1 0 (lit< tt) refl).below 8 refl
unit_within m h unit.M = (number_within m h 2 0 (lit< tt) refl).below 8 refl
unit_within m h unit.L = (number_within m h 3 0 (lit< tt) refl).below 8 refl
unit_within m h unit.P = (number_within m h 4 0 (lit< tt) refl).below 8 refl
unit_within m h unit.B = (number_within m h 5 0 (lit< tt) refl).below 8 refl

latency_within : (m : Members) → AreInRange m → (k : LatKind) → (1 ≤ latency_of (described m) k) × (latency_of (described m) k ≤ 32)
latency_within m h lat.Alu = let w = number_within m h 6 1 (lit< tt) refl in (w.above, w.below 32 refl)
latency_within m h lat.Mul = let w = number_within m h 7 1 (lit< tt) refl in (w.above, w.below 32 refl)
latency_within m h lat.Div = let w = number_within m h 8 1 (lit< tt) refl in (w.above, w.below 32 refl)
latency_within m h lat.Load = let w = number_within m h 9 1 (lit< tt) refl in (w.above, w.below 32 refl)
latency_within m h lat.Store = let w = number_within m h 10 1 (lit< tt) refl in (w.above, w.below 32 refl)
latency_within m h lat.Io = let w = number_within m h 11 1 (lit< tt) refl in (w.above, w.below 32 refl)
latency_within m h lat.Cmp = let w = number_within m h 12 1 (lit< tt) refl in (w.above, w.below 32 refl)
latency_within m h lat.Pbr = let w = number_within m h 13 1 (lit< tt) refl in (w.above, w.below 32 refl)
latency_within m h lat.Branch = let w = number_within m h 14 1 (lit< tt) refl in (w.above, w.below 32 refl)

-- a busy time is at most the latency nine keys before
busy_by : (m : Members) → AreInRange m → (n l : ℕ) → IsWithin 1 (number m n) (number m l) → IsWithin 1 (number m l) (pos 32) →
    (1 ≤ nat_abs (number m n)) × (nat_abs (number m n) ≤ nat_abs (number m l))
busy_by m h n l busy latency = (busy.above, busy.below (nat_abs (number m l)) latency.value)

busy_within : (m : Members) → AreInRange m → (k : LatKind) → (1 ≤ busy_of (described m) k) × (busy_of (described m) k ≤ latency_of (described m) k)
busy_within m h lat.Alu = busy_by m h 15 6 (number_within m h 15 1 (lit< tt) refl) (number_within m h 6 1 (lit< tt) refl)
busy_within m h lat.Mul = busy_by m h 16 7 (number_within m h 16 1 (lit< tt) refl) (number_within m h 7 1 (lit< tt) refl)
busy_within m h lat.Div = busy_by m h 17 8 (number_within m h 17 1 (lit< tt) refl) (number_within m h 8 1 (lit< tt) refl)
busy_within m h lat.Load = busy_by m h 18 9 (number_within m h 18 1 (lit< tt) refl) (number_within m h 9 1 (lit< tt) refl)
busy_within m h lat.Store = busy_by m h 19 10 (number_within m h 19 1 (lit< tt) refl) (number_within m h 10 1 (lit< tt) refl)
busy_within m h lat.Io = busy_by m h 20 11 (number_within m h 20 1 (lit< tt) refl) (number_within m h 11 1 (lit< tt) refl)
busy_within m h lat.Cmp = busy_by m h 21 12 (number_within m h 21 1 (lit< tt) refl) (number_within m h 12 1 (lit< tt) refl)
busy_within m h lat.Pbr = busy_by m h 22 13 (number_within m h 22 1 (lit< tt) refl) (number_within m h 13 1 (lit< tt) refl)
busy_within m h lat.Branch = busy_by m h 23 14 (number_within m h 23 1 (lit< tt) refl) (number_within m h 14 1 (lit< tt) refl)

-- numbers in their ranges are those of a description
pub gives_description : (m : Members) → AreInRange m → IsDescription (described m)
gives_description m h =
    let w = number_within m h 0 1 (lit< tt) refl in
    record {
      each = record { units = refl; latencies = refl; busy_times = refl };
      width = (w.above, w.below 16 refl);
      units = unit_within m h;
      latency = latency_within m h;
      busy = busy_within m h;
    }

-- each of so many keys' numbers is that at its place in the list of them
number_at_place : (m : Members) (first count i : ℕ) → i < count → slice_index (numbers m first count) i ≡ nat_abs (number m (first + i))
number_at_place m first count i below = get_or-map-range_with_len (λ n. nat_abs (number m n)) first count i (first + i) 0 below refl

-- each of them is a byte
pub is_byte : (m : Members) → AreInRange m → (n : ℕ) → n < 24 → nat_abs (number m n) < 256
is_byte m h n below = go (cases_lt n 1) (cases_lt n 6) (cases_lt n 15)
  where
    d : IsDescription (described m)
    d = gives_description m h

    small : (first count i : ℕ) → i < count → slice_index (numbers m first count) i ≤ 32 → first + i ≡ n → nat_abs (number m n) < 256
    small first count i inside low e =
        let p = number_at_place m first count i inside in
        let q = ap (λ n. nat_abs (number m n)) e in
        omega arith

    go : (n < 1) ⊎ (1 ≤ n) → (n < 6) ⊎ (6 ≤ n) → (n < 15) ⊎ (15 ≤ n) → nat_abs (number m n) < 256
    go (inl first) b c =
        let e : 0 ≡ n = omega arith in
        let w = d.width.1 in
        let q = ap (λ n. nat_abs (number m n)) e in
        omega arith
    go (inr some) (inl unit) c =
        small 1 5 (n - 1) (omega arith)
        (by_unit (λ i. slice_index (numbers m 1 5) i ≤ 32) (λ k. let u = d.units k in omega arith) (n - 1) (omega arith)) (omega arith)
    go (inr some) (inr more) (inl latency) =
        small 6 9 (n - 6) (omega arith)
        (by_latency (λ i. slice_index (numbers m 6 9) i ≤ 32) (λ k. (d.latency k).1) (n - 6) (omega arith)) (omega arith)
    go (inr some) (inr more) (inr busy) =
        small 15 9 (n - 15) (omega arith)
        (by_latency (λ i. slice_index (numbers m 15 9) i ≤ 32) (λ k. let b = (d.busy k).1 in let l = (d.latency k).1 in omega arith) (n - 15) (omega arith))
        (omega arith)

-- the faults that a document can have
abbrev first_of : Option ℕ → Option (List ℕ) → Option ℕ → (ℕ → ℤ) → Option ℕ → Option MdesFault
first_of missing unknown other z out =
    option_or (option_map Missing missing)
    (option_or (option_map Unknown unknown)
    (option_or (option_map NotNumber other)
    (option_map (λ n. Range n (z n)) out)))

no_document : (a : Option ℕ) (b : Option (List ℕ)) (c : Option ℕ) (z : ℕ → ℤ) (d : Option ℕ) → first_of a b c z d ≡ Some Toml → ⊥
no_document (Some n) b c z d e = let k : ⊥ = cc in k
no_document None (Some name) c z d e = let k : ⊥ = cc in k
no_document None None (Some n) z d e = let k : ⊥ = cc in k
no_document None None None z (Some n) e = let k : ⊥ = cc in k
no_document None None None z None e = let k : ⊥ = cc in k

none_out : (a : Option ℕ) (b : Option (List ℕ)) (c : Option ℕ) (z : ℕ → ℤ) (d : Option ℕ) → first_of a b c z d ≡ None → d ≡ None
none_out (Some n) b c z d e = absurd (let k : ⊥ = cc in k)
none_out None (Some name) c z d e = absurd (let k : ⊥ = cc in k)
none_out None None (Some n) z d e = absurd (let k : ⊥ = cc in k)
none_out None None None z (Some n) e = absurd (let k : ⊥ = cc in k)
none_out None None None z None e = refl

-- a document without a fault has each number in its range
pub kept : (m : Members) → first_fault m ≡ None → AreInRange m
kept m h =
    none_out (first_key (is_missing m) 15) (first_unknown m) (first_key (is_other m) 24) (number m) (first_key (is_out m) 24) h

-- the first fault of a document is what is wrong with its bytes
pub is_fault : (bytes : List ℕ) (m : Members) (fault : MdesFault) → IsDocument bytes m → first_fault m ≡ Some fault → IsMdesFault bytes fault
is_fault bytes m Toml d h =
    absurd (no_document (first_key (is_missing m) 15) (first_unknown m) (first_key (is_other m) 24) (number m) (first_key (is_out m) 24) h)
is_fault bytes m (Missing n) d h = (m, d, h)
is_fault bytes m (Unknown name) d h = (m, d, h)
is_fault bytes m (NotNumber n) d h = (m, d, h)
is_fault bytes m (Range n z) d h = (m, d, h)
is_fault bytes m NoMemory d h = tt
