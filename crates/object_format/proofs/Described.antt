-- The description in a file: its bytes are in their ranges exactly where it is one.
use Rattle.std.proofs.Common.{◌≡◌, ℕ, zero, suc, ◌+◌, ◌-◌, ◌<◌, ◌≤◌, List, refl, sym, ap, ◌∙◌, arith, Bool, true, false, not, cond, ◌&&◌, None, lit<, IsTrue, inl, inr}
use Rattle.std.specs.Prelude.{slice_index, nat_lt, nat_le, nat_eq, map}
use Rattle.std.specs.List.{range_with_len, list_all}
use Rattle.std.proofs.lemmas.Bool.{and_parts, and_from, leb-true, le-leb, le-ltb, lt-ltb, ne_eqb, not-false, cond-true, cond-false, cases_lt}
use Rattle.std.proofs.lemmas.List.{get_or-replicate}
use Rattle.std.proofs.lemmas.List.FromFn.{get_or-map-range_with_len}
use Rattle.machine_desc.specs.Description.{IsDescription}
use Rattle.machine_desc.specs.Numbers.{ones, is_between, are_between, are_within, is_in_range}
use Rattle.machine_desc.specs.Ranges.{in_description, range_from, by_unit, by_latency}
use Rattle.tnk_base.proofs.Searches.{none_at, finds_none}
use Rattle.image_format.specs.Rules.{least_failing, is_number_in_range}
use Rattle.object_format.specs.Layout as at
use Rattle.object_format.specs.Rules.{is_byte_in_range}
use Rattle.object_format.proofs.HeaderKept.{numbers_near}

-- no test fails
pub none_fails : (test : ℕ → Bool) (bound : ℕ) → least_failing test bound ≡ None → (n : ℕ) → n < bound → test n ≡ true
none_fails test bound h n below =
    not-false (test n) (none_at (λ k. not (test k)) bound n h below)

pub none_failing : (test : ℕ → Bool) (bound : ℕ) → ((n : ℕ) → n < bound → test n ≡ true) → least_failing test bound ≡ None
none_failing test bound h = finds_none (λ n. not (test n)) bound (λ n below. ap not (h n below))

pub between : (low high n : ℕ) → is_between low high n ≡ true → (low ≤ n) × (n ≤ high)
between low high n h = let p = and_parts (nat_le low n) (nat_le n high) h in (leb-true low n p.0, leb-true n high p.1)

pub is_between_from : (low high n : ℕ) → low ≤ n → n ≤ high → is_between low high n ≡ true
is_between_from low high n h k = and_from (nat_le low n) (nat_le n high) (le-leb low n h) (le-leb n high k)

-- a test of each number of a list that is made from a range
all_range : (p : ℕ → Bool) (f : ℕ → ℕ) (n a : ℕ) → ((i : ℕ) → i < n → p (f (a + i)) ≡ true) → list_all p (map f (range_with_len a n)) ≡ true
all_range p f zero a h = refl
all_range p f (suc n) a h =
    let first : f (a + 0) ≡ f a = ap f (omega arith) in
    and_from (p (f a)) (list_all p (map f (range_with_len (a + 1) n))) (ap p (sym first) ∙ h 0 (omega arith))
    (all_range p f n (a + 1) (λ i below. ap p (ap f (let s : a + 1 + i ≡ a + suc i = omega arith in s)) ∙ h (suc i) (omega arith)))

-- which range is whose
in_units : (i latency number : ℕ) → i < 5 → is_number_in_range (1 + i) latency number ≡ is_between 0 8 number
in_units i latency number below =
    let rest = is_between 1 (cond (nat_lt (1 + i) 15) 32 latency) number in
    cond-false (nat_eq (1 + i) 0) (is_between 1 16 number) (cond (nat_lt (1 + i) 6) (is_between 0 8 number) rest)
    (ne_eqb (1 + i) 0 (λ e. omega arith))
    ∙ cond-true (nat_lt (1 + i) 6) (is_between 0 8 number) rest (lt-ltb (1 + i) 6 (omega arith))

in_rest : (n latency number : ℕ) → 6 ≤ n → is_number_in_range n latency number ≡ is_between 1 (cond (nat_lt n 15) 32 latency) number
in_rest n latency number from =
    let rest = is_between 1 (cond (nat_lt n 15) 32 latency) number in
    cond-false (nat_eq n 0) (is_between 1 16 number) (cond (nat_lt n 6) (is_between 0 8 number) rest) (ne_eqb n 0 (λ e. omega arith))
    ∙ cond-false (nat_lt n 6) (is_between 0 8 number) rest (le-ltb n 6 from)

in_latency : (i latency number : ℕ) → i < 9 → is_number_in_range (6 + i) latency number ≡ is_between 1 32 number
in_latency i latency number below =
    in_rest (6 + i) latency number (omega arith)
    ∙ ap (λ high. is_between 1 high number) (cond-true (nat_lt (6 + i) 15) 32 latency (lt-ltb (6 + i) 15 (omega arith)))

in_busy : (i latency number : ℕ) → is_number_in_range (15 + i) latency number ≡ is_between 1 latency number
in_busy i latency number =
    in_rest (15 + i) latency number (omega arith)
    ∙ ap (λ high. is_between 1 high number) (cond-false (nat_lt (15 + i) 15) 32 latency (le-ltb (15 + i) 15 (omega arith)))

module _ (bytes : List ℕ) where
  -- the numbers of the description, and the tests of their bytes
  unit_at : (i : ℕ) → i < 5 → slice_index (at.units bytes) i ≡ slice_index bytes (5 + i)
  unit_at i below = get_or-map-range_with_len (λ n. slice_index bytes (5 + n)) 0 5 i i 0 below (omega arith)

  latency_at : (i : ℕ) → i < 9 → slice_index (at.latencies bytes) i ≡ slice_index bytes (10 + i)
  latency_at i below = get_or-map-range_with_len (λ n. slice_index bytes (10 + n)) 0 9 i i 0 below (omega arith)

  busy_at : (i : ℕ) → i < 9 → slice_index (at.written_busy_times bytes) i ≡ slice_index bytes (19 + i)
  busy_at i below = get_or-map-range_with_len (λ n. slice_index bytes (19 + n)) 0 9 i i 0 below (omega arith)

  unit_test : (i : ℕ) → i < 5 → is_byte_in_range bytes (1 + i) ≡ is_between 0 8 (slice_index bytes (5 + i))
  unit_test i below =
      in_units i (slice_index bytes (1 + i - 5)) (slice_index bytes (4 + (1 + i))) below
      ∙ ap (λ k. is_between 0 8 (slice_index bytes k)) (let s : 4 + (1 + i) ≡ 5 + i = omega arith in s)

  latency_test : (i : ℕ) → i < 9 → is_byte_in_range bytes (6 + i) ≡ is_between 1 32 (slice_index bytes (10 + i))
  latency_test i below =
      in_latency i (slice_index bytes (6 + i - 5)) (slice_index bytes (4 + (6 + i))) below
      ∙ ap (λ k. is_between 1 32 (slice_index bytes k)) (let s : 4 + (6 + i) ≡ 10 + i = omega arith in s)

  busy_test : (i : ℕ) → is_byte_in_range bytes (15 + i) ≡ is_between 1 (slice_index bytes (10 + i)) (slice_index bytes (19 + i))
  busy_test i =
      in_busy i (slice_index bytes (15 + i - 5)) (slice_index bytes (4 + (15 + i)))
      ∙ ap (λ k. is_between 1 (slice_index bytes k) (slice_index bytes (4 + (15 + i)))) (let s : 15 + i - 5 ≡ 10 + i = omega arith in s)
      ∙ ap (λ k. is_between 1 (slice_index bytes (10 + i)) (slice_index bytes k)) (let s : 4 + (15 + i) ≡ 19 + i = omega arith in s)

-- where the description's bytes are in their ranges
module _ (bytes : List ℕ) (h : (n : ℕ) → n < at.numbers_offset bytes - 4 → is_byte_in_range bytes n ≡ true) where
  within : (n : ℕ) → n < 15 → n < at.numbers_offset bytes - 4
  within n below = let l = numbers_near (at.is_version_two bytes) in omega (arith, l.0)

  units_in : IsTrue (are_between 5 0 8 (at.units bytes))
  units_in = all_range (is_between 0 8) (λ n. slice_index bytes (5 + n)) 5 0
      (λ i below. ap (λ k. is_between 0 8 (slice_index bytes (5 + k))) (let s : 0 + i ≡ i = omega arith in s)
      ∙ sym (unit_test bytes i below) ∙ h (1 + i) (within (1 + i) (omega arith)))

  latency_in : (i : ℕ) → i < 9 → is_between 1 32 (slice_index bytes (10 + i)) ≡ true
  latency_in i below = sym (latency_test bytes i below) ∙ h (6 + i) (within (6 + i) (omega arith))

  latencies_in : IsTrue (are_between 9 1 32 (at.latencies bytes))
  latencies_in = all_range (is_between 1 32) (λ n. slice_index bytes (10 + n)) 9 0
      (λ i below. ap (λ k. is_between 1 32 (slice_index bytes (10 + k))) (let s : 0 + i ≡ i = omega arith in s) ∙ latency_in i below)

  -- a test of each of nine numbers
  each_of : (p : ℕ → Bool) → ((i : ℕ) → i < 9 → p i ≡ true) → list_all p (range_with_len 0 9) ≡ true
  each_of p t = range_from p 9 0 (λ i below. ap p (let s : 0 + i ≡ i = omega arith in s) ∙ t i below)

  busy_in : (two : Bool) → at.is_version_two bytes ≡ two → IsTrue (are_within (at.latencies bytes) (cond two (at.written_busy_times bytes) ones))
  busy_in true e =
      each_of (λ n. is_between 1 (slice_index (at.latencies bytes) n) (slice_index (at.written_busy_times bytes) n))
      (λ i below.
      let long : at.numbers_offset bytes ≡ 28 = ap (λ b. cond {A = ℕ} b 28 19) e in
      let inside : 15 + i < at.numbers_offset bytes - 4 = omega (arith, long) in
      ap (is_between 1 (slice_index (at.latencies bytes) i)) (busy_at bytes i below)
      ∙ ap (λ l. is_between 1 l (slice_index bytes (19 + i))) (latency_at bytes i below)
      ∙ sym (busy_test bytes i) ∙ h (15 + i) inside)
  busy_in false e =
      each_of (λ n. is_between 1 (slice_index (at.latencies bytes) n) (slice_index ones n))
      (λ i below.
      let one : slice_index ones i ≡ 1 = get_or-replicate 9 i 1 0 below in
      let l = between 1 32 (slice_index bytes (10 + i)) (latency_in i below) in
      ap (λ n. is_between 1 (slice_index (at.latencies bytes) i) n) one
      ∙ ap (λ l. is_between 1 l 1) (latency_at bytes i below)
      ∙ is_between_from 1 (slice_index bytes (10 + i)) 1 (omega arith) l.0)

  -- they are those of a description
  pub described : IsDescription (at.module_in bytes).description
  unfolding is_in_range
  described =
      let b : IsTrue (are_within (at.latencies bytes) (at.busy_times bytes)) = busy_in (at.is_version_two bytes) refl in
      in_description (at.width bytes) (at.units bytes) (at.latencies bytes) (at.busy_times bytes)
      (and_from (is_between 1 16 (at.width bytes)) (are_between 5 0 8 (at.units bytes) && (are_between 9 1 32 (at.latencies bytes) && are_within (at.latencies bytes) (at.busy_times bytes))) (h 0 (within 0 (lit< tt)))
      (and_from (are_between 5 0 8 (at.units bytes)) (are_between 9 1 32 (at.latencies bytes) && are_within (at.latencies bytes) (at.busy_times bytes)) units_in
      (and_from (are_between 9 1 32 (at.latencies bytes)) (are_within (at.latencies bytes) (at.busy_times bytes)) latencies_in b)))

-- where the numbers are those of a description, the bytes are in their ranges
module _ (bytes : List ℕ) (d : IsDescription (at.module_in bytes).description) where
  unit_byte : (i : ℕ) → i < 5 → is_byte_in_range bytes (1 + i) ≡ true
  unit_byte i below =
      let few : slice_index (at.units bytes) i ≤ 8 = by_unit (λ j. slice_index (at.units bytes) j ≤ 8) d.units i below in
      let same = unit_at bytes i below in
      unit_test bytes i below ∙ is_between_from 0 8 (slice_index bytes (5 + i)) (omega arith) (omega (arith, few, same))

  latency_byte : (i : ℕ) → i < 9 → is_byte_in_range bytes (6 + i) ≡ true
  latency_byte i below =
      let few : (1 ≤ slice_index (at.latencies bytes) i) × (slice_index (at.latencies bytes) i ≤ 32) =
      by_latency (λ j. (1 ≤ slice_index (at.latencies bytes) j) × (slice_index (at.latencies bytes) j ≤ 32)) d.latency i below in
      let same = latency_at bytes i below in
      latency_test bytes i below ∙ is_between_from 1 32 (slice_index bytes (10 + i)) (omega (arith, few.0, same)) (omega (arith, few.1, same))

  busy_byte : (two : Bool) → at.is_version_two bytes ≡ two → (i : ℕ) → i < 9 → 15 + i < at.numbers_offset bytes - 4 → is_byte_in_range bytes (15 + i) ≡ true
  busy_byte false e i below inside =
      let short : at.numbers_offset bytes ≡ 19 = ap (λ b. cond {A = ℕ} b 28 19) e in absurd (omega (arith, short, inside))
  busy_byte true e i below inside =
      let few : (1 ≤ slice_index (at.busy_times bytes) i) × (slice_index (at.busy_times bytes) i ≤ slice_index (at.latencies bytes) i) =
      by_latency (λ j. (1 ≤ slice_index (at.busy_times bytes) j) × (slice_index (at.busy_times bytes) j ≤ slice_index (at.latencies bytes) j)) d.busy i below in
      let written : slice_index (at.busy_times bytes) i ≡ slice_index (at.written_busy_times bytes) i = ap (λ b. slice_index (cond b (at.written_busy_times bytes) ones) i) e in
      let same = latency_at bytes i below in
      let busy = busy_at bytes i below in
      busy_test bytes i ∙ is_between_from 1 (slice_index bytes (10 + i)) (slice_index bytes (19 + i)) (omega (arith, few.0, written, busy)) (omega (arith, few.1, written, busy, same))

  pub byte_kept : (n : ℕ) → n < at.numbers_offset bytes - 4 → is_byte_in_range bytes n ≡ true
  byte_kept zero inside = is_between_from 1 16 (at.width bytes) d.width.0 d.width.1
  byte_kept (suc n) inside = elim (cases_lt n 5) [
    | inl unit ↦ let s : suc n ≡ 1 + n = omega arith in ap (is_byte_in_range bytes) s ∙ unit_byte n unit
    | inr more ↦ elim (cases_lt n 14) [
      | inl latency ↦ let s : suc n ≡ 6 + (n - 5) = omega arith in ap (is_byte_in_range bytes) s ∙ latency_byte (n - 5) (omega arith)
      | inr busy ↦
          let s : suc n ≡ 15 + (n - 14) = omega arith in
          let l = numbers_near (at.is_version_two bytes) in
          ap (is_byte_in_range bytes) s ∙ busy_byte (at.is_version_two bytes) refl (n - 14) (omega (arith, l.1, inside)) (omega (arith, inside))
    ]
  ]
