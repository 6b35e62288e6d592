-- Bytes that were read as a number are written again.
use Rattle.std.proofs.Common.{◌≡◌, ℕ, zero, suc, ◌+◌, ◌-◌, ◌*◌, ◌/◌, ◌%◌, ◌^◌, ◌<◌, ◌≤◌, List, [], ◌∷◌, length, take, drop, All, refl, sym, ap, ◌∙◌, inl, inr, arith}
use Rattle.std.specs.Prelude.{slice_index}
use Rattle.std.specs.Int.{byte_at, bytes_high_first}
use Rattle.std.proofs.Math.Nat.{div-one, mul_assoc, mul-add-div_right, mul-add-mod_self_right, one-le-pow, pow-suc}
use Rattle.std.proofs.lemmas.Bool.{cases_lt}
use Rattle.std.proofs.lemmas.Nat.{pow-add, div-mul-add}
use Rattle.std.proofs.lemmas.List.{length-drop, get_or_past}
use Rattle.std.proofs.lemmas.List.Elements.{All-drop}
use Rattle.byteorder.specs.Endian.{big_number, big_bytes, big_from}
use Rattle.byteorder.specs.Numbers.{big_from-cons, big_from-lt}

-- a byte of a number, by its place
at_place : (k x : ℕ) → byte_at k x ≡ x / 256 ^ k % 256
at_place zero x = ap (λ (y : ℕ). y % 256) (sym (div-one x))
at_place (suc k) x = refl

above_zero : (n : ℕ) → zero < 256 ^ n
above_zero n = let h = one-le-pow n 256 (omega arith) in omega arith

-- a multiple of a power, in the units of a byte below it
multiple : (b k d : ℕ) → b * 256 ^ (suc d + k) ≡ (b * 256 ^ d * 256) * 256 ^ k
multiple b k d =
    ap (λ (p : ℕ). b * p) (pow-add 256 (suc d) k ∙ ap (λ (p : ℕ). p * 256 ^ k) (pow-suc 256 d))
    ∙ sym (mul_assoc b (256 ^ d * 256) (256 ^ k))
    ∙ ap (λ (p : ℕ). p * 256 ^ k) (sym (mul_assoc b (256 ^ d) 256))

-- what stands above a byte doesn't change it
same_byte : (k d b r : ℕ) → byte_at k (b * 256 ^ (suc d + k) + r) ≡ byte_at k r
same_byte k d b r =
    at_place k (b * 256 ^ (suc d + k) + r)
    ∙ ap (λ (x : ℕ). (x + r) / 256 ^ k % 256) (multiple b k d)
    ∙ ap (λ (x : ℕ). x % 256) (mul-add-div_right (above_zero k) (b * 256 ^ d * 256) r)
    ∙ mul-add-mod_self_right (b * 256 ^ d) 256 (r / 256 ^ k)
    ∙ sym (at_place k r)

-- nor the bytes from there down
same_bytes : (n m b r : ℕ) → n ≤ m → bytes_high_first n (b * 256 ^ m + r) ≡ bytes_high_first n r
same_bytes zero m b r h = refl
same_bytes (suc n) m b r h =
    let e : m ≡ suc (m - suc n) + n = omega arith in
    let first : byte_at n (b * 256 ^ m + r) ≡ byte_at n r =
    ap (λ (p : ℕ). byte_at n (b * 256 ^ p + r)) e ∙ same_byte n (m - suc n) b r in
    ap (λ (x : ℕ). x ∷ bytes_high_first n (b * 256 ^ m + r)) first
    ∙ ap (λ (xs : List ℕ). byte_at n r ∷ xs) (same_bytes n m b r (omega arith))

-- the highest byte
top_byte : (n b r : ℕ) → b < 256 → r < 256 ^ n → byte_at n (b * 256 ^ n + r) ≡ b
top_byte n b r small below =
    at_place n (b * 256 ^ n + r) ∙ ap (λ (x : ℕ). x % 256) (div-mul-add b (256 ^ n) r below) ∙ (omega arith)

-- each item is below 256, also where there is none
byte_below : (bytes : List ℕ) → All (λ b. b < 256) bytes → (k : ℕ) → slice_index bytes k < 256
byte_below bytes all k = elim (cases_lt k (length bytes)) [
  | inl below ↦ all k 0 below
  | inr past ↦ let none : slice_index bytes k ≡ 0 = get_or_past bytes k 0 past in omega arith
]

-- the number in the first n bytes, written in n bytes, is those bytes
pub written_again : (n : ℕ) (bytes : List ℕ) → n ≤ length bytes → All (λ b. b < 256) bytes → big_bytes n (big_number n bytes) ≡ take n bytes
written_again zero bytes there all = refl
written_again (suc n) [] there all = absurd (omega arith)
written_again (suc n) (b ∷ bytes) there all =
    let below : All (λ b. b < 256) bytes = All-drop (λ b. b < 256) 1 (b ∷ bytes) all in
    let rest = big_from 0 n bytes in
    let small : rest < 256 ^ n = big_from-lt 0 n bytes (byte_below bytes below) in
    let e : big_number (suc n) (b ∷ bytes) ≡ b * 256 ^ n + rest = ap (λ (r : ℕ). b * 256 ^ n + r) (big_from-cons 0 n b bytes) in
    ap (bytes_high_first (suc n)) e
    ∙ ap (λ (x : ℕ). x ∷ bytes_high_first n (b * 256 ^ n + rest)) (top_byte n b rest (all 0 0 (omega arith)) small)
    ∙ ap (λ (xs : List ℕ). b ∷ xs) (same_bytes n n b rest (omega arith) ∙ written_again n bytes (omega arith) below)

-- the same of n bytes that stand behind others
pub written_again_at : (n offset : ℕ) (bytes : List ℕ) → offset + n ≤ length bytes → All (λ b. b < 256) bytes →
    big_bytes n (big_number n (drop offset bytes)) ≡ take n (drop offset bytes)
written_again_at n offset bytes there all =
    written_again n (drop offset bytes) (omega (arith, length-drop offset bytes)) (All-drop (λ b. b < 256) offset bytes all)
