-- Numbers of one or two digits, both ways.
use Rattle.std.proofs.Common.{◌≡◌, ℕ, ◌+◌, ◌-◌, ◌*◌, ◌/◌, ◌%◌, ◌<◌, ◌≤◌, Bool, true, false, cond, ◌&&◌, List, [], ◌∷◌, Some, None, refl, sym, ap, ◌∙◌, arith}
use Rattle.std.specs.Prelude.{nat_eq, nat_le, bytes_eq, Option}
use Rattle.std.specs.List.{list_any}
use Rattle.std.specs.Char.{is_ascii_digit}
use Rattle.std.specs.Fmt.{decimal, digits}
use Rattle.std.proofs.lemmas.Bool.{and_parts, leb-true, eqb-true}
use Rattle.std.proofs.lemmas.Slice.Eq.{bytes_eq-Decides}
use Rattle.asm_syntax.specs.Reading.{number_in, is_dot}
use Rattle.asm_syntax.proofs.Tables.{all_below, each_below}

-- ---- what is written is read

is_number : ℕ → Option ℕ → Bool
is_number n None = false
is_number n (Some k) = nat_eq k n

is_number-some : (n : ℕ) (o : Option ℕ) → is_number n o ≡ true → o ≡ Some n
unfolding is_number
is_number-some n None h = absurd (let k : ⊥ = cc in k)
is_number-some n (Some k) h = ap (λ (x : ℕ). Some x) (eqb-true k n h)

all_read : all_below (λ n. is_number n (number_in (decimal n))) 32 ≡ true
unfolding is_number digits
all_read = refl

pub written_read : (n : ℕ) → n ≤ 31 → number_in (decimal n) ≡ Some n
written_read n few = is_number-some n (number_in (decimal n)) (each_below (λ k. is_number k (number_in (decimal k))) 32 all_read n (omega arith))

-- no dot stands in a number
no_dot : ℕ → Bool
no_dot n = nat_eq (cond (list_any is_dot (decimal n)) 1 0) 0

all_without_dot : all_below no_dot 32 ≡ true
unfolding no_dot digits
all_without_dot = refl

false_from : (b : Bool) → nat_eq (cond b 1 0) 0 ≡ true → b ≡ false
false_from true h = absurd (let k : ⊥ = cc in k)
false_from false h = refl

pub without_dot : (n : ℕ) → n ≤ 31 → list_any is_dot (decimal n) ≡ false
unfolding no_dot
without_dot n few = false_from (list_any is_dot (decimal n)) (each_below no_dot 32 all_without_dot n (omega arith))

-- ---- what is read is written so

all_one_digit : all_below (λ n. bytes_eq (decimal n) ((48 + n) ∷ [])) 10 ≡ true
unfolding digits
all_one_digit = refl

two_digits : ℕ → Bool
two_digits n = bytes_eq (decimal (10 + n)) ((48 + (10 + n) / 10) ∷ ((48 + (10 + n) % 10) ∷ []))

all_two_digits : all_below two_digits 22 ≡ true
unfolding two_digits digits
all_two_digits = refl

one_digit : (n : ℕ) → n < 10 → decimal n ≡ (48 + n) ∷ []
one_digit n few = (bytes_eq-Decides (decimal n) ((48 + n) ∷ [])).0 (each_below (λ k. bytes_eq (decimal k) ((48 + k) ∷ [])) 10 all_one_digit n few)

digit_range : (a : ℕ) → is_ascii_digit a ≡ true → (48 ≤ a) × (a ≤ 57)
digit_range a h = let p = and_parts (nat_le 48 a) (nat_le a 57) h in (leb-true 48 a p.0, leb-true a 57 p.1)

two : (n : ℕ) → n < 22 → decimal (10 + n) ≡ (48 + (10 + n) / 10) ∷ ((48 + (10 + n) % 10) ∷ [])
unfolding two_digits
two n few = (bytes_eq-Decides (decimal (10 + n)) ((48 + (10 + n) / 10) ∷ ((48 + (10 + n) % 10) ∷ []))).0 (each_below two_digits 22 all_two_digits n few)

two_by : (a b n : ℕ) → 1 ≤ a → b ≤ 9 → n ≡ 10 * a + b → n ≤ 31 → decimal n ≡ (48 + a) ∷ ((48 + b) ∷ [])
two_by a b n some few same small =
    let m : ℕ = n - 10 in
    let e : 10 + m ≡ n = omega arith in
    let high : (10 + m) / 10 ≡ a = omega arith in
    let low : (10 + m) % 10 ≡ b = omega arith in
    ap decimal (sym e) ∙ two m (omega arith) ∙ ap (λ k. (48 + k) ∷ ((48 + (10 + m) % 10) ∷ [])) high ∙ ap (λ k. (48 + a) ∷ ((48 + k) ∷ [])) low

some_same : (x y : ℕ) → Some x ≡ Some y → x ≡ y
some_same x y h = cc

chosen : (b : Bool) (x y : ℕ) → cond b (Some x) None ≡ Some y → (b ≡ true) × (x ≡ y)
chosen true x y h = (refl, some_same x y h)
chosen false x y h = absurd (let k : ⊥ = cc in k)

pub read_written : (ds : List ℕ) (n : ℕ) → number_in ds ≡ Some n → n ≤ 31 → decimal n ≡ ds
read_written [] n h few = absurd (let k : ⊥ = cc in k)
read_written (a ∷ []) n h few =
    let p = chosen (is_ascii_digit a) (a - 48) n h in
    let r = digit_range a p.0 in
    let low = r.0 in let high = r.1 in let same = p.1 in
    let e : 48 + n ≡ a = omega arith in
    one_digit n (omega arith) ∙ ap (λ k. k ∷ []) e
read_written (a ∷ (b ∷ [])) n h few =
    let p = chosen ((is_ascii_digit a && is_ascii_digit b) && nat_le 49 a) (10 * (a - 48) + (b - 48)) n h in
    let q = and_parts (is_ascii_digit a && is_ascii_digit b) (nat_le 49 a) p.0 in
    let r = and_parts (is_ascii_digit a) (is_ascii_digit b) q.0 in
    let ra = digit_range a r.0 in
    let rb = digit_range b r.1 in
    let first = leb-true 49 a q.1 in
    let a_low = ra.0 in let b_low = rb.0 in let b_high = rb.1 in let same = p.1 in
    let ea : 48 + (a - 48) ≡ a = omega arith in
    let eb : 48 + (b - 48) ≡ b = omega arith in
    two_by (a - 48) (b - 48) n (omega arith) (omega arith) (sym same) few
    ∙ ap (λ k. k ∷ ((48 + (b - 48)) ∷ [])) ea ∙ ap (λ k. a ∷ (k ∷ [])) eb
read_written (a ∷ (b ∷ (c ∷ ds))) n h few = absurd (let k : ⊥ = cc in k)
