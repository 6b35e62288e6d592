-- Numbers of descriptions.
use Rattle.std.proofs.Common.{◌≡◌, ℕ, suc, zero, ◌<◌, ◌≤◌, List, [], ◌∷◌, Bool, true, Some, length, sym, ap, ◌∙◌, arith, IsTrue}
use Rattle.std.specs.Prelude.{ℤ, pos, negsuc, int_le, nat_abs, ◌↔◌, slice_get, option_map, unwrap_or}
use Rattle.std.specs.List.{list_all}
use Rattle.std.proofs.lemmas.Bool.{and_parts, and_from, leb-true}
use Rattle.std.proofs.lemmas.Option.{slice_get-map, slice_get_past}
use Rattle.machine_desc.specs.Description.{IsDescription}
use Rattle.machine_desc.specs.Numbers.{description, is_in_range}
use Rattle.machine_desc.specs.Ranges.{in_range, in_description}
use Rattle.asm_syntax.specs.declared.lexemes.Lexeme.{Lexeme as Written}
use Rattle.asm_syntax.specs.StatementReading.{number_of}
use Rattle.asm_syntax.specs.Views.{lexeme_of, line_of, numbers_of}
use Rattle.asm_syntax.specs.Numbers.{is_number}
use Rattle.asm_syntax.specs.Ranges.{number_at, numbers_from, busy_times_of, is_description}

-- a test of all elements holds of the one at a place
pub all_get : {X : Type 0} (p : X → Bool) (xs : List X) (k : ℕ) (x : X) → list_all p xs ≡ true → slice_get xs k ≡ Some x → p x ≡ true
all_get p [] k x h g = absurd (let c : ⊥ = cc in c)
all_get p (y ∷ ys) zero x h g = let same : y ≡ x = cc in ap p (sym same) ∙ (and_parts (p y) (list_all p ys) h).0
all_get p (y ∷ ys) (suc k) x h g = all_get p ys k x (and_parts (p y) (list_all p ys) h).1 g

-- a byte without a sign is below 256
pub byte_below : (z : ℤ) → is_number 0 255 z ≡ true → nat_abs z < 256
byte_below (pos n) h =
    let p = and_parts (int_le (pos 0) (pos n)) (int_le (pos n) (pos 255)) h in
    let q = leb-true n 255 p.1 in
    omega arith
byte_below (negsuc n) h = absurd (let c : ⊥ = cc in c)

-- numbers make a description exactly where the parts that are taken from them do
pub described : (ns : List ℤ) (w : ℕ) (us ls bs : List ℕ) (S : Type 0) → list_all (is_number 0 255) ns ≡ true → w ≡ number_at ns 0 →
    us ≡ numbers_from 1 5 ns → ls ≡ numbers_from 6 9 ns → bs ≡ busy_times_of ns → S ↔ IsDescription (description w us ls bs) →
    S ↔ IsTrue (is_description ns)
described ns w us ls bs S h a b c d both = (
  λ s. and_from (list_all (is_number 0 255) ns) (is_in_range (number_at ns 0) (numbers_from 1 5 ns) (numbers_from 6 9 ns) (busy_times_of ns)) h (sym same ∙ in_range w us ls bs (both.0 s)),
  λ t. both.1 (in_description w us ls bs (same ∙ (and_parts (list_all (is_number 0 255) ns) (is_in_range (number_at ns 0) (numbers_from 1 5 ns) (numbers_from 6 9 ns) (busy_times_of ns)) t).1)),
)
  where
    parts : (w v : ℕ) (us vs ls ms bs cs : List ℕ) → w ≡ v → us ≡ vs → ls ≡ ms → bs ≡ cs → is_in_range w us ls bs ≡ is_in_range v vs ms cs
    parts w v us vs ls ms bs cs e f g k = cc

    same : is_in_range w us ls bs ≡ is_in_range (number_at ns 0) (numbers_from 1 5 ns) (numbers_from 6 9 ns) (busy_times_of ns)
    same = parts w (number_at ns 0) us (numbers_from 1 5 ns) ls (numbers_from 6 9 ns) bs (busy_times_of ns) a b c d

-- ---- the number at a place

pub at_place : (xs : List Written) (k : ℕ) (x : Written) → slice_get xs k ≡ Some x → number_at (numbers_of xs) k ≡ nat_abs (number_of (lexeme_of x))
at_place xs k x h =
    ap (λ o. unwrap_or (option_map nat_abs o) 0)
    (slice_get-map number_of (line_of xs) k ∙ ap (option_map number_of) (slice_get-map lexeme_of xs k ∙ ap (option_map lexeme_of) h))

pub past_place : (xs : List Written) (k : ℕ) → length xs ≤ k → number_at (numbers_of xs) k ≡ 0
past_place xs k h =
    ap (λ o. unwrap_or (option_map nat_abs o) 0)
    (slice_get-map number_of (line_of xs) k ∙ ap (option_map number_of) (slice_get-map lexeme_of xs k ∙ ap (option_map lexeme_of) (slice_get_past xs k h)))

-- it is below 256 where all are bytes
pub byte_at : (xs : List Written) (k : ℕ) (x : Written) → list_all (is_number 0 255) (numbers_of xs) ≡ true → slice_get xs k ≡ Some x →
    nat_abs (number_of (lexeme_of x)) < 256
byte_at xs k x h g =
    byte_below (number_of (lexeme_of x))
    (all_get (is_number 0 255) (numbers_of xs) k (number_of (lexeme_of x)) h
    (slice_get-map number_of (line_of xs) k ∙ ap (option_map number_of) (slice_get-map lexeme_of xs k ∙ ap (option_map lexeme_of) g)))
