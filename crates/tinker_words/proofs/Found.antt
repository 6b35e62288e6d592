-- The setting that a word names.
use Rattle.std.proofs.Common.{◌≡◌, ◌<◌, ◌≤◌, ℕ, zero, suc, ◌+◌, Bool, true, false, cond, List, [], ◌∷◌, ◌++◌, length, take, drop, get_or, Option, Some, None, refl, sym, ap, ◌∙◌, arith}
use Rattle.std.specs.Borrow.{Bor}
use Rattle.std.specs.Str.Pattern.{FindsTextPrefix, StripsPrefix}
use Rattle.std.specs.Prelude.{MatchOption}
use Rattle.std.proofs.lemmas.Slice.Eq.{bytes_eq-Decides}
use Rattle.tinker_words.specs.declared.settings.Kind.{Kind}
use Rattle.tinker_words.specs.Settings.{begins, name_of, setting_in}

take_front : (p rest : List ℕ) → take (length p) (p ++ rest) ≡ p
take_front [] rest = refl
take_front (x ∷ p) rest = ap (λ l. x ∷ l) (take_front p rest)

joined : (n : ℕ) (text : List ℕ) → take n text ++ drop n text ≡ text
joined zero text = refl
joined (suc n) [] = refl
joined (suc n) (x ∷ text) = ap (λ l. x ∷ l) (joined n text)

-- what `strip_prefix` answers
abbrev pub IsStripped : (p text : List ℕ) → Option (Bor (List ℕ)) → Type 0
IsStripped p text r = MatchOption r (FindsTextPrefix p text None) (λ v. StripsPrefix (FindsTextPrefix p) text v.now)

-- what is left of a text behind a prefix is there just where the text begins with it
pub behind_prefix : (p text : List ℕ) (r : Option (Bor (List ℕ))) → IsStripped p text r →
    MatchOption r (begins p text ≡ false) (λ v. (begins p text ≡ true) × (v.now ≡ drop (length p) text))
behind_prefix p text None h = go (begins p text) refl
  where
    go : (b : Bool) → begins p text ≡ b → b ≡ false
    go false e = refl
    go true e =
        let same : take (length p) text ≡ p = (bytes_eq-Decides (take (length p) text) p).0 e in
        absurd (h (drop (length p) text) (sym (joined (length p) text) ∙ ap (λ l. l ++ drop (length p) text) same))
behind_prefix p text (Some v) h =
    let n = h.0 in
    let many : n ≡ length p = h.1.0 in
    let whole : text ≡ p ++ drop n text = h.1.1 in
    let rest : v.now ≡ drop n text = h.2 in (
      (bytes_eq-Decides (take (length p) text) p).1 (ap (take (length p)) whole ∙ take_front p (drop n text)),
      rest ∙ ap (λ k. drop k text) many,
    )

-- the search among the kinds from one on
pub kind_found : (kinds : List Kind) (word : List ℕ) (k : ℕ) (d : Kind) → k < length kinds → begins (name_of (get_or kinds k d)) word ≡ true →
    setting_in (drop k kinds) word ≡ Some (get_or kinds k d)
kind_found [] word k d lt h = absurd (omega arith)
kind_found (x ∷ kinds) word zero d lt h = ap (λ (b : Bool). cond b (Some x) (setting_in kinds word)) h
kind_found (x ∷ kinds) word (suc k) d lt h = kind_found kinds word k d (omega arith) h

pub kind_passed : (kinds : List Kind) (word : List ℕ) (k : ℕ) (d : Kind) → k < length kinds → begins (name_of (get_or kinds k d)) word ≡ false →
    setting_in (drop (k + 1) kinds) word ≡ setting_in (drop k kinds) word
kind_passed [] word k d lt h = absurd (omega arith)
kind_passed (x ∷ kinds) word zero d lt h = sym (ap (λ (b : Bool). cond b (Some x) (setting_in kinds word)) h)
kind_passed (x ∷ kinds) word (suc k) d lt h =
    let e : suc k + 1 ≡ suc (k + 1) = omega arith in
    ap (λ (n : ℕ). setting_in (drop n (x ∷ kinds)) word) e ∙ kind_passed kinds word k d (omega arith) h

pub none_left : (kinds : List Kind) (word : List ℕ) (k : ℕ) → length kinds ≤ k → setting_in (drop k kinds) word ≡ None
none_left [] word zero h = refl
none_left [] word (suc k) h = refl
none_left (x ∷ kinds) word zero h = absurd (omega arith)
none_left (x ∷ kinds) word (suc k) h = none_left kinds word k (omega arith)
