-- Lists that are cut at elements which pass a test.
use Rattle.std.proofs.Common.{ℕ, ◌≡◌, ◌+◌, ◌<◌, ◌≤◌, suc, Bool, true, false, not, cond, List, [], ◌∷◌, length, get_or, Option, Some, None, position, ap₂, ◌-◌, nat_lt, ltb-false, take, drop, filter, refl, sym, ap, ◌∙◌, subst, take_all, drop-cons, one-add, drop_of_length-le}
use Rattle.std.specs.List.{slice_split, position_or_len, before_first}
use Rattle.std.proofs.lemmas.List.{take_rest}
use Rattle.std.proofs.lemmas.List.Sums.{passes_at_first}
use Rattle.std.proofs.lemmas.List.Splits.{slice_split_first}
use Rattle.event_script.specs.Fields.{is_blank, is_line_end, is_there, lines, fields}

-- all parts but the first
abbrev pub behind : {X : Type 0} → List X → List X
behind [] = []
behind (part ∷ parts) = parts

-- the first part of a list ends where its first element passes
abbrev IsFirstPart : {X : Type 0} → (X → Bool) → List X → Type 0
IsFirstPart p xs = slice_split p xs ≡ take (position_or_len p xs) xs ∷ behind (slice_split p (drop (position_or_len p xs) xs))

ends_here : {X : Type 0} (p : X → Bool) (x : X) (xs : List X) → p x ≡ true → IsFirstPart p (x ∷ xs)
ends_here p x xs e = simp e refl

goes_on : {X : Type 0} (p : X → Bool) (x : X) (xs : List X) → p x ≡ false → IsFirstPart p xs → IsFirstPart p (x ∷ xs)
goes_on p x xs e h = rw (e, one-add (position_or_len p xs), h) refl

pub first_part : {X : Type 0} (p : X → Bool) (xs : List X) → IsFirstPart p xs
first_part p [] = refl
first_part p (x ∷ xs) = cases (first_part p xs) (p x) refl
  where
    cases : IsFirstPart p xs → (b : Bool) → p x ≡ b → IsFirstPart p (x ∷ xs)
    cases h true e = ends_here p x xs e
    cases h false e = goes_on p x xs e h

-- how many blanks a line begins with, and how many bytes stand before its first blank
abbrev pub blanks : List ℕ → ℕ
blanks xs = position_or_len (λ b. not (is_blank b)) xs

abbrev pub field_end : List ℕ → ℕ
field_end xs = position_or_len is_blank xs

-- what stands behind the first part, where a line is cut at blanks, gives the line's other fields
abbrev GivesOthers : List ℕ → Type 0
GivesOthers xs =
    filter is_there (behind (slice_split is_blank (drop (field_end xs) xs))) ≡ fields (drop (field_end xs) xs)

others : (xs : List ℕ) → GivesOthers xs
others [] = refl
others (x ∷ xs) = cases (others xs) (is_blank x) refl
  where
    cases : GivesOthers xs → (b : Bool) → is_blank x ≡ b → GivesOthers (x ∷ xs)
    cases h true e = simp e refl
    cases h false e = rw (e, one-add (field_end xs)) h

-- the first part is a field, where the line begins with one
takes_first : (x : ℕ) (xs : List ℕ) → is_blank x ≡ false
    → fields (x ∷ xs) ≡ take (field_end (x ∷ xs)) (x ∷ xs) ∷ fields (drop (field_end (x ∷ xs)) (x ∷ xs))
takes_first x xs e =
    ap (filter is_there) (first_part is_blank (x ∷ xs)) ∙ rw (sym (others (x ∷ xs))) (rw (e, one-add (field_end xs)) refl)

-- blanks at the front give no field
abbrev LosesNone : List ℕ → Type 0
LosesNone xs = fields (drop (blanks xs) xs) ≡ fields xs

loses_none : (xs : List ℕ) → LosesNone xs
loses_none [] = refl
loses_none (x ∷ xs) = cases (loses_none xs) (is_blank x) refl
  where
    cases : LosesNone xs → (b : Bool) → is_blank x ≡ b → LosesNone (x ∷ xs)
    cases h true e = rw (e, one-add (blanks xs)) h
    cases h false e = simp e refl

-- a place that was found is the first, and there is none where nothing was found
at_first : (n l i : ℕ) → Some i ≡ cond (nat_lt n l) (Some n) None → i ≡ n
at_first n l i h = cases (nat_lt n l) h
  where
    cases : (b : Bool) → Some i ≡ cond b (Some n) None → i ≡ n
    cases true e = cc
    cases false e = absurd (let k : ⊥ = cc in k)

at_none : (n l : ℕ) → None ≡ cond {A = Option ℕ} (nat_lt n l) (Some n) None → l ≤ n
at_none n l h = cases (nat_lt n l) refl h
  where
    cases : (b : Bool) → nat_lt n l ≡ b → None ≡ cond {A = Option ℕ} b (Some n) None → l ≤ n
    cases true e h = absurd (let k : ⊥ = cc in k)
    cases false e h = ltb-false n l e

-- a line of blanks alone has no fields
none_there : (xs : List ℕ) → length xs ≤ blanks xs → fields xs ≡ []
none_there xs h = sym (loses_none xs) ∙ ap fields (drop_of_length-le xs h)

begins_with_field : (xs ys : List ℕ) (x : ℕ) → ys ≡ x ∷ xs → is_blank x ≡ false
    → fields ys ≡ take (field_end ys) ys ∷ fields (drop (field_end ys) ys)
begins_with_field xs ys x e h = rw e (takes_first x xs h)

-- the field behind the blanks at the front is the first
first_there : (xs : List ℕ) (start : ℕ) → start ≡ blanks xs → start < length xs
    → fields xs ≡ take (field_end (drop start xs)) (drop start xs) ∷ fields (drop (field_end (drop start xs)) (drop start xs))
first_there xs start e h =
    let below = subst (λ n. n < length xs) e h in
    let passes : not (is_blank (get_or xs start 0)) ≡ true = rw e (passes_at_first (λ b. not (is_blank b)) xs 0 below) in
    sym (ap (λ n. fields (drop n xs)) e ∙ loses_none xs)
    ∙ begins_with_field (drop (suc start) xs) (drop start xs) (get_or xs start 0) (drop-cons xs start 0 h) (no _ passes)
  where
    no : (b : Bool) → not b ≡ true → b ≡ false
    no true e = sym e
    no false e = refl

-- the first line ends at the first LF, and without one it is all
pub line_at : (xs : List ℕ) (end : ℕ) → Some end ≡ position is_line_end xs → end < length xs
    → lines xs ≡ take end xs ∷ lines (take (length xs - (end + 1)) (drop (end + 1) xs))
line_at xs end h below =
    let e = at_first (position_or_len is_line_end xs) (length xs) end h in
    slice_split_first is_line_end xs 0 (subst (λ n. n < length xs) e below)
    ∙ ap (λ n. take n xs ∷ lines (drop (n + 1) xs)) (sym e)
    ∙ ap (λ rest. take end xs ∷ lines rest) (sym (take_rest xs (end + 1)))

pub one_line : (xs : List ℕ) → None ≡ position is_line_end xs → lines xs ≡ xs ∷ []
one_line xs h =
    let all = at_none (position_or_len is_line_end xs) (length xs) h in
    first_part is_line_end xs ∙ rw (take_all (position_or_len is_line_end xs) xs all, drop_of_length-le xs all) refl

-- the first field begins behind the blanks at the front, and without its begin there is none
pub field_at : (xs front rest : List ℕ) (start : ℕ) → Some start ≡ position (λ b. not (is_blank b)) xs → start < length xs
    → front ≡ before_first is_blank (take (length xs - start) (drop start xs))
    → rest ≡ drop (field_end (take (length xs - start) (drop start xs))) (take (length xs - start) (drop start xs))
    → fields xs ≡ front ∷ fields rest
field_at xs front rest start h below f r =
    let e = at_first (blanks xs) (length xs) start h in
    first_there xs start e below
    ∙ ap (λ ys. before_first is_blank ys ∷ fields (drop (field_end ys) ys)) (sym (take_rest xs start))
    ∙ ap₂ (λ ys zs. ys ∷ fields zs) (sym f) (sym r)

pub no_field : (xs : List ℕ) → None ≡ position (λ b. not (is_blank b)) xs → fields xs ≡ []
no_field xs h = none_there xs (at_none (blanks xs) (length xs) h)
