-- Lists that are read and set at a place.
use Rattle.std.proofs.Common.{◌≡◌, ◌≢◌, ◌⊎◌, inl, inr, ◌+◌, ◌<◌, ◌≤◌, ℕ, zero, suc, Bool, true, false, cond, List, [], ◌∷◌, ◌++◌, length, map, append-nil, get_or, refl, ap, subst, ◌∙◌, Some, arith}
use Rattle.std.specs.Prelude.{slice_get, slice_set, not, All}
use Rattle.std.specs.List.{AllZip, position_or_len}
use Rattle.std.specs.Iterator.{Yields}
use Rattle.std.specs.Vec.Iter.{into_iter_items, into_iter_steps}
use Rattle.std.specs.declared.vec.IntoIter.{IntoIter}
use Rattle.std.proofs.lemmas.Bool.{cases_lt}
use Rattle.std.proofs.lemmas.Option.{slice_get_within, slice_get-get_or, get_or_from_slice_get}

module _ {A : Type 0} where
  pub set_same : (xs : List A) (c : ℕ) (x : A) → slice_get xs c ≡ Some x → slice_set xs c x ≡ xs
  set_same [] c x h = refl
  set_same (z ∷ xs) zero x h = let same : x ≡ z = cc in ap (λ y. y ∷ xs) same
  set_same (z ∷ xs) (suc c) x h = ap (λ l. z ∷ l) (set_same xs c x h)

  pub length_set : (xs : List A) (c : ℕ) (x : A) → length (slice_set xs c x) ≡ length xs
  length_set [] c x = refl
  length_set (z ∷ xs) zero x = refl
  length_set (z ∷ xs) (suc c) x = ap suc (length_set xs c x)

  pub there_is : (xs : List A) (c : ℕ) → c < length xs → (x : A) × (slice_get xs c ≡ Some x)
  there_is [] c h = absurd (omega arith)
  there_is (x ∷ xs) zero h = (x, refl)
  there_is (x ∷ xs) (suc c) h = there_is xs c (omega arith)

  -- what holds of each element holds of that at a place
  pub at_place : (P : A → Type 0) (xs : List A) (c : ℕ) (x : A) → All P xs → slice_get xs c ≡ Some x → P x
  at_place P xs c x all h = subst P (get_or_from_slice_get xs c x x h) (all c x (slice_get_within xs c x h))

  -- and the other way round
  pub all_by_places : (P : A → Type 0) (xs : List A) → ((c : ℕ) (x : A) → slice_get xs c ≡ Some x → P x) → All P xs
  all_by_places P xs h c d below = h c (get_or xs c d) (slice_get-get_or xs c d below)

  -- lists are equal where their elements are
  pub same_by_places : (xs ys : List A) → length xs ≡ length ys →
      ((c : ℕ) (x y : A) → slice_get xs c ≡ Some x → slice_get ys c ≡ Some y → x ≡ y) → xs ≡ ys
  same_by_places [] [] n h = refl
  same_by_places [] (y ∷ ys) n h = absurd (omega arith)
  same_by_places (x ∷ xs) [] n h = absurd (omega arith)
  same_by_places (x ∷ xs) (y ∷ ys) n h =
      let head : x ≡ y = h 0 x y refl refl in
      let tail : xs ≡ ys = same_by_places xs ys (omega arith) (λ c a b e f. h (suc c) a b e f) in
      cc

-- what stands at a place of a list with one more behind it stands there without that one, or is it
pub of_more : {A : Type 0} (xs : List A) (y : A) (c : ℕ) (x : A) → slice_get (xs ++ y ∷ []) c ≡ Some x →
    ((c < length xs) × (slice_get xs c ≡ Some x)) ⊎ ((c ≡ length xs) × (x ≡ y))
of_more [] y zero x h = inr (refl, let same : x ≡ y = cc in same)
of_more [] y (suc c) x h = absurd (let no : ⊥ = cc in no)
of_more (z ∷ xs) y zero x h = inl (omega arith, h)
of_more (z ∷ xs) y (suc c) x h = go (of_more xs y c x h)
  where
    go : ((c < length xs) × (slice_get xs c ≡ Some x)) ⊎ ((c ≡ length xs) × (x ≡ y)) →
        ((suc c < length (z ∷ xs)) × (slice_get (z ∷ xs) (suc c) ≡ Some x)) ⊎ ((suc c ≡ length (z ∷ xs)) × (x ≡ y))
    go (inl (lt, e)) = inl (omega arith, e)
    go (inr (at, e)) = inr (ap suc at, e)

-- lists whose elements belong together by places
pub zip_length : {A B : Type 0} (R : A → B → Type 0) (xs : List A) (ys : List B) → AllZip R xs ys → length xs ≡ length ys
zip_length R [] [] h = refl
zip_length R [] (y ∷ ys) h = absurd h
zip_length R (x ∷ xs) [] h = absurd h
zip_length R (x ∷ xs) (y ∷ ys) h = ap suc (zip_length R xs ys h.1)

pub zip_at : {A B : Type 0} (R : A → B → Type 0) (xs : List A) (ys : List B) → AllZip R xs ys → (c : ℕ) (x : A) (y : B) →
    slice_get xs c ≡ Some x → slice_get ys c ≡ Some y → R x y
zip_at R [] ys h c x y e f = absurd (let no : ⊥ = cc in no)
zip_at R (a ∷ xs) [] h c x y e f = absurd (let no : ⊥ = cc in no)
zip_at R (a ∷ xs) (b ∷ ys) h zero x y e f =
    let left : a ≡ x = cc in
    let right : b ≡ y = cc in subst (λ (z : _). R z y) left (subst (R a) right h.0)
zip_at R (a ∷ xs) (b ∷ ys) h (suc c) x y e f = zip_at R xs ys h.1 c x y e f

pub zip_mapped : {A B : Type 0} (R : A → B → Type 0) (f : A → B) (xs : List A) → ((c : ℕ) (x : A) → slice_get xs c ≡ Some x → R x (f x)) →
    AllZip R xs (map f xs)
zip_mapped R f [] h = tt
zip_mapped R f (x ∷ xs) h = (h 0 x refl, zip_mapped R f xs (λ c y e. h (suc c) y e))

-- where the first that passes a test stands
pub position_is : {A : Type 0} (f : A → Bool) (xs : List A) (n : ℕ) (x : A) → slice_get xs n ≡ Some x → f x ≡ true →
    ((m : ℕ) (y : A) → m < n → slice_get xs m ≡ Some y → f y ≡ false) → position_or_len f xs ≡ n
position_is f [] n x e passes before = absurd (let no : ⊥ = cc in no)
position_is f (z ∷ xs) zero x e passes before =
    let same : z ≡ x = cc in ap (λ (b : Bool). cond (not b) (1 + position_or_len f xs) 0) (ap f same ∙ passes)
position_is f (z ∷ xs) (suc n) x e passes before =
    let rest : position_or_len f xs ≡ n = position_is f xs n x e passes (λ m y lt at. before (suc m) y (omega arith) at) in
    let more : 1 + position_or_len f xs ≡ suc n = omega arith in
    ap (λ (b : Bool). cond (not b) (1 + position_or_len f xs) 0) (before 0 z (omega arith) refl) ∙ more

-- what stands at a place of a mapped list
pub mapped_at : {A B : Type 0} (f : A → B) (xs : List A) (c : ℕ) (y : B) → slice_get (map f xs) c ≡ Some y →
    (x : A) × (slice_get xs c ≡ Some x) × (y ≡ f x)
mapped_at f [] c y h = absurd (let no : ⊥ = cc in no)
mapped_at f (x ∷ xs) zero y h = (x, refl, let same : y ≡ f x = cc in same)
mapped_at f (x ∷ xs) (suc c) y h = mapped_at f xs c y h

pub at_mapped : {A B : Type 0} (f : A → B) (xs : List A) (c : ℕ) (x : A) → slice_get xs c ≡ Some x → slice_get (map f xs) c ≡ Some (f x)
at_mapped f [] c x h = absurd (let no : ⊥ = cc in no)
at_mapped f (z ∷ xs) zero x h = let same : z ≡ x = cc in ap (λ (z : _). Some (f z)) same
at_mapped f (z ∷ xs) (suc c) x h = at_mapped f xs c x h

-- an element of a list that was set at a place is the new one, or stood there before
pub set_or_kept : {A : Type 0} (xs : List A) (c d : ℕ) (new y : A) → slice_get (slice_set xs c new) d ≡ Some y →
    ((d ≡ c) × (y ≡ new)) ⊎ ((c ≢ d) × (slice_get xs d ≡ Some y))
set_or_kept [] c d new y h = absurd (let no : ⊥ = cc in no)
set_or_kept (z ∷ xs) zero zero new y h = inl (refl, let same : y ≡ new = cc in same)
set_or_kept (z ∷ xs) zero (suc d) new y h = inr (λ e. let e' : zero ≡ suc d = e in omega arith, h)
set_or_kept (z ∷ xs) (suc c) zero new y h = inr (λ e. let e' : suc c ≡ zero = e in omega arith, h)
set_or_kept (z ∷ xs) (suc c) (suc d) new y h = go (set_or_kept xs c d new y h)
  where
    go : ((d ≡ c) × (y ≡ new)) ⊎ ((c ≢ d) × (slice_get xs d ≡ Some y)) →
        ((suc d ≡ suc c) × (y ≡ new)) ⊎ ((suc c ≢ suc d) × (slice_get xs d ≡ Some y))
    go (inl (e, f)) = inl (ap suc e, f)
    go (inr (n, f)) = inr (λ e. n (let g : suc c ≡ suc d = e in omega arith), f)

-- what is so of all elements before one, and of that one
pub one_more_so : {A : Type 0} (P : A → Type 0) (xs : List A) (c : ℕ) (x : A) → slice_get xs c ≡ Some x → P x →
    ((i : ℕ) (y : A) → i < c → slice_get xs i ≡ Some y → P y) → (i : ℕ) (y : A) → i < c + 1 → slice_get xs i ≡ Some y → P y
one_more_so P xs c x at has before i y lt here = go (cases_lt i c)
  where
    go : (i < c) ⊎ (c ≤ i) → P y
    go (inl below) = before i y below here
    go (inr ge) =
        let same : c ≡ i = omega arith in
        let one : x ≡ y = let e : slice_get xs i ≡ Some x = subst (λ (j : ℕ). slice_get xs j ≡ Some x) same at in cc in
        subst P one has

-- what a vector's iterator has given is a front of its items
pub taken_front : {X A : Type 0} (s : IntoIter X A) (xs : List X) (t : IntoIter X A) → Yields into_iter_steps s xs t → into_iter_items s ≡ xs ++ into_iter_items t
taken_front s [] t y = ap into_iter_items y
taken_front s (x ∷ xs) t y = y.1.0 ∙ ap (λ ys. x ∷ ys) (taken_front y.0 xs t y.2)

-- and all of them, where it has no more
pub none_left : {X : Type 0} (all xs rest : List X) → all ≡ xs ++ rest → length rest ≡ 0 → all ≡ xs
none_left all xs [] e h = e ∙ append-nil xs
none_left all xs (x ∷ rest) e h = absurd (omega arith)
