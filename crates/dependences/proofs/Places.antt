-- Places in lists: those that pass a test, and what is made of those that are no constants.
use Rattle.std.proofs.Common.{◌≡◌, zero, suc, Bool, true, false, not, cond, List, [], ◌∷◌, map, ◌⊎◌, inl, inr, refl, sym, ap, subst, ◌∙◌, arith}
use Rattle.std.specs.List.{Contains, list_any, AllByRecursion}
use Rattle.std.proofs.lemmas.Bool.{or_cases, or_left, or_right, eq-eqb, false≢true}
use Rattle.operation.specs.declared.Place.{Place}
use Rattle.operation.specs.Places.{same_place, is_among, is_constant}
use Rattle.operation.proofs.PlaceLaws.{same_place_is, among_head, among_next}
use Rattle.dependences.specs.Accesses.{kept}
use Rattle.dependences.specs.Footprint.{place_number}
use Rattle.dependences.proofs.PlaceRanges.{InRange, same_number}

-- ---- places of a list

-- one of the listed places passes the test
pub record SomePlace (test : Place → Bool) (xs : List Place) : Type 0 where
  pub place : Place
  pub among : is_among place xs ≡ true
  pub passes : test place ≡ true

pub some_of : (test : Place → Bool) (xs : List Place) → list_any test xs ≡ true → SomePlace test xs
some_of test [] h = absurd (false≢true h)
some_of test (x ∷ xs) h = elim (or_cases (test x) (list_any test xs) h) [
  | inl e ↦ record { place = x; among = among_head x xs; passes = e }
  | inr e ↦
      let r = some_of test xs e in
      record { place = r.place; among = among_next r.place x xs r.among; passes = r.passes }
]

pub of_some : (test : Place → Bool) (xs : List Place) (x : Place) → is_among x xs ≡ true → test x ≡ true → list_any test xs ≡ true
of_some test [] x a h = absurd (false≢true a)
of_some test (y ∷ ys) x a h = elim (or_cases (same_place x y) (is_among x ys) a) [
  | inl e ↦ or_left (test y) (list_any test ys) (ap test (sym (same_place_is x y e)) ∙ h)
  | inr e ↦ or_right (test y) (list_any test ys) (of_some test ys x e h)
]

pub range_among : (xs : List Place) → AllByRecursion InRange xs → (x : Place) → is_among x xs ≡ true → InRange x
range_among [] h x a = absurd (false≢true a)
range_among (y ∷ ys) h x a = elim (or_cases (same_place x y) (is_among x ys) a) [
  | inl e ↦ subst InRange (sym (same_place_is x y e)) h.0
  | inr e ↦ range_among ys h.1 x e
]

-- places in range are one where their numbers are
pub one_place : (x y : Place) → InRange x → InRange y → place_number x ≡ place_number y → x ≡ y
one_place x y h k e = same_place_is x y (sym (same_number x y h k) ∙ eq-eqb (place_number x) (place_number y) e)

-- ---- what is made of places that are no constants

pub later : {X : Type 0} (y x : X) (xs : List X) → Contains xs x → Contains (y ∷ xs) x
later y x xs c = (suc c.0, (let lt = c.1 in omega arith), c.2)

module _ {X : Type 0} (make : Place → X) where
  -- what it is made of
  pub made_of : (xs : List Place) (a : X) → Contains (map make (kept xs)) a →
      (x : Place) × (is_constant x ≡ false) × (is_among x xs ≡ true) × (make x ≡ a)
  made_of [] a c = absurd (let lt = c.1 in omega arith)
  made_of (y ∷ ys) a c = go (is_constant y) refl (made_of ys a) c
    where
      more : ((x : Place) × (is_constant x ≡ false) × (is_among x ys ≡ true) × (make x ≡ a)) →
          (x : Place) × (is_constant x ≡ false) × (is_among x (y ∷ ys) ≡ true) × (make x ≡ a)
      more r = (r.0, r.1, among_next r.0 y ys r.2, r.3)

      go : (b : Bool) → is_constant y ≡ b →
          (Contains (map make (kept ys)) a → (x : Place) × (is_constant x ≡ false) × (is_among x ys ≡ true) × (make x ≡ a)) →
          Contains (map make (cond (not b) (y ∷ kept ys) (kept ys))) a →
          (x : Place) × (is_constant x ≡ false) × (is_among x (y ∷ ys) ≡ true) × (make x ≡ a)
      go true e rest c = more (rest c)
      go false e rest (zero, lt, h) = (y, e, among_head y ys, h)
      go false e rest (suc k, lt, h) = more (rest (k, omega arith, h))

  -- and what is made
  pub made : (xs : List Place) (x : Place) → is_constant x ≡ false → is_among x xs ≡ true → Contains (map make (kept xs)) (make x)
  made [] x v a = absurd (false≢true a)
  made (y ∷ ys) x v a = go (or_cases (same_place x y) (is_among x ys) a) (made ys x v) (is_constant y) refl
    where
      go : (same_place x y ≡ true) ⊎ (is_among x ys ≡ true) → (is_among x ys ≡ true → Contains (map make (kept ys)) (make x)) →
          (b : Bool) → is_constant y ≡ b → Contains (map make (cond (not b) (y ∷ kept ys) (kept ys))) (make x)
      go (inl e) rest true f = absurd (false≢true (sym v ∙ ap is_constant (same_place_is x y e) ∙ f))
      go (inl e) rest false f = (0, omega arith, ap make (sym (same_place_is x y e)))
      go (inr m) rest true f = rest m
      go (inr m) rest false f = later (make y) (make x) (map make (kept ys)) (rest m)
