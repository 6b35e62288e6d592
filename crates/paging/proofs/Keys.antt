-- Keys, and pages under them.
use Rattle.std.proofs.Common.{◌≡◌, ℕ, Bool, true, false, cond, List, [], ◌∷◌, length, refl, ap, subst, Option, Some, None}
use Rattle.std.specs.Prelude.{nat_eq, nat_lt, not, ◌||◌}
use Rattle.std.proofs.lemmas.Bool.{and_parts, and_from, eqb-true, eq-eqb}
use Rattle.tnk_base.specs.declared.Key.{Key}
use Rattle.paging.specs.Pages.{Page, Pages, same_key, under, has, without, with_saved, touch, evict, last, make_room, one_more}

pub same_key_is : (a b : Key) → same_key a b ≡ true → a ≡ b
same_key_is a b h =
    let parts = and_parts (nat_eq a.program b.program) (nat_eq a.page b.page) h in
    key_as a.program b.program a.page b.page (eqb-true a.program b.program parts.0) (eqb-true a.page b.page parts.1)
  where
    key_as : (p p' q q' : ℕ) → p ≡ p' → q ≡ q' → ◌≡◌ {A = Key} (record { program = p; page = q }) (record { program = p'; page = q' })
    key_as p p' q q' e f = cc

pub same_key_self : (a : Key) → same_key a a ≡ true
same_key_self a = and_from (nat_eq a.program a.program) (nat_eq a.page a.page) (eq-eqb a.program a.program refl) (eq-eqb a.page a.page refl)

pub same_key_flips : (a b : Key) → same_key a b ≡ same_key b a
same_key_flips a b = go (same_key a b) (same_key b a) refl refl
  where
    go : (x y : Bool) → same_key a b ≡ x → same_key b a ≡ y → x ≡ y
    go true true e f = refl
    go false false e f = refl
    go true false e f =
        let same : a ≡ b = same_key_is a b e in
        let own : same_key b a ≡ true = subst (λ (c : Key). same_key c a ≡ true) same (same_key_self a) in
        cc
    go false true e f =
        let same : b ≡ a = same_key_is b a f in
        let own : same_key a b ≡ true = subst (λ (c : Key). same_key c b ≡ true) same (same_key_self b) in
        cc

-- where a key is, a page is found under it
pub under_some : (k : Key) (pages : List Page) → has k pages ≡ true → (page : Page) × (under k pages ≡ Some page)
under_some k [] h = absurd (let no' : ⊥ = cc in no')
under_some k (p ∷ ps) h = go (under_some k ps) (same_key p.key k) h
  where
    go : (has k ps ≡ true → (page : Page) × (under k ps ≡ Some page)) → (b : Bool) → (b || has k ps) ≡ true → (page : Page) × (cond b (Some p) (under k ps) ≡ Some page)
    go ih true e = (p, refl)
    go ih false e = ih e

-- and where it isn't none is, and leaving it out changes nothing
pub under_none : (k : Key) (pages : List Page) → has k pages ≡ false → under k pages ≡ None
under_none k [] h = refl
under_none k (p ∷ ps) h = go (under_none k ps) (same_key p.key k) h
  where
    go : (has k ps ≡ false → under k ps ≡ None) → (b : Bool) → (b || has k ps) ≡ false → cond b (Some p) (under k ps) ≡ None
    go ih true e = absurd (let no' : ⊥ = cc in no')
    go ih false e = ih e

pub without_none : (k : Key) (pages : List Page) → has k pages ≡ false → without k pages ≡ pages
without_none k [] h = refl
without_none k (p ∷ ps) h = go (without_none k ps) (same_key p.key k) h
  where
    go : (has k ps ≡ false → without k ps ≡ ps) → (b : Bool) → (b || has k ps) ≡ false → cond (not b) (p ∷ without k ps) (without k ps) ≡ p ∷ ps
    go ih true e = absurd (let no' : ⊥ = cc in no')
    go ih false e = ap (λ (l : List Page). p ∷ l) (ih e)

-- nothing else comes by leaving a key out
pub left_out : (k j : Key) (xs : List Page) → has k xs ≡ false → has k (without j xs) ≡ false
left_out k j [] h = refl
left_out k j (x ∷ xs) h = go (left_out k j xs) (same_key x.key k) (not (same_key x.key j)) refl h
  where
    go : (has k xs ≡ false → has k (without j xs) ≡ false) → (b c : Bool) → same_key x.key k ≡ b → (b || has k xs) ≡ false →
        has k (cond c (x ∷ without j xs) (without j xs)) ≡ false
    go ih true c f e = absurd (let no' : ⊥ = cc in no')
    go ih false true f e = rw f (ih e)
    go ih false false f e = ih e

-- to touch a key that isn't resident changes nothing
pub untouched : (k : Key) (p : Pages) → has k p.resident ≡ false → touch k p ≡ p
untouched k p none =
    ap (λ (o : Option Page). let q : Pages = elim o [ None ↦ p | Some page ↦ record p { resident = page ∷ without k p.resident } ] in q) (under_none k p.resident none)

absent_evicted : (k j : Key) (p : Pages) → has k p.resident ≡ false → has k (evict j p).resident ≡ false
absent_evicted k j p none = go (under j p.resident)
  where
    go : (o : Option Page) →
        let q : Pages = elim o [ None ↦ p | Some page ↦ record p { resident = without j p.resident; saved = with_saved p.most_saved page p.saved; evicted = one_more p.evicted } ] in has k q.resident ≡ false
    go None = none
    go (Some page) = left_out k j p.resident none

-- making room brings no page
pub absent_roomy : (k : Key) (p : Pages) → has k p.resident ≡ false → has k (make_room p).resident ≡ false
absent_roomy k p none = go (nat_lt (length p.resident) p.frames) (last p)
  where
    go : (b : Bool) (o : Option Page) → let q : Pages = cond b p (elim o [ None ↦ p | Some page ↦ evict page.key p ]) in has k q.resident ≡ false
    go true o = none
    go false None = none
    go false (Some page) = absent_evicted k page.key p none
