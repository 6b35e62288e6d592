-- No key comes to stand twice in one of the two lists.
use Rattle.std.proofs.Common.{◌≡◌, ℕ, Bool, true, false, cond, List, [], ◌∷◌, ◌++◌, drop, length, refl, sym, ap, subst, ◌∙◌, Option, Some, None}
use Rattle.std.specs.Prelude.{not, ◌||◌, nat_eq, nat_lt, if◌then◌else◌}
use Rattle.std.specs.List.{IsDistinct, AllByRecursion}
use Rattle.std.proofs.lemmas.Map.Keys.{IsDistinct-head, IsDistinct-tail, IsDistinct-cons}
use Rattle.tnk_base.specs.declared.Key.{Key}
use Rattle.paging.specs.Pages.{Page, Pages, Paging, same_key, under, has, without, with_room, touch, with_saved, evict, last, make_room, put, drop_saved, load, need, one_more}
use Rattle.paging.specs.Limits.{same_page, AreApart}
use Rattle.paging.proofs.Keys.{same_key_flips, absent_roomy}
use Rattle.paging.proofs.Kept.{found_key}

-- no page of the list has the key
abbrev IsAway : Key → List Page → Type 0
IsAway k xs = AllByRecursion (λ y. same_key k y.key ≡ false) xs

away : (k : Key) (xs : List Page) → has k xs ≡ false → IsAway k xs
away k [] h = tt
away k (x ∷ xs) h = go (away k xs) (same_key x.key k) refl h
  where
    go : (has k xs ≡ false → IsAway k xs) → (b : Bool) → same_key x.key k ≡ b → (b || has k xs) ≡ false → IsAway k (x ∷ xs)
    go ih true e h = absurd (let no' : ⊥ = cc in no')
    go ih false e h = (same_key_flips k x.key ∙ e, ih h)

-- ---- a key that is left out

away_without : (k : Key) (xs : List Page) → IsAway k (without k xs)
away_without k [] = tt
away_without k (x ∷ xs) = go (away_without k xs) (same_key x.key k) refl
  where
    go : IsAway k (without k xs) → (b : Bool) → same_key x.key k ≡ b → IsAway k (cond (not b) (x ∷ without k xs) (without k xs))
    go ih true e = ih
    go ih false e = (same_key_flips k x.key ∙ e, ih)

still_away : (j k : Key) (xs : List Page) → IsAway j xs → IsAway j (without k xs)
still_away j k [] h = tt
still_away j k (x ∷ xs) h = go (still_away j k xs h.1) (not (same_key x.key k))
  where
    go : IsAway j (without k xs) → (b : Bool) → IsAway j (cond b (x ∷ without k xs) (without k xs))
    go ih true = (h.0, ih)
    go ih false = ih

without_apart : (k : Key) (xs : List Page) → IsDistinct same_page xs → IsDistinct same_page (without k xs)
without_apart k [] h = h
without_apart k (x ∷ xs) h =
    go (without_apart k xs (IsDistinct-tail same_page x xs h)) (still_away x.key k xs (IsDistinct-head same_page x xs h)) (not (same_key x.key k))
  where
    go : IsDistinct same_page (without k xs) → IsAway x.key (without k xs) → (b : Bool) → IsDistinct same_page (cond b (x ∷ without k xs) (without k xs))
    go ih a true = IsDistinct-cons same_page x (without k xs) a ih
    go ih a false = ih

-- ---- a page more

more_away : (k : Key) (xs : List Page) (page : Page) → IsAway k xs → same_key k page.key ≡ false → IsAway k (xs ++ page ∷ [])
more_away k [] page h e = (e, tt)
more_away k (x ∷ xs) page h e = (h.0, more_away k xs page h.1 e)

more_apart : (xs : List Page) (page : Page) → IsDistinct same_page xs → has page.key xs ≡ false → IsDistinct same_page (xs ++ page ∷ [])
more_apart [] page d none = IsDistinct-cons same_page page [] tt d
more_apart (x ∷ xs) page d none = go (more_apart xs page (IsDistinct-tail same_page x xs d)) (same_key x.key page.key) refl none
  where
    go : (has page.key xs ≡ false → IsDistinct same_page (xs ++ page ∷ [])) → (b : Bool) → same_key x.key page.key ≡ b → (b || has page.key xs) ≡ false →
        IsDistinct same_page (x ∷ (xs ++ page ∷ []))
    go ih true e f = absurd (let no' : ⊥ = cc in no')
    go ih false e f = IsDistinct-cons same_page x (xs ++ page ∷ []) (more_away x.key xs page (IsDistinct-head same_page x xs d) e) (ih f)

first_gone : (xs : List Page) → IsDistinct same_page xs → IsDistinct same_page (drop 1 xs)
first_gone [] d = d
first_gone (x ∷ xs) d = IsDistinct-tail same_page x xs d

none_behind : (k : Key) (xs : List Page) → has k xs ≡ false → has k (drop 1 xs) ≡ false
none_behind k [] h = h
none_behind k (x ∷ xs) h = go (same_key x.key k) h
  where
    go : (b : Bool) → (b || has k xs) ≡ false → has k xs ≡ false
    go true e = absurd (let no' : ⊥ = cc in no')
    go false e = e

saved_apart : (most : ℕ) (page : Page) (xs : List Page) → IsDistinct same_page xs → IsDistinct same_page (with_saved most page xs)
saved_apart most page xs d = go (nat_eq most 0) (has page.key xs) refl
  where
    room : has page.key xs ≡ false → (b : Bool) → IsDistinct same_page (cond b xs (drop 1 xs) ++ page ∷ [])
    room none true = more_apart xs page d none
    room none false = more_apart (drop 1 xs) page (first_gone xs d) (none_behind page.key xs none)

    go : (z c : Bool) → has page.key xs ≡ c → IsDistinct same_page (cond (z || c) xs (with_room most xs ++ page ∷ []))
    go true c e = d
    go false true e = d
    go false false e = room e (nat_lt (length xs) most)

-- ---- what happens to the pages

touch_apart : (k : Key) (p : Pages) → AreApart p → AreApart (touch k p)
touch_apart k p h = go (under k p.resident) refl
  where
    go : (o : Option Page) → under k p.resident ≡ o → AreApart (elim o [ None ↦ p | Some page ↦ record p { resident = page ∷ without k p.resident } ])
    go None e = h
    go (Some page) e = record {
      resident =
          IsDistinct-cons same_page page (without k p.resident)
          (subst (λ (j : Key). IsAway j (without k p.resident)) (sym (found_key k p.resident page e)) (away_without k p.resident))
          (without_apart k p.resident h.resident);
      saved = h.saved;
    }

pub evict_apart : (k : Key) (p : Pages) → AreApart p → AreApart (evict k p)
evict_apart k p h = go (under k p.resident)
  where
    go : (o : Option Page) →
        AreApart (elim o [ None ↦ p | Some page ↦ record p { resident = without k p.resident; saved = with_saved p.most_saved page p.saved; evicted = one_more p.evicted } ])
    go None = h
    go (Some page) = record { resident = without_apart k p.resident h.resident; saved = saved_apart p.most_saved page p.saved h.saved }

pub drop_apart : (k : Key) (p : Pages) → AreApart p → AreApart (drop_saved k p)
drop_apart k p h = record { resident = h.resident; saved = without_apart k p.saved h.saved }

roomy_apart : (p : Pages) → AreApart p → AreApart (make_room p)
roomy_apart p h = go (nat_lt (length p.resident) p.frames) (last p)
  where
    go : (b : Bool) (o : Option Page) → AreApart (cond b p (elim o [ None ↦ p | Some page ↦ evict page.key p ]))
    go true o = h
    go false None = h
    go false (Some page) = evict_apart page.key p h

put_apart : (page : Page) (p : Pages) → AreApart p → has page.key p.resident ≡ false → AreApart (put page p)
put_apart page p h none = record { resident = IsDistinct-cons same_page page p.resident (away page.key p.resident none) h.resident; saved = h.saved }

load_apart : (form : Page) (elsewhere : Bool) (p : Paging) → AreApart p.pages → has form.key p.pages.resident ≡ false → AreApart (load form elsewhere p).pages
load_apart form elsewhere p h none = go (under form.key (make_room p.pages).saved) refl
  where
    absent : has form.key (make_room p.pages).resident ≡ false
    absent = absent_roomy form.key p.pages none

    go : (o : Option Page) → under form.key (make_room p.pages).saved ≡ o →
        let q : Paging = elim o [
          | Some page ↦ record p { pages = put page (make_room p.pages); loaded = one_more p.loaded; restored = one_more p.restored }
          | None ↦ record p { pages = put form (make_room p.pages); loaded = one_more p.loaded; rescheduled = if elsewhere then one_more p.rescheduled else p.rescheduled }
        ] in AreApart q.pages
    go None e = put_apart form (make_room p.pages) (roomy_apart p.pages h) absent
    go (Some page) e =
        put_apart page (make_room p.pages) (roomy_apart p.pages h)
        (ap (λ (j : Key). has j (make_room p.pages).resident) (found_key form.key (make_room p.pages).saved page e) ∙ absent)

pub need_apart : (form : Page) (elsewhere : Bool) (p : Paging) → AreApart p.pages → AreApart (need form elsewhere p).pages
need_apart form elsewhere p h = go (has form.key p.pages.resident) refl
  where
    go : (b : Bool) → has form.key p.pages.resident ≡ b → let q : Paging = cond b (record p { pages = touch form.key p.pages }) (load form elsewhere p) in AreApart q.pages
    go true e = touch_apart form.key p.pages h
    go false e = load_apart form elsewhere p h e
