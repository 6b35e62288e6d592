-- The two lists stay within their greatest lengths.
use Rattle.std.proofs.Common.{◌≡◌, ℕ, zero, suc, ◌+◌, ◌-◌, ◌<◌, ◌≤◌, Bool, true, false, cond, List, [], ◌∷◌, ◌++◌, drop, length, refl, sym, ap, subst, Option, Some, None, arith}
use Rattle.std.specs.Prelude.{not, ◌||◌, nat_eq, nat_lt, slice_get, if◌then◌else◌}
use Rattle.std.proofs.lemmas.Bool.{ltb-true, ltb-false, eqb-false}
use Rattle.std.proofs.lemmas.List.{length_push, length-drop}
use Rattle.tnk_base.specs.declared.Key.{Key}
use Rattle.paging.specs.Pages.{Page, Pages, Paging, same_key, under, has, without, with_room, touch, with_saved, evict, last, make_room, put, drop_saved, load, need, one_more}
use Rattle.paging.specs.Limits.{AreWithin}
use Rattle.paging.proofs.Keys.{same_key_self}
use Rattle.paging.proofs.Frames.{evict_keeps}

-- leaving a key out makes no list longer, and one that has it shorter
not_longer : (k : Key) (xs : List Page) → length (without k xs) ≤ length xs
not_longer k [] = omega arith
not_longer k (x ∷ xs) = go (not_longer k xs) (not (same_key x.key k))
  where
    go : length (without k xs) ≤ length xs → (b : Bool) → length (cond b (x ∷ without k xs) (without k xs)) ≤ suc (length xs)
    go ih true = omega arith
    go ih false = omega arith

shorter : (k : Key) (xs : List Page) (page : Page) → under k xs ≡ Some page → length (without k xs) < length xs
shorter k [] page h = absurd (let no' : ⊥ = cc in no')
shorter k (x ∷ xs) page h = go (shorter k xs page) (not_longer k xs) (same_key x.key k) h
  where
    go : (under k xs ≡ Some page → length (without k xs) < length xs) → length (without k xs) ≤ length xs → (b : Bool) → cond b (Some x) (under k xs) ≡ Some page →
        length (cond (not b) (x ∷ without k xs) (without k xs)) < suc (length xs)
    go ih le true e = omega arith
    go ih le false e = let less : length (without k xs) < length xs = ih e in omega arith

-- a page of the list is found under its key
found_there : (xs : List Page) (i : ℕ) (page : Page) → slice_get xs i ≡ Some page → (q : Page) × (under page.key xs ≡ Some q)
found_there [] i page h = absurd (let no' : ⊥ = cc in no')
found_there (x ∷ xs) zero page h =
    let same : x ≡ page = cc in
    let here : same_key x.key page.key ≡ true = subst (λ (p : Page). same_key x.key p.key ≡ true) same (same_key_self x.key) in
    (x, ap (λ (b : Bool). cond b (Some x) (under page.key xs)) here)
found_there (x ∷ xs) (suc i) page h = go (found_there xs i page h) (same_key x.key page.key)
  where
    go : (q : Page) × (under page.key xs ≡ Some q) → (b : Bool) → (q : Page) × (cond b (Some x) (under page.key xs) ≡ Some q)
    go ih true = (x, refl)
    go ih false = ih

some_there : (xs : List Page) (i : ℕ) → i < length xs → slice_get xs i ≡ None → ⊥
some_there [] i lt h = let no' : ⊥ = omega arith in no'
some_there (x ∷ xs) zero lt h = let no' : ⊥ = cc in no'
some_there (x ∷ xs) (suc i) lt h = some_there xs i (omega arith) h

saved_within : (most : ℕ) (page : Page) (xs : List Page) → length xs ≤ most → length (with_saved most page xs) ≤ most
saved_within most page xs le = go (nat_eq most 0) refl (has page.key xs)
  where
    room : (b : Bool) → nat_lt (length xs) most ≡ b → 0 < most → length (cond b xs (drop 1 xs) ++ page ∷ []) ≤ most
    room true e some = let lt : length xs < most = ltb-true (length xs) most e in let l : length (xs ++ page ∷ []) ≡ length xs + 1 = length_push xs page in omega arith
    room false e some =
        let l : length (drop 1 xs ++ page ∷ []) ≡ length (drop 1 xs) + 1 = length_push (drop 1 xs) page in
        let d : length (drop 1 xs) ≡ length xs - 1 = length-drop 1 xs in
        omega arith

    go : (b : Bool) → nat_eq most 0 ≡ b → (c : Bool) → length (cond (b || c) xs (with_room most xs ++ page ∷ [])) ≤ most
    go true e c = le
    go false e true = le
    go false e false = room (nat_lt (length xs) most) refl (let ne : most ≡ 0 → ⊥ = eqb-false most 0 e in positive most ne)
      where
        positive : (n : ℕ) → (n ≡ 0 → ⊥) → 0 < n
        positive n ne = omega (arith, ne)

touch_within : (k : Key) (p : Pages) → AreWithin p → AreWithin (touch k p)
touch_within k p h = go (under k p.resident) refl
  where
    go : (o : Option Page) → under k p.resident ≡ o → AreWithin (elim o [ None ↦ p | Some page ↦ record p { resident = page ∷ without k p.resident } ])
    go None e = h
    go (Some page) e = record {
      some = h.some;
      resident = let less : length (without k p.resident) < length p.resident = shorter k p.resident page e in let all : length p.resident ≤ p.frames = h.resident in omega arith;
      saved = h.saved;
    }

pub evict_within : (k : Key) (p : Pages) → AreWithin p → AreWithin (evict k p)
evict_within k p h = go (under k p.resident)
  where
    go : (o : Option Page) →
        AreWithin (elim o [ None ↦ p | Some page ↦ record p { resident = without k p.resident; saved = with_saved p.most_saved page p.saved; evicted = one_more p.evicted } ])
    go None = h
    go (Some page) = record {
      some = h.some;
      resident = let less : length (without k p.resident) ≤ length p.resident = not_longer k p.resident in let all : length p.resident ≤ p.frames = h.resident in omega arith;
      saved = saved_within p.most_saved page p.saved h.saved;
    }

pub drop_within : (k : Key) (p : Pages) → AreWithin p → AreWithin (drop_saved k p)
drop_within k p h = record {
  some = h.some;
  resident = h.resident;
  saved = let less : length (without k p.saved) ≤ length p.saved = not_longer k p.saved in let all : length p.saved ≤ p.most_saved = h.saved in omega arith;
}

-- the resident pages behind an eviction of one of them
gone : (k : Key) (p : Pages) (page : Page) → under k p.resident ≡ Some page → length (evict k p).resident < length p.resident
gone k p page at =
    subst (λ (o : Option Page). let q : Pages = elim o [ None ↦ p | Some page ↦ record p { resident = without k p.resident; saved = with_saved p.most_saved page p.saved; evicted = one_more p.evicted } ] in length q.resident < length p.resident)
    (sym at) (shorter k p.resident page at)

room_within : (p : Pages) → AreWithin p → AreWithin (make_room p) × (length (make_room p).resident < (make_room p).frames)
room_within p h = go (nat_lt (length p.resident) p.frames) refl (last p) refl
  where
    go : (b : Bool) → nat_lt (length p.resident) p.frames ≡ b → (o : Option Page) → last p ≡ o →
        let q : Pages = cond b p (elim o [ None ↦ p | Some page ↦ evict page.key p ]) in AreWithin q × (length q.resident < q.frames)
    go true e o f = (h, ltb-true (length p.resident) p.frames e)
    go false e None f =
        let full : p.frames ≤ length p.resident = ltb-false (length p.resident) p.frames e in
        let some : 1 ≤ p.frames = h.some in
        absurd (some_there p.resident (length p.resident - 1) (omega arith) f)
    go false e (Some page) f =
        let there = found_there p.resident (length p.resident - 1) page f in
        let less : length (evict page.key p).resident < length p.resident = gone page.key p there.0 there.1 in
        let all : length p.resident ≤ p.frames = h.resident in
        let same : (evict page.key p).frames ≡ p.frames = evict_keeps page.key p in
        (evict_within page.key p h, omega arith)

put_within : (page : Page) (p : Pages) → AreWithin p → length p.resident < p.frames → AreWithin (put page p)
put_within page p h room = record { some = h.some; resident = omega arith; saved = h.saved }

load_within : (form : Page) (elsewhere : Bool) (p : Paging) → AreWithin p.pages → AreWithin (load form elsewhere p).pages
load_within form elsewhere p h = go (under form.key (make_room p.pages).saved)
  where
    go : (o : Option Page) →
        let q : Paging = elim o [
          | Some page ↦ record p { pages = put page (make_room p.pages); loaded = one_more p.loaded; restored = one_more p.restored }
          | None ↦ record p { pages = put form (make_room p.pages); loaded = one_more p.loaded; rescheduled = if elsewhere then one_more p.rescheduled else p.rescheduled }
        ] in AreWithin q.pages
    go None = put_within form (make_room p.pages) (room_within p.pages h).0 (room_within p.pages h).1
    go (Some page) = put_within page (make_room p.pages) (room_within p.pages h).0 (room_within p.pages h).1

pub need_within : (form : Page) (elsewhere : Bool) (p : Paging) → AreWithin p.pages → AreWithin (need form elsewhere p).pages
need_within form elsewhere p h =
    elim (has form.key p.pages.resident) as (λ b. let q : Paging = cond b (record p { pages = touch form.key p.pages }) (load form elsewhere p) in AreWithin q.pages) [
      | true ↦ touch_within form.key p.pages h
      | false ↦ load_within form elsewhere p h
    ]
