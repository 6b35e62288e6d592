-- What holds of each page, resident or saved, is kept by all that happens to them.
use Rattle.std.proofs.Common.{◌≡◌, ℕ, Bool, true, false, cond, List, [], ◌∷◌, ◌++◌, drop, length, refl, subst, Option, Some, None}
use Rattle.std.specs.Prelude.{not, All, ◌||◌, nat_eq, nat_lt, if◌then◌else◌}
use Rattle.std.proofs.lemmas.List.Elements.{All-cons, All-head, All-tail, All-push, All-filter, All-drop}
use Rattle.tnk_base.specs.declared.Key.{Key}
use Rattle.paging.specs.Pages.{Page, Pages, Paging, same_key, under, has, without, with_room, touch, with_saved, evict, last, make_room, put, load, need, one_more}
use Rattle.paging.proofs.Keys.{same_key_is}

-- the page under a key has that key
pub found_key : (k : Key) (xs : List Page) (page : Page) → under k xs ≡ Some page → page.key ≡ k
found_key k [] page h = absurd (let no : ⊥ = cc in no)
found_key k (x ∷ xs) page h = go (found_key k xs page) (same_key x.key k) refl h
  where
    go : (under k xs ≡ Some page → page.key ≡ k) → (b : Bool) → same_key x.key k ≡ b → cond b (Some x) (under k xs) ≡ Some page → page.key ≡ k
    go ih true e h = let same : x ≡ page = cc in subst (λ (p : Page). p.key ≡ k) same (same_key_is x.key k e)
    go ih false e h = ih h

module _ (Good : Page → Type 0) where
  pub record AreGood (p : Pages) : Type 0 where
    pub resident : All Good p.resident
    pub saved : All Good p.saved

  pub found : (k : Key) (xs : List Page) (page : Page) → All Good xs → under k xs ≡ Some page → Good page
  found k [] page all h = absurd (let no : ⊥ = cc in no)
  found k (x ∷ xs) page all h = go (found k xs page (All-tail Good x xs all)) (same_key x.key k) h
    where
      go : (under k xs ≡ Some page → Good page) → (b : Bool) → cond b (Some x) (under k xs) ≡ Some page → Good page
      go ih true e = let same : x ≡ page = cc in subst Good same (All-head Good x xs all)
      go ih false e = ih e

  pub without_good : (k : Key) (xs : List Page) → All Good xs → All Good (without k xs)
  without_good k xs all = All-filter (λ (p : Page). not (same_key p.key k)) Good xs all

  pub touch_good : (k : Key) (p : Pages) → AreGood p → AreGood (touch k p)
  touch_good k p h = go (under k p.resident) refl
    where
      go : (o : Option Page) → under k p.resident ≡ o → AreGood (elim o [ None ↦ p | Some page ↦ record p { resident = page ∷ without k p.resident } ])
      go None e = h
      go (Some page) e = record {
        resident = All-cons Good page (without k p.resident) (found k p.resident page h.resident e) (without_good k p.resident h.resident);
        saved = h.saved;
      }

  with_room_good : (most : ℕ) (xs : List Page) → All Good xs → All Good (with_room most xs)
  with_room_good most xs all = elim (nat_lt (length xs) most) as (λ b. All Good (cond b xs (drop 1 xs))) [ true ↦ all | false ↦ All-drop Good 1 xs all ]

  with_saved_good : (most : ℕ) (page : Page) (xs : List Page) → Good page → All Good xs → All Good (with_saved most page xs)
  with_saved_good most page xs good all =
      elim (nat_eq most 0 || has page.key xs) as (λ b. All Good (cond b xs (with_room most xs ++ page ∷ [])))
      [ true ↦ all | false ↦ All-push Good (with_room most xs) page (with_room_good most xs all) good ]

  pub evict_good : (k : Key) (p : Pages) → AreGood p → AreGood (evict k p)
  evict_good k p h = go (under k p.resident) refl
    where
      go : (o : Option Page) → under k p.resident ≡ o →
          AreGood (elim o [ None ↦ p | Some page ↦ record p { resident = without k p.resident; saved = with_saved p.most_saved page p.saved; evicted = one_more p.evicted } ])
      go None e = h
      go (Some page) e = record {
        resident = without_good k p.resident h.resident;
        saved = with_saved_good p.most_saved page p.saved (found k p.resident page h.resident e) h.saved;
      }

  pub make_room_good : (p : Pages) → AreGood p → AreGood (make_room p)
  make_room_good p h =
      elim (nat_lt (length p.resident) p.frames) as (λ b. AreGood (cond b p (elim (last p) [ None ↦ p | Some page ↦ evict page.key p ]))) [
        | true ↦ h
        | false ↦ elim (last p) as (λ o. AreGood (elim o [ None ↦ p | Some page ↦ evict page.key p ])) [ None ↦ h | Some page ↦ evict_good page.key p h ]
      ]

  pub put_good : (page : Page) (p : Pages) → Good page → AreGood p → AreGood (put page p)
  put_good page p good h = record { resident = All-cons Good page p.resident good h.resident; saved = h.saved }

  load_good : (form : Page) (elsewhere : Bool) (p : Paging) → Good form → AreGood p.pages → AreGood (load form elsewhere p).pages
  load_good form elsewhere p good h = go (under form.key (make_room p.pages).saved) refl
    where
      go : (o : Option Page) → under form.key (make_room p.pages).saved ≡ o →
          let q : Paging = elim o [
            | Some page ↦ record p { pages = put page (make_room p.pages); loaded = one_more p.loaded; restored = one_more p.restored }
            | None ↦ record p { pages = put form (make_room p.pages); loaded = one_more p.loaded; rescheduled = if elsewhere then one_more p.rescheduled else p.rescheduled }
          ] in AreGood q.pages
      go None e = put_good form (make_room p.pages) good (make_room_good p.pages h)
      go (Some page) e =
          put_good page (make_room p.pages) (found form.key (make_room p.pages).saved page (make_room_good p.pages h).saved e) (make_room_good p.pages h)

  pub need_good : (form : Page) (elsewhere : Bool) (p : Paging) → Good form → AreGood p.pages → AreGood (need form elsewhere p).pages
  need_good form elsewhere p good h =
      elim (has form.key p.pages.resident) as (λ b. let q : Paging = cond b (record p { pages = touch form.key p.pages }) (load form elsewhere p) in AreGood q.pages) [
        | true ↦ touch_good form.key p.pages h
        | false ↦ load_good form elsewhere p good h
      ]
