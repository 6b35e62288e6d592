-- How often pages came and went.
use Rattle.std.proofs.Common.{◌≡◌, ℕ, suc, ◌+◌, ◌-◌, ◌^◌, ◌≤◌, Bool, true, false, cond, List, [], ◌∷◌, length, refl, sym, ap, subst, ◌∙◌, Option, Some, None, arith}
use Rattle.std.specs.Prelude.{min, nat_lt, not, IsFalse, if◌then◌else◌}
use Rattle.std.specs.List.{IsDistinct, AllByRecursion}
use Rattle.std.proofs.lemmas.Map.Keys.{IsDistinct-head, IsDistinct-tail}
use Rattle.tnk_base.specs.declared.Key.{Key}
use Rattle.paging.specs.Pages.{Page, Pages, Paging, same_key, under, has, without, with_saved, one_more, evict, last, make_room, put, touch, load, need}
use Rattle.paging.specs.Limits.{same_page, AreApart}
use Rattle.paging.proofs.Keys.{same_key_is, same_key_flips, without_none}
use Rattle.paging.proofs.Apart.{evict_apart, drop_apart, need_apart}
use Rattle.context_system.specs.System.{page_in_form, runs_elsewhere}
use Rattle.context_system.specs.Pages.{CountsAgree, PagesAreCounted, NoneRescheduledAtHome}
use Rattle.context_system.proofs.Setups.{at_place}
use Rattle.context_system.proofs.Played.{kept}

-- ---- leaving out a key that stands once

not_there : (k : Key) (xs : List Page) → AllByRecursion (λ y. same_key k y.key ≡ false) xs → has k xs ≡ false
not_there k [] h = refl
not_there k (x ∷ xs) h = rw (same_key_flips x.key k ∙ h.0) (not_there k xs h.1)

one_fewer : (k : Key) (xs : List Page) (page : Page) → IsDistinct same_page xs → under k xs ≡ Some page → length xs ≡ suc (length (without k xs))
one_fewer k [] page h e = absurd (let none : ⊥ = cc in none)
one_fewer k (x ∷ xs) page h e = go (one_fewer k xs page (IsDistinct-tail same_page x xs h)) (same_key x.key k) refl e
  where
    go : (under k xs ≡ Some page → length xs ≡ suc (length (without k xs))) → (b : Bool) → same_key x.key k ≡ b → cond b (Some x) (under k xs) ≡ Some page →
        suc (length xs) ≡ suc (length (cond (not b) (x ∷ without k xs) (without k xs)))
    go ih true f e =
        let same : x.key ≡ k = same_key_is x.key k f in
        let none : has k xs ≡ false = subst (λ (j : Key). has j xs ≡ false) same (not_there x.key xs (IsDistinct-head same_page x xs h)) in
        ap (λ (l : List Page). suc (length l)) (sym (without_none k xs none))
    go ih false f e = ap suc (ih e)

none : IsDistinct same_page []
unfolding IsDistinct
none = tt

-- ---- how many were loaded

-- so many pages were loaded: those that are resident and those that were evicted
abbrev HaveCome : ℕ → Pages → Type 0
HaveCome n p = n ≡ min (length p.resident + p.evicted) (2 ^ 64 - 1)

-- one that was there goes
one_gone : (last n length left gone : ℕ) → n ≡ min (length + gone) last → length ≡ suc left → n ≡ min (left + min (gone + 1) last) last
one_gone last n length left gone h e = omega arith

-- one more comes
one_came : (last n length gone : ℕ) → n ≡ min (length + gone) last → min (n + 1) last ≡ min (suc length + gone) last
one_came last n length gone h = omega arith

touch_come : (n : ℕ) (k : Key) (p : Pages) → AreApart p → HaveCome n p → HaveCome n (touch k p)
touch_come n k p h come = go (under k p.resident) refl
  where
    go : (o : Option Page) → under k p.resident ≡ o → HaveCome n (elim o [ None ↦ p | Some page ↦ record p { resident = page ∷ without k p.resident } ])
    go None e = come
    go (Some page) e = come ∙ ap (λ (l : ℕ). min (l + p.evicted) (2 ^ 64 - 1)) (one_fewer k p.resident page h.resident e)

evict_come : (n : ℕ) (k : Key) (p : Pages) → AreApart p → HaveCome n p → HaveCome n (evict k p)
evict_come n k p h come = go (under k p.resident) refl
  where
    go : (o : Option Page) → under k p.resident ≡ o →
        HaveCome n (elim o [ None ↦ p | Some page ↦ record p { resident = without k p.resident; saved = with_saved p.most_saved page p.saved; evicted = one_more p.evicted } ])
    go None e = come
    go (Some page) e = one_gone (2 ^ 64 - 1) n (length p.resident) (length (without k p.resident)) p.evicted come (one_fewer k p.resident page h.resident e)

room_come : (n : ℕ) (p : Pages) → AreApart p → HaveCome n p → HaveCome n (make_room p)
room_come n p h come = go (nat_lt (length p.resident) p.frames) (last p)
  where
    go : (b : Bool) (o : Option Page) → HaveCome n (cond b p (elim o [ None ↦ p | Some page ↦ evict page.key p ]))
    go true o = come
    go false None = come
    go false (Some page) = evict_come n page.key p h come

put_come : (n : ℕ) (page : Page) (p : Pages) → HaveCome n p → HaveCome (one_more n) (put page p)
put_come n page p come = one_came (2 ^ 64 - 1) n (length p.resident) p.evicted come

-- ---- how many of them were restored or rescheduled

one_rescheduled : (last n a b : ℕ) → min (a + b) last ≤ n → min (min (a + 1) last + b) last ≤ min (n + 1) last
one_rescheduled last n a b h = omega arith

one_restored : (last n a b : ℕ) → min (a + b) last ≤ n → min (a + min (b + 1) last) last ≤ min (n + 1) last
one_restored last n a b h = omega arith

neither : (last n a b : ℕ) → min (a + b) last ≤ n → min (a + b) last ≤ min (n + 1) last
neither last n a b h = omega arith

load_counts : (form : Page) (elsewhere : Bool) (p : Paging) → AreApart p.pages → CountsAgree p → CountsAgree (load form elsewhere p)
load_counts form elsewhere p h counts = go (under form.key (make_room p.pages).saved)
  where
    come : HaveCome p.loaded (make_room p.pages)
    come = room_come p.loaded p.pages h counts.loaded

    reformed : (b : Bool) → min (cond b (one_more p.rescheduled) p.rescheduled + p.restored) (2 ^ 64 - 1) ≤ one_more p.loaded
    reformed true = one_rescheduled (2 ^ 64 - 1) p.loaded p.rescheduled p.restored counts.reformed
    reformed false = neither (2 ^ 64 - 1) p.loaded p.rescheduled p.restored counts.reformed

    go : (o : Option Page) →
        let q : Paging = elim o [
          | Some page ↦ record p { pages = put page (make_room p.pages); loaded = one_more p.loaded; restored = one_more p.restored }
          | None ↦ record p { pages = put form (make_room p.pages); loaded = one_more p.loaded; rescheduled = if elsewhere then one_more p.rescheduled else p.rescheduled }
        ] in CountsAgree q
    go None = record { loaded = put_come p.loaded form (make_room p.pages) come; reformed = reformed elsewhere }
    go (Some page) = record {
      loaded = put_come p.loaded page (make_room p.pages) come;
      reformed = one_restored (2 ^ 64 - 1) p.loaded p.rescheduled p.restored counts.reformed;
    }

need_counts : (form : Page) (elsewhere : Bool) (p : Paging) → AreApart p.pages → CountsAgree p → CountsAgree (need form elsewhere p)
need_counts form elsewhere p h counts = go (has form.key p.pages.resident)
  where
    go : (b : Bool) → let q : Paging = cond b (record p { pages = touch form.key p.pages }) (load form elsewhere p) in CountsAgree q
    go true = record { loaded = touch_come p.loaded form.key p.pages h counts.loaded; reformed = counts.reformed }
    go false = load_counts form elsewhere p h counts

pub pages_are_counted : PagesAreCounted
pages_are_counted setups frames saved events =
    kept setups (λ p. AreApart p.pages × CountsAgree p)
    (λ s k p there h. (need_apart (page_in_form s k) (runs_elsewhere s) p h.0, need_counts (page_in_form s k) (runs_elsewhere s) p h.0 h.1))
    (λ k p h. (evict_apart k p.pages h.0, record { loaded = evict_come p.loaded k p.pages h.0 h.1.loaded; reformed = h.1.reformed }))
    (λ k p h. (drop_apart k p.pages h.0, record { loaded = h.1.loaded; reformed = h.1.reformed }))
    frames saved events
    (record { resident = none; saved = none }, record { loaded = refl; reformed = omega arith })

-- ---- at home

home_need : (form : Page) (p : Paging) → p.rescheduled ≡ 0 → (need form false p).rescheduled ≡ 0
home_need form p h = go (has form.key p.pages.resident) (under form.key (make_room p.pages).saved)
  where
    go : (b : Bool) (o : Option Page) →
        let q : Paging = elim o [
          | Some page ↦ record p { pages = put page (make_room p.pages); loaded = one_more p.loaded; restored = one_more p.restored }
          | None ↦ record p { pages = put form (make_room p.pages); loaded = one_more p.loaded; rescheduled = p.rescheduled }
        ] in
        let r : Paging = cond b (record p { pages = touch form.key p.pages }) q in
        r.rescheduled ≡ 0
    go true o = h
    go false None = h
    go false (Some page) = h

pub none_rescheduled_at_home : NoneRescheduledAtHome
none_rescheduled_at_home setups frames saved events home =
    kept setups (λ p. p.rescheduled ≡ 0)
    (λ s k p there h. subst (λ (b : Bool). (need (page_in_form s k) b p).rescheduled ≡ 0) (sym (at_place (λ s. IsFalse (runs_elsewhere s)) setups k.program s home there))
    (home_need (page_in_form s k) p h))
    (λ k p h. h) (λ k p h. h) frames saved events refl
