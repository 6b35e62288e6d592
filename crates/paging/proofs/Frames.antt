-- The number of frames stays, whatever page is touched or evicted.
use Rattle.std.proofs.Common.{◌≡◌, true, false, cond, ◌∷◌, refl, Option, Some, None}
use Rattle.std.specs.Prelude.{nat_lt, length}
use Rattle.tnk_base.specs.declared.Key.{Key}
use Rattle.paging.specs.Pages.{Page, Pages, under, without, with_saved, touch, evict, last, make_room, one_more}

pub touch_keeps : (k : Key) (p : Pages) → (touch k p).frames ≡ p.frames
touch_keeps k p = go (under k p.resident)
  where
    go : (o : Option Page) → let q : Pages = elim o [ None ↦ p | Some page ↦ record p { resident = page ∷ without k p.resident } ] in q.frames ≡ p.frames
    go None = refl
    go (Some page) = refl

pub evict_keeps : (k : Key) (p : Pages) → (evict k p).frames ≡ p.frames
evict_keeps k p = go (under k p.resident)
  where
    go : (o : Option Page) →
        let q : Pages = elim o [ None ↦ p | Some page ↦ record p { resident = without k p.resident; saved = with_saved p.most_saved page p.saved; evicted = one_more p.evicted } ] in q.frames ≡ p.frames
    go None = refl
    go (Some page) = refl

pub room_keeps : (p : Pages) → (make_room p).frames ≡ p.frames
room_keeps p =
    elim (nat_lt (length p.resident) p.frames) as (λ b. let q : Pages = cond b p (elim (last p) [ None ↦ p | Some page ↦ evict page.key p ]) in q.frames ≡ p.frames) [
      | true ↦ refl
      | false ↦ elim (last p) as (λ o. let q : Pages = elim o [ None ↦ p | Some page ↦ evict page.key p ] in q.frames ≡ p.frames) [ None ↦ refl | Some page ↦ evict_keeps page.key p ]
    ]
