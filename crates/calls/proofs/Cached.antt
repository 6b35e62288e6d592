-- Pages under keys that are there, and caches that a key doesn't touch.
use Rattle.std.proofs.Common.{◌≡◌, ◌<◌, ℕ, Bool, true, false, ◌||◌, cond, List, [], ◌∷◌, length, Option, Some, None, is_some, find, refl, sym, ap, subst₂, ◌∙◌}
use Rattle.std.proofs.lemmas.List.{length-map}
use Rattle.std.specs.List.{list_any}
use Rattle.tnk_base.specs.declared.Key.{Key}
use Rattle.paging.specs.Pages.{Page, Pages, under, has, same_key, touch}
use Rattle.page_cache.specs.Cache.{Cache, pages_of}

some_where : {X : Type 0} (p : X → Bool) (xs : List X) → is_some (find p xs) ≡ list_any p xs
some_where p [] = refl
some_where p (x ∷ xs) = go (p x) (some_where p xs)
  where
    go : (b : Bool) → is_some (find p xs) ≡ list_any p xs → is_some (cond b (Some x) (find p xs)) ≡ (b || list_any p xs)
    go true h = refl
    go false h = h

-- where a key is, there is a page under it
pub there : (k : Key) (pages : List Page) → is_some (under k pages) ≡ has k pages
there k pages = some_where (λ p. same_key p.key k) pages

none_there : {X : Type 0} (o : Option X) → is_some o ≡ false → o ≡ None
none_there None e = refl
none_there (Some x) e = absurd (let f : ⊥ = cc in f)

-- to touch a page that isn't resident changes nothing
pub untouched : (k : Key) (p : Pages) → has k p.resident ≡ false → touch k p ≡ p
untouched k p h = rw (touch, none_there (under k p.resident) (there k p.resident ∙ h)) refl

-- caches of the same pages have the same room
pub as_roomy : (old new : Cache) → pages_of new ≡ pages_of old → length old.held < old.frames → length new.held < new.frames
as_roomy old new e h =
    let longer = sym (length-map new.held (λ h. h.page)) ∙ ap (λ p. length p.resident) e ∙ length-map old.held (λ h. h.page) in
    subst₂ (λ (a b : ℕ). a < b) (sym longer) (sym (ap (λ p. p.frames) e)) h
