-- What the lists of a cache become.
use Rattle.std.proofs.Common.{◌≡◌, ℕ, ◌<◌, ◌≤◌, Bool, true, false, cond, List, [], ◌∷◌, ◌++◌, length, reverse, drop, refl, sym, ap, ◌∙◌, Option, Some, None, arith}
use Rattle.std.specs.List.{remove, list_any}
use Rattle.std.specs.Prelude.{nat_eq, nat_lt, slice_get, ◌||◌}
use Rattle.std.proofs.lemmas.Bool.{eqb-true, eq-eqb, le-ltb, lt-ltb}
use Rattle.std.proofs.lemmas.List.{length-map, length-reverse}
use Rattle.tnk_base.specs.declared.Key.{Key}
use Rattle.paging.specs.Pages.{Page, Pages, same_key, under, has, without, with_room, with_saved, touch, evict, last, make_room, drop_saved, one_more}
use Rattle.paging.proofs.Keys.{under_none, without_none}
use Rattle.page_cache.specs.Cache.{Held, pages_of}
use Rattle.page_cache.specs.Frames.{Filled, moved_to_end}
use Rattle.page_cache.specs.Kept.{pages_in, AreCached, cache_of}
use Rattle.page_cache.proofs.Keyed.{has_is, has_reverse, has_at, under_reverse, without_at, without_reverse, reverse_moved, last_reverse}

pages_as : (a a' b b' : List Page) (f m e : ℕ) → a ≡ a' → b ≡ b' →
    ◌≡◌ {A = Pages} (record { resident = a; saved = b; frames = f; most_saved = m; evicted = e }) (record { resident = a'; saved = b'; frames = f; most_saved = m; evicted = e })
pages_as a a' b b' f m e p q = cc

touch_by : (k : Key) (p : Pages) (o : Option Page) → under k p.resident ≡ o →
    touch k p ≡ elim o [ None ↦ p | Some page ↦ record p { resident = page ∷ without k p.resident } ]
touch_by k p o e = ap (λ (o : Option Page). let q : Pages = elim o [ None ↦ p | Some page ↦ record p { resident = page ∷ without k p.resident } ] in q) e

evict_by : (k : Key) (p : Pages) (o : Option Page) → under k p.resident ≡ o →
    evict k p ≡ elim o [ None ↦ p | Some page ↦ record p { resident = without k p.resident; saved = with_saved p.most_saved page p.saved; evicted = one_more p.evicted } ]
evict_by k p o e = ap (λ (o : Option Page). let q : Pages = elim o [ None ↦ p | Some page ↦ record p { resident = without k p.resident; saved = with_saved p.most_saved page p.saved; evicted = one_more p.evicted } ] in q) e

-- a key that isn't resident
pub absent : (k : Key) (r s : Filled) (e : ℕ) → list_any (λ h. same_key h.page.key k) r.held ≡ false → has k (pages_of (cache_of r s e)).resident ≡ false
absent k r s e none = has_reverse k r.held ∙ none

pub not_touched : (k : Key) (r s : Filled) (e : ℕ) → list_any (λ h. same_key h.page.key k) r.held ≡ false → pages_of (cache_of r s e) ≡ touch k (pages_of (cache_of r s e))
not_touched k r s e none = sym (touch_by k (pages_of (cache_of r s e)) None (under_none k (pages_in (reverse r.held)) (absent k r s e none)))

pub not_evicted : (k : Key) (r s : Filled) (e : ℕ) → list_any (λ h. same_key h.page.key k) r.held ≡ false → pages_of (cache_of r s e) ≡ evict k (pages_of (cache_of r s e))
not_evicted k r s e none = sym (evict_by k (pages_of (cache_of r s e)) None (under_none k (pages_in (reverse r.held)) (absent k r s e none)))

-- a key that is
pub present : (k : Key) (r s : Filled) (e i : ℕ) (h : Held) → slice_get r.held i ≡ Some h → same_key h.page.key k ≡ true → has k (pages_of (cache_of r s e)).resident ≡ true
present k r s e i h at own = has_reverse k r.held ∙ has_at k r.held i h at own

pub is_touched : (k : Key) (r s : Filled) (e i : ℕ) (h : Held) → AreCached r s → slice_get r.held i ≡ Some h → same_key h.page.key k ≡ true →
    pages_of (cache_of (record r { held = moved_to_end i r.held }) s e) ≡ touch k (pages_of (cache_of r s e))
is_touched k r s e i h kept at own =
    pages_as (pages_in (reverse (moved_to_end i r.held))) (h.page ∷ without k (pages_in (reverse r.held))) (pages_in s.held) (pages_in s.held) r.size s.size e
    (ap pages_in (reverse_moved r.held i h at) ∙ ap (λ (l : List Page). h.page ∷ l) (sym (without_reverse k r.held i h kept.keys at own))) refl
    ∙ sym (touch_by k (pages_of (cache_of r s e)) (Some h.page) (under_reverse k r.held i h kept.keys at own))

pub is_evicted : (k : Key) (r s s' : Filled) (e i : ℕ) (h : Held) → AreCached r s → slice_get r.held i ≡ Some h → same_key h.page.key k ≡ true →
    pages_in s'.held ≡ with_saved s.size h.page (pages_in s.held) → s'.size ≡ s.size →
    pages_of (cache_of (record r { held = remove r.held i }) s' (one_more e)) ≡ evict k (pages_of (cache_of r s e))
is_evicted k r s s' e i h kept at own saved size =
    ap (λ (n : ℕ). let q : Pages = record { resident = pages_in (reverse (remove r.held i)); saved = pages_in s'.held; frames = r.size; most_saved = n; evicted = one_more e } in q) size
    ∙ pages_as (pages_in (reverse (remove r.held i))) (without k (pages_in (reverse r.held))) (pages_in s'.held) (with_saved s.size h.page (pages_in s.held)) r.size s.size (one_more e)
    (sym (without_reverse k r.held i h kept.keys at own)) saved
    ∙ sym (evict_by k (pages_of (cache_of r s e)) (Some h.page) (under_reverse k r.held i h kept.keys at own))

-- ---- room

held_count : (r : Filled) → length (pages_in (reverse r.held)) ≡ length r.held
held_count r = length-map (reverse r.held) (λ (h : Held). h.page) ∙ length-reverse r.held

pub has_room : (r s : Filled) (e : ℕ) → AreCached r s → nat_eq (length r.held) r.size ≡ false → pages_of (cache_of r s e) ≡ make_room (pages_of (cache_of r s e))
has_room r s e kept free =
    let within : length r.held ≤ r.size = kept.room in
    let other : length r.held ≡ r.size → ⊥ = λ same. let no' : ⊥ = let yes : nat_eq (length r.held) r.size ≡ true = eq-eqb (length r.held) r.size same in cc in no' in
    let less : length r.held < r.size = below (length r.held) r.size within other in
    let count : length (pages_in (reverse r.held)) ≡ length r.held = held_count r in
    let yes : nat_lt (length (pages_in (reverse r.held))) r.size ≡ true = lt-ltb (length (pages_in (reverse r.held))) r.size (omega arith) in
    sym (ap (λ (b : Bool). let q : Pages = cond b (pages_of (cache_of r s e)) (elim (last (pages_of (cache_of r s e))) [ None ↦ pages_of (cache_of r s e) | Some page ↦ evict page.key (pages_of (cache_of r s e)) ]) in q) yes)
  where
    below : (a b : ℕ) → a ≤ b → (a ≡ b → ⊥) → a < b
    below a b le ne = omega (arith, ne)

pub room_made : (r s : Filled) (e : ℕ) (h : Held) → AreCached r s → nat_eq (length r.held) r.size ≡ true → slice_get r.held 0 ≡ Some h →
    evict h.page.key (pages_of (cache_of r s e)) ≡ make_room (pages_of (cache_of r s e))
room_made r s e h kept full at =
    let count : length (pages_in (reverse r.held)) ≡ length r.held = held_count r in
    let all : length r.held ≡ r.size = eqb-true (length r.held) r.size full in
    let no' : nat_lt (length (pages_in (reverse r.held))) r.size ≡ false = le-ltb (length (pages_in (reverse r.held))) r.size (omega arith) in
    let p : Pages = pages_of (cache_of r s e) in
    sym (ap (λ (o : Option Page). let q : Pages = elim o [ None ↦ pages_of (cache_of r s e) | Some page ↦ evict page.key (pages_of (cache_of r s e)) ] in q) (last_reverse r.held h at))
    ∙ sym (ap (λ (b : Bool). let q : Pages = cond b (pages_of (cache_of r s e)) (elim (last (pages_of (cache_of r s e))) [ None ↦ pages_of (cache_of r s e) | Some page ↦ evict page.key (pages_of (cache_of r s e)) ]) in q) no')

-- ---- saved pages

pub not_dropped : (k : Key) (r s : Filled) (e : ℕ) → list_any (λ h. same_key h.page.key k) s.held ≡ false → pages_of (cache_of r s e) ≡ drop_saved k (pages_of (cache_of r s e))
not_dropped k r s e none =
    pages_as (pages_in (reverse r.held)) (pages_in (reverse r.held)) (pages_in s.held) (without k (pages_in s.held)) r.size s.size e refl
    (sym (without_none k (pages_in s.held) (has_is k s.held ∙ none)))

pub is_dropped : (k : Key) (r s : Filled) (e i : ℕ) (h : Held) → AreCached r s → slice_get s.held i ≡ Some h → same_key h.page.key k ≡ true →
    pages_of (cache_of r (record s { held = remove s.held i }) e) ≡ drop_saved k (pages_of (cache_of r s e))
is_dropped k r s e i h kept at own =
    pages_as (pages_in (reverse r.held)) (pages_in (reverse r.held)) (pages_in (remove s.held i)) (without k (pages_in s.held)) r.size s.size e refl
    (sym (without_at k s.held i h kept.saved_keys at own))

-- a page that isn't saved again
pub saved_none : (page : Page) (xs : List Page) → xs ≡ with_saved 0 page xs
saved_none page xs = refl

pub saved_already : (most : ℕ) (page : Page) (xs : List Page) → has page.key xs ≡ true → xs ≡ with_saved most page xs
saved_already most page xs own = sym (ap (λ (b : Bool). cond b xs (with_room most xs ++ page ∷ [])) (go (nat_eq most 0)))
  where
    go : (b : Bool) → (b || has page.key xs) ≡ true
    go true = refl
    go false = own

pub saved_more : (most : ℕ) (page : Page) (xs : List Page) → nat_eq most 0 ≡ false → has page.key xs ≡ false → with_room most xs ++ page ∷ [] ≡ with_saved most page xs
saved_more most page xs some new =
    sym (ap (λ (b : Bool). cond b xs (with_room most xs ++ page ∷ [])) (ap (λ (b : Bool). b || has page.key xs) some ∙ new))

pub room_full : (most : ℕ) (xs : List Page) → length xs ≡ most → drop 1 xs ≡ with_room most xs
room_full most xs e = sym (ap (λ (b : Bool). cond b xs (drop 1 xs)) (le-ltb (length xs) most (omega arith)))

pub room_free : (most : ℕ) (xs : List Page) → length xs < most → xs ≡ with_room most xs
room_free most xs e = sym (ap (λ (b : Bool). cond b xs (drop 1 xs)) (lt-ltb (length xs) most e))
