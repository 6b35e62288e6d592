-- Lists of pages in which no key stands twice.
use Rattle.std.proofs.Common.{◌≡◌, ℕ, zero, suc, ◌+◌, ◌-◌, ◌<◌, Bool, true, false, cond, List, [], ◌∷◌, ◌++◌, length, take, drop, reverse, get_or, refl, sym, ap, subst, ◌∙◌, Some, arith}
use Rattle.std.specs.List.{remove, IsDistinct, AllByRecursion, list_any}
use Rattle.std.specs.List.Sorted.{IsPermutation}
use Rattle.std.specs.Prelude.{filter, not, ◌||◌, slice_get, All, Contains}
use Rattle.std.proofs.lemmas.List.{reverse-append, append-nil, map-append, length_push}
use Rattle.std.proofs.lemmas.List.Elements.{All-nil, All-cons, All-head, All-tail, All-append, All-take, All-drop, All-contains_itself, filter-append}
use Rattle.std.proofs.lemmas.List.Sorted.{IsPermutation-sym, IsPermutation-trans, IsPermutation-reverse, IsPermutation-remove, IsPermutation-to_front, All-permutation, Contains-permutation, list_any-IsPermutation, length_permutation}
use Rattle.std.proofs.lemmas.Map.Keys.{IsDistinct-IsPermutation, IsDistinct-tail, IsDistinct-cons}
use Rattle.std.proofs.lemmas.Option.{slice_get_within, get_or_from_slice_get}
use Rattle.tnk_base.specs.declared.Key.{Key}
use Rattle.paging.specs.Pages.{Page, same_key, under, has, without}
use Rattle.paging.proofs.Keys.{same_key_is, same_key_self, same_key_flips}
use Rattle.page_cache.specs.Cache.{Held, KeepFrames}
use Rattle.page_cache.specs.Frames.{moved_to_end}
use Rattle.page_cache.specs.Kept.{KeysDiffer, pages_in}
use Rattle.page_cache.proofs.Moves.{at_place}

abbrev named : Key → Held → Bool
named k h = same_key h.page.key k

-- ---- where a key stands

pub has_is : (k : Key) (xs : List Held) → has k (pages_in xs) ≡ list_any (named k) xs
has_is k [] = refl
has_is k (x ∷ xs) = ap (λ (b : Bool). named k x || b) (has_is k xs)

pub has_reverse : (k : Key) (xs : List Held) → has k (pages_in (reverse xs)) ≡ list_any (named k) xs
has_reverse k xs = has_is k (reverse xs) ∙ sym (list_any-IsPermutation (named k) xs (reverse xs) (IsPermutation-reverse xs))

pub has_at : (k : Key) (xs : List Held) (i : ℕ) (h : Held) → slice_get xs i ≡ Some h → named k h ≡ true → list_any (named k) xs ≡ true
has_at k [] i h at e = absurd (let no : ⊥ = cc in no)
has_at k (x ∷ xs) zero h at e = let same : x ≡ h = cc in let yes : named k x ≡ true = ap (named k) same ∙ e in rw yes refl
has_at k (x ∷ xs) (suc i) h at e = go (has_at k xs i h at e) (named k x)
  where
    go : list_any (named k) xs ≡ true → (b : Bool) → (b || list_any (named k) xs) ≡ true
    go ih true = refl
    go ih false = ih

-- two of a key
clash : (k : Key) (a b : Held) → named k a ≡ true → named k b ≡ true → same_key a.page.key b.page.key ≡ false → ⊥
clash k a b e f apart =
    let p : a.page.key ≡ k = same_key_is a.page.key k e in
    let q : b.page.key ≡ k = same_key_is b.page.key k f in
    let yes : same_key a.page.key b.page.key ≡ true = subst (λ (c : Key). same_key a.page.key c ≡ true) (p ∙ sym q) (same_key_self a.page.key) in
    let false' : ⊥ = cc in false'

-- behind a page of the key there is none
none_behind : (k : Key) (x : Held) (xs : List Held) → named k x ≡ true → AllByRecursion (λ y. same_key x.page.key y.page.key ≡ false) xs → list_any (named k) xs ≡ false
none_behind k x [] e h = refl
none_behind k x (y ∷ ys) e h = go (none_behind k x ys e h.1) (named k y) refl
  where
    go : list_any (named k) ys ≡ false → (b : Bool) → named k y ≡ b → (b || list_any (named k) ys) ≡ false
    go ih true f = absurd (clash k x y e f h.0)
    go ih false f = ih

-- before a page of the key there is none
not_before : (k : Key) (x : Held) (xs : List Held) (i : ℕ) (h : Held) → slice_get xs i ≡ Some h → named k h ≡ true →
    AllByRecursion (λ y. same_key x.page.key y.page.key ≡ false) xs → named k x ≡ false
not_before k x [] i h at e all = absurd (let no : ⊥ = cc in no)
not_before k x (y ∷ ys) zero h at e all = go (named k x) refl
  where
    go : (b : Bool) → named k x ≡ b → b ≡ false
    go true f = absurd (let same : y ≡ h = cc in clash k x y f (ap (named k) same ∙ e) all.0)
    go false f = refl
not_before k x (y ∷ ys) (suc i) h at e all = not_before k x ys i h at e all.1

filter_none : (k : Key) (xs : List Held) → list_any (named k) xs ≡ false → filter (λ x. not (named k x)) xs ≡ xs
filter_none k [] h = refl
filter_none k (x ∷ xs) h = go (filter_none k xs) (named k x) h
  where
    go : (list_any (named k) xs ≡ false → filter (λ x. not (named k x)) xs ≡ xs) → (b : Bool) → (b || list_any (named k) xs) ≡ false →
        cond (not b) (x ∷ filter (λ x. not (named k x)) xs) (filter (λ x. not (named k x)) xs) ≡ x ∷ xs
    go ih true e = absurd (let no : ⊥ = cc in no)
    go ih false e = ap (λ (l : List Held). x ∷ l) (ih e)

-- to leave a key out is to remove its place
pub filter_at : (k : Key) (xs : List Held) (i : ℕ) (h : Held) → KeysDiffer xs → slice_get xs i ≡ Some h → named k h ≡ true →
    filter (λ x. not (named k x)) xs ≡ remove xs i
unfolding IsDistinct
filter_at k [] i h differ at e = absurd (let no : ⊥ = cc in no)
filter_at k (x ∷ xs) zero h differ at e =
    let same : x ≡ h = cc in
    let yes : named k x ≡ true = ap (named k) same ∙ e in
    rw yes (filter_none k xs (none_behind k x xs yes differ.0))
filter_at k (x ∷ xs) (suc i) h differ at e =
    let no : named k x ≡ false = not_before k x xs i h at e differ.0 in
    rw no (ap (λ (l : List Held). x ∷ l) (filter_at k xs i h differ.1 at e))

-- each page of the key is that at its place
all_that : (k : Key) (xs : List Held) (i : ℕ) (h : Held) → KeysDiffer xs → slice_get xs i ≡ Some h → named k h ≡ true →
    All (λ x. named k x ≡ true → x ≡ h) xs
unfolding IsDistinct
all_that k [] i h differ at e = absurd (let no : ⊥ = cc in no)
all_that k (x ∷ xs) zero h differ at e =
    let same : x ≡ h = cc in
    let yes : named k x ≡ true = ap (named k) same ∙ e in
    All-cons (λ x. named k x ≡ true → x ≡ h) x xs (λ f. same) (others xs (none_behind k x xs yes differ.0))
  where
    others : (ys : List Held) → list_any (named k) ys ≡ false → All (λ x. named k x ≡ true → x ≡ h) ys
    others [] none = All-nil (λ x. named k x ≡ true → x ≡ h)
    others (y ∷ ys) none = go (others ys) (named k y) refl none
      where
        go : (list_any (named k) ys ≡ false → All (λ x. named k x ≡ true → x ≡ h) ys) → (b : Bool) → named k y ≡ b →
            (b || list_any (named k) ys) ≡ false → All (λ x. named k x ≡ true → x ≡ h) (y ∷ ys)
        go ih true f e = absurd (let no : ⊥ = cc in no)
        go ih false f e = All-cons (λ x. named k x ≡ true → x ≡ h) y ys (λ g. absurd (let no : ⊥ = cc in no)) (ih e)
all_that k (x ∷ xs) (suc i) h differ at e =
    let no : named k x ≡ false = not_before k x xs i h at e differ.0 in
    All-cons (λ x. named k x ≡ true → x ≡ h) x xs (λ f. absurd (let no : ⊥ = cc in no)) (all_that k xs i h differ.1 at e)

-- so it is what is found under the key, in whatever order the pages are
under_that : (k : Key) (ys : List Held) (h : Held) → list_any (named k) ys ≡ true → All (λ x. named k x ≡ true → x ≡ h) ys → under k (pages_in ys) ≡ Some h.page
under_that k [] h some all = absurd (let no : ⊥ = cc in no)
under_that k (y ∷ ys) h some all = go (λ more. under_that k ys h more (All-tail (λ x. named k x ≡ true → x ≡ h) y ys all)) (named k y) refl some
  where
    go : (list_any (named k) ys ≡ true → under k (pages_in ys) ≡ Some h.page) → (b : Bool) → named k y ≡ b → (b || list_any (named k) ys) ≡ true →
        cond b (Some y.page) (under k (pages_in ys)) ≡ Some h.page
    go ih true f e = ap (λ (x : Held). Some x.page) (All-head (λ x. named k x ≡ true → x ≡ h) y ys all f)
    go ih false f e = ih e

pub under_at : (k : Key) (xs : List Held) (i : ℕ) (h : Held) → KeysDiffer xs → slice_get xs i ≡ Some h → named k h ≡ true → under k (pages_in xs) ≡ Some h.page
under_at k xs i h differ at e = under_that k xs h (has_at k xs i h at e) (all_that k xs i h differ at e)

pub under_reverse : (k : Key) (xs : List Held) (i : ℕ) (h : Held) → KeysDiffer xs → slice_get xs i ≡ Some h → named k h ≡ true →
    under k (pages_in (reverse xs)) ≡ Some h.page
under_reverse k xs i h differ at e =
    under_that k (reverse xs) h
    (sym (list_any-IsPermutation (named k) xs (reverse xs) (IsPermutation-reverse xs)) ∙ has_at k xs i h at e)
    (All-permutation (λ x. named k x ≡ true → x ≡ h) xs (reverse xs) (IsPermutation-reverse xs) (all_that k xs i h differ at e))

-- ---- lists the other way round

reverse_more : {X : Type 0} (x : X) (xs : List X) → reverse (x ∷ xs) ≡ reverse xs ++ x ∷ []
reverse_more x xs = reverse-append (x ∷ []) xs

filter_reverse : {X : Type 0} (p : X → Bool) (xs : List X) → filter p (reverse xs) ≡ reverse (filter p xs)
filter_reverse p [] = refl
filter_reverse {X} p (x ∷ xs) =
    ap (filter p) (reverse_more x xs) ∙ filter-append p (reverse xs) (x ∷ []) ∙ ap (λ (l : List X). l ++ filter p (x ∷ [])) (filter_reverse p xs)
    ∙ go (p x)
  where
    go : (b : Bool) → reverse (filter p xs) ++ cond b (x ∷ []) [] ≡ reverse (cond b (x ∷ filter p xs) (filter p xs))
    go true = sym (reverse_more x (filter p xs))
    go false = append-nil (reverse (filter p xs))

filter_pages : (k : Key) (xs : List Held) → without k (pages_in xs) ≡ pages_in (filter (λ x. not (named k x)) xs)
filter_pages k [] = refl
filter_pages k (x ∷ xs) = go (filter_pages k xs) (not (named k x))
  where
    go : without k (pages_in xs) ≡ pages_in (filter (λ x. not (named k x)) xs) → (b : Bool) →
        cond b (x.page ∷ without k (pages_in xs)) (without k (pages_in xs)) ≡ pages_in (cond b (x ∷ filter (λ x. not (named k x)) xs) (filter (λ x. not (named k x)) xs))
    go ih true = ap (λ (l : List Page). x.page ∷ l) ih
    go ih false = ih

pub without_at : (k : Key) (xs : List Held) (i : ℕ) (h : Held) → KeysDiffer xs → slice_get xs i ≡ Some h → named k h ≡ true →
    without k (pages_in xs) ≡ pages_in (remove xs i)
without_at k xs i h differ at e = filter_pages k xs ∙ ap pages_in (filter_at k xs i h differ at e)

pub without_reverse : (k : Key) (xs : List Held) (i : ℕ) (h : Held) → KeysDiffer xs → slice_get xs i ≡ Some h → named k h ≡ true →
    without k (pages_in (reverse xs)) ≡ pages_in (reverse (remove xs i))
without_reverse k xs i h differ at e =
    filter_pages k (reverse xs) ∙ ap pages_in (filter_reverse (λ x. not (named k x)) xs) ∙ ap (λ (l : List Held). pages_in (reverse l)) (filter_at k xs i h differ at e)

pub reverse_moved : (xs : List Held) (i : ℕ) (h : Held) → slice_get xs i ≡ Some h → reverse (moved_to_end i xs) ≡ h ∷ reverse (remove xs i)
reverse_moved xs i h at =
    let lt : i < length xs = slice_get_within xs i h at in
    ap (λ (l : List Held). reverse (remove xs i ++ l)) (at_place xs i h lt ∙ ap (λ (x : Held). x ∷ []) (get_or_from_slice_get xs i h h at))
    ∙ reverse-append (remove xs i) (h ∷ [])

-- ---- what stays

flips : (a b : Held) → same_key a.page.key b.page.key ≡ same_key b.page.key a.page.key
flips a b = same_key_flips a.page.key b.page.key

pulled : (xs : List Held) (i : ℕ) (h : Held) → slice_get xs i ≡ Some h → IsPermutation xs (h ∷ remove xs i)
pulled xs i h at = IsPermutation-remove xs i h (slice_get_within xs i h at) (sym (get_or_from_slice_get xs i h h at))

pub removed_differ : (xs : List Held) (i : ℕ) (h : Held) → slice_get xs i ≡ Some h → KeysDiffer xs → KeysDiffer (remove xs i)
removed_differ xs i h at differ =
    IsDistinct-tail (λ a b. same_key a.page.key b.page.key) h (remove xs i)
    (IsDistinct-IsPermutation (λ a b. same_key a.page.key b.page.key) flips xs (h ∷ remove xs i) (pulled xs i h at) differ)

moved_is : (xs : List Held) (i : ℕ) (h : Held) → slice_get xs i ≡ Some h → moved_to_end i xs ≡ remove xs i ++ h ∷ []
moved_is xs i h at =
    let lt : i < length xs = slice_get_within xs i h at in
    ap (λ (l : List Held). remove xs i ++ l) (at_place xs i h lt ∙ ap (λ (x : Held). x ∷ []) (get_or_from_slice_get xs i h h at))

moved_permutes : (xs : List Held) (i : ℕ) (h : Held) → slice_get xs i ≡ Some h → IsPermutation xs (moved_to_end i xs)
moved_permutes xs i h at =
    subst (IsPermutation xs) (sym (moved_is xs i h at))
    (IsPermutation-trans xs (h ∷ remove xs i) (remove xs i ++ h ∷ []) (pulled xs i h at)
    (IsPermutation-sym (remove xs i ++ h ∷ []) (h ∷ remove xs i) (IsPermutation-to_front (remove xs i) h)))

pub moved_differ : (xs : List Held) (i : ℕ) (h : Held) → slice_get xs i ≡ Some h → KeysDiffer xs → KeysDiffer (moved_to_end i xs)
moved_differ xs i h at differ =
    IsDistinct-IsPermutation (λ a b. same_key a.page.key b.page.key) flips xs (moved_to_end i xs) (moved_permutes xs i h at) differ

pub length-moved : (xs : List Held) (i : ℕ) (h : Held) → slice_get xs i ≡ Some h → length (moved_to_end i xs) ≡ length xs
length-moved xs i h at = length_permutation xs (moved_to_end i xs) (moved_permutes xs i h at)

pub length-removed : (xs : List Held) (i : ℕ) (h : Held) → slice_get xs i ≡ Some h → length (remove xs i) + 1 ≡ length xs
length-removed xs i h at = let e : suc (length (remove xs i)) ≡ length xs = length_permutation xs (h ∷ remove xs i) (pulled xs i h at) in omega arith

away : (k : Key) (h : Held) (xs : List Held) → h.page.key ≡ k → list_any (named k) xs ≡ false → AllByRecursion (λ y. same_key h.page.key y.page.key ≡ false) xs
away k h [] own none = tt
away k h (x ∷ xs) own none = go (away k h xs own) (named k x) refl none
  where
    go : (list_any (named k) xs ≡ false → AllByRecursion (λ y. same_key h.page.key y.page.key ≡ false) xs) → (b : Bool) → named k x ≡ b → (b || list_any (named k) xs) ≡ false →
        AllByRecursion (λ y. same_key h.page.key y.page.key ≡ false) (x ∷ xs)
    go ih true f e = absurd (let no : ⊥ = cc in no)
    go ih false f e = (ap (λ (c : Key). same_key c x.page.key) own ∙ same_key_flips k x.page.key ∙ f, ih e)

pub added_differ : (xs : List Held) (h : Held) → KeysDiffer xs → list_any (named h.page.key) xs ≡ false → KeysDiffer (xs ++ h ∷ [])
added_differ xs h differ none =
    IsDistinct-IsPermutation (λ a b. same_key a.page.key b.page.key) flips (h ∷ xs) (xs ++ h ∷ [])
    (IsPermutation-sym (xs ++ h ∷ []) (h ∷ xs) (IsPermutation-to_front xs h))
    (IsDistinct-cons (λ a b. same_key a.page.key b.page.key) h xs (away h.page.key h xs refl none) differ)

pub none_differ : KeysDiffer []
unfolding IsDistinct
none_differ = tt

pub first_differ : (xs : List Held) → KeysDiffer xs → KeysDiffer (remove xs 0)
unfolding IsDistinct
first_differ [] h = h
first_differ (x ∷ xs) h = h.1

-- after a place was taken out, none of a key that wasn't there
pub none_removed : (k : Key) (xs : List Held) (i : ℕ) → list_any (named k) xs ≡ false → list_any (named k) (remove xs i) ≡ false
none_removed k [] zero h = refl
none_removed k [] (suc i) h = refl
none_removed k (x ∷ xs) zero h = go (named k x) h
  where
    go : (b : Bool) → (b || list_any (named k) xs) ≡ false → list_any (named k) xs ≡ false
    go true e = absurd (let no : ⊥ = cc in no)
    go false e = e
none_removed k (x ∷ xs) (suc i) h = go (none_removed k xs i) (named k x) h
  where
    go : (list_any (named k) xs ≡ false → list_any (named k) (remove xs i) ≡ false) → (b : Bool) → (b || list_any (named k) xs) ≡ false →
        (b || list_any (named k) (remove xs i)) ≡ false
    go ih true e = absurd (let no : ⊥ = cc in no)
    go ih false e = ih e

-- ---- frames are kept

-- what is among a list's elements stays so the other way round
pub kept_reverse : (xs ys : List Held) → All (Contains xs) ys → KeepFrames (reverse xs) (reverse ys)
kept_reverse xs ys all =
    All-permutation (λ h. Contains (reverse xs) h) ys (reverse ys) (IsPermutation-reverse ys)
    (λ j d lt. Contains-permutation xs (reverse xs) (get_or ys j d) (IsPermutation-reverse xs) (all j d lt))

pub kept_moved : (xs : List Held) (i : ℕ) (h : Held) → slice_get xs i ≡ Some h → All (Contains xs) (moved_to_end i xs)
kept_moved xs i h at = All-permutation (Contains xs) xs (moved_to_end i xs) (moved_permutes xs i h at) (All-contains_itself xs)

pub kept_removed : (xs : List Held) (i : ℕ) → All (Contains xs) (remove xs i)
kept_removed xs i =
    All-append (Contains xs) (take i xs) (drop (suc i) xs) (All-take (Contains xs) i xs (All-contains_itself xs)) (All-drop (Contains xs) (suc i) xs (All-contains_itself xs))

-- ---- the page at the end

pub last_reverse : (xs : List Held) (h : Held) → slice_get xs 0 ≡ Some h → slice_get (pages_in (reverse xs)) (length (pages_in (reverse xs)) - 1) ≡ Some h.page
last_reverse [] h at = absurd (let no : ⊥ = cc in no)
last_reverse (x ∷ xs) h at =
    let same : x ≡ h = cc in
    let parts : pages_in (reverse (x ∷ xs)) ≡ pages_in (reverse xs) ++ x.page ∷ [] = ap pages_in (reverse_more x xs) ∙ map-append (λ (h : Held). h.page) (reverse xs) (x ∷ []) in
    ap (λ (l : List Page). slice_get l (length l - 1)) parts ∙ at_end (pages_in (reverse xs)) x.page ∙ ap (λ (h : Held). Some h.page) same
  where
    at_end : (ys : List Page) (p : Page) → slice_get (ys ++ p ∷ []) (length (ys ++ p ∷ []) - 1) ≡ Some p
    at_end [] p = refl
    at_end (y ∷ ys) p =
        let long : length (ys ++ p ∷ []) ≡ suc (length (ys ++ p ∷ []) - 1) = let e : length (ys ++ p ∷ []) ≡ length ys + 1 = length_push ys p in omega arith in
        let less : suc (length (ys ++ p ∷ [])) - 1 ≡ suc (length (ys ++ p ∷ []) - 1) = omega arith in
        ap (slice_get (y ∷ (ys ++ p ∷ []))) less ∙ at_end ys p
