-- What a step of a cache comes to, by what happened to its frames.
use Rattle.std.proofs.Common.{◌≡◌, ℕ, ◌+◌, ◌<◌, ◌≤◌, Bool, true, false, cond, List, [], ◌∷◌, ◌++◌, length, reverse, get_or, refl, sym, ap, subst, ◌∙◌, Option, Some, None, arith}
use Rattle.std.specs.List.{remove, list_any}
use Rattle.std.specs.Prelude.{nat_eq, slice_get, find, option_map, is_some, IsSome, IfSome, All, ◌||◌}
use Rattle.std.proofs.lemmas.Bool.{eqb-false, eq-eqb, eqb-true}
use Rattle.std.proofs.lemmas.List.{length-reverse, length_push, map-append}
use Rattle.std.proofs.lemmas.List.Elements.{All-head, All-tail, All-contains_itself}
use Rattle.std.proofs.lemmas.List.Sorted.{IsPermutation-reverse, All-permutation, list_any-IsPermutation}
use Rattle.std.proofs.lemmas.Option.{slice_get-get_or}
use Rattle.tnk_base.specs.declared.Key.{Key}
use Rattle.paging.specs.Pages.{Page, same_key, under, has, touch, with_room, with_saved, evict, make_room, drop_saved, one_more}
use Rattle.paging.proofs.Keys.{same_key_is, same_key_self, under_none}
use Rattle.page_cache.specs.declared.Slot.{Slot}
use Rattle.page_cache.specs.Cache.{Held, Cache, pages_of, page_in, KeepFrames}
use Rattle.page_cache.specs.Frames.{Filled, moved_to_end}
use Rattle.page_cache.specs.Kept.{KeysDiffer, pages_in, AreCached, cache_of}
use Rattle.page_cache.proofs.Keyed.{under_reverse, under_at, has_at, has_is, moved_differ, removed_differ, added_differ, length-moved, length-removed, kept_reverse, kept_moved, kept_removed, reverse_moved, has_reverse, none_differ, first_differ}
use Rattle.page_cache.proofs.Caches.{is_touched, is_evicted, is_dropped, present, room_made, absent, not_touched, not_evicted, has_room, not_dropped, saved_more, saved_already}

-- the page at a place
pub place : (xs : List Held) (i : ℕ) → i < length xs → (h : Held) × (slice_get xs i ≡ Some h)
place xs i lt =
    let no : Held = record { frame = 0; page = record { key = record { program = 0; page = 0 }; words = [] } } in
    (get_or xs i no, slice_get-get_or xs i no lt)

pub there : {X : Type 0} (P : X → Type 0) (o : Option X) (x : X) → o ≡ Some x → IfSome o P → P x
there P o x e h = subst (λ o. IfSome o P) e h

-- a page has been touched
pub record AreTouched (k : Key) (v : Cache) (xs : List Held) (i : ℕ) (r' s : Filled) (e : ℕ) : Type 0 where
  pub pages : pages_of (cache_of r' s e) ≡ touch k (pages_of v)
  pub found : true ≡ has k (pages_of v).resident
  pub cached : AreCached r' s
  pub frames : KeepFrames v.held (reverse r'.held)
  pub slot : (slot : Slot) → IfSome (slice_get xs i) (λ h. h.frame ≡ slot.frame) → page_in (cache_of r' s e) slot ≡ under k (pages_of v).resident

pub touched_so : (k : Key) (v : Cache) (r r' s : Filled) (e i : ℕ) → AreCached r s → cache_of r s e ≡ v → i < length r.held →
    IfSome (slice_get r.held i) (λ h. same_key h.page.key k ≡ true) → r' ≡ record { held = moved_to_end i r.held; size = r.size } → AreTouched k v r.held i r' s e
touched_so k v r r' s e i kept is lt own moved =
    let h : Held = (place r.held i lt).0 in
    let at : slice_get r.held i ≡ Some h = (place r.held i lt).1 in
    let own' : same_key h.page.key k ≡ true = there (λ h. same_key h.page.key k ≡ true) (slice_get r.held i) h at own in
    subst (λ (v : Cache). AreTouched k v r.held i r' s e) is
    (subst (λ (q : Filled). AreTouched k (cache_of r s e) r.held i q s e) (sym moved) (all h at own'))
  where
    all : (h : Held) → slice_get r.held i ≡ Some h → same_key h.page.key k ≡ true → AreTouched k (cache_of r s e) r.held i (record { held = moved_to_end i r.held; size = r.size }) s e
    all h at own' = record {
      pages = is_touched k r s e i h kept at own';
      found = sym (present k r s e i h at own');
      cached = record {
        some = kept.some;
        keys = moved_differ r.held i h at kept.keys;
        room = let long : length (moved_to_end i r.held) ≡ length r.held = length-moved r.held i h at in let within : length r.held ≤ r.size = kept.room in omega arith;
        saved_keys = kept.saved_keys;
        saved_room = kept.saved_room;
      };
      frames = kept_reverse r.held (moved_to_end i r.held) (kept_moved r.held i h at);
      slot = λ slot own.
          let same : h.frame ≡ slot.frame = there (λ h. h.frame ≡ slot.frame) (slice_get r.held i) h at own in
          ap (λ (l : List Held). option_map (λ (h : Held). h.page) (find (λ h. nat_eq h.frame slot.frame) l)) (reverse_moved r.held i h at)
          ∙ ap (λ (b : Bool). option_map (λ (h : Held). h.page) (cond b (Some h) (find (λ h. nat_eq h.frame slot.frame) (reverse (remove r.held i))))) (eq-eqb h.frame slot.frame same)
          ∙ sym (under_reverse k r.held i h kept.keys at own');
    }

-- a page has left its frame
pub record HasLeft (k : Key) (v : Cache) (r' s' : Filled) (e : ℕ) : Type 0 where
  pub pages : pages_of (cache_of r' s' e) ≡ evict k (pages_of v)
  pub found : true ≡ has k (pages_of v).resident
  pub cached : AreCached r' s'
  pub frames : KeepFrames v.held (reverse r'.held)

pub left_so : (k : Key) (v : Cache) (r r' s s' : Filled) (e e' i : ℕ) → AreCached r s → cache_of r s e ≡ v → i < length r.held →
    IfSome (slice_get r.held i) (λ h. same_key h.page.key k ≡ true) → r' ≡ record { held = remove r.held i; size = r.size } →
    IfSome (slice_get r.held i) (λ h. pages_in s'.held ≡ with_saved s.size h.page (pages_in s.held)) → s'.size ≡ s.size → length s'.held ≤ s'.size → KeysDiffer s'.held →
    e' ≡ one_more e → HasLeft k v r' s' e'
left_so k v r r' s s' e e' i kept is lt own left saved size room apart more =
    let h : Held = (place r.held i lt).0 in
    let at : slice_get r.held i ≡ Some h = (place r.held i lt).1 in
    let own' : same_key h.page.key k ≡ true = there (λ h. same_key h.page.key k ≡ true) (slice_get r.held i) h at own in
    let pages : pages_in s'.held ≡ with_saved s.size h.page (pages_in s.held) = there (λ h. pages_in s'.held ≡ with_saved s.size h.page (pages_in s.held)) (slice_get r.held i) h at saved in
    subst (λ (v : Cache). HasLeft k v r' s' e') is
    (subst (λ (q : Filled). HasLeft k (cache_of r s e) q s' e') (sym left)
    (subst (λ (n : ℕ). HasLeft k (cache_of r s e) (record { held = remove r.held i; size = r.size }) s' n) (sym more) (all h at own' pages)))
  where
    all : (h : Held) → slice_get r.held i ≡ Some h → same_key h.page.key k ≡ true → pages_in s'.held ≡ with_saved s.size h.page (pages_in s.held) →
        HasLeft k (cache_of r s e) (record { held = remove r.held i; size = r.size }) s' (one_more e)
    all h at own' pages = record {
      pages = is_evicted k r s s' e i h kept at own' pages size;
      found = sym (present k r s e i h at own');
      cached = record {
        some = kept.some;
        keys = removed_differ r.held i h at kept.keys;
        room = let long : length (remove r.held i) + 1 ≡ length r.held = length-removed r.held i h at in let within : length r.held ≤ r.size = kept.room in omega arith;
        saved_keys = apart;
        saved_room = room;
      };
      frames = kept_reverse r.held (remove r.held i) (kept_removed r.held i);
    }

-- so has the one touched least recently, where the frames are full
pub room_so : (v : Cache) (r r' s s' : Filled) (e e' : ℕ) → AreCached r s → cache_of r s e ≡ v → nat_eq (length r.held) r.size ≡ true →
    r' ≡ record { held = remove r.held 0; size = r.size } →
    IfSome (slice_get r.held 0) (λ h. pages_in s'.held ≡ with_saved s.size h.page (pages_in s.held)) → s'.size ≡ s.size → length s'.held ≤ s'.size → KeysDiffer s'.held →
    e' ≡ one_more e → (pages_of (cache_of r' s' e') ≡ make_room (pages_of v)) × AreCached r' s' × KeepFrames v.held (reverse r'.held)
room_so v r r' s s' e e' kept is full left saved size room apart more =
    let all : length r.held ≡ r.size = eqb-true (length r.held) r.size full in
    let some : 1 ≤ r.size = kept.some in
    let lt : 0 < length r.held = omega arith in
    let h : Held = (place r.held 0 lt).0 in
    let at : slice_get r.held 0 ≡ Some h = (place r.held 0 lt).1 in
    let own : IfSome (slice_get r.held 0) (λ x. same_key x.page.key h.page.key ≡ true) = subst (λ (o : Option Held). IfSome o (λ x. same_key x.page.key h.page.key ≡ true)) (sym at) (same_key_self h.page.key) in
    let gone = left_so h.page.key v r r' s s' e e' 0 kept is lt own left saved size room apart more in
    let made : evict h.page.key (pages_of v) ≡ make_room (pages_of v) = subst (λ (v : Cache). evict h.page.key (pages_of v) ≡ make_room (pages_of v)) is (room_made r s e h kept full at) in
    (gone.pages ∙ made, gone.cached, gone.frames)

-- a saved page has been dropped
pub dropped_so : (k : Key) (v : Cache) (r s s' : Filled) (e i : ℕ) → AreCached r s → cache_of r s e ≡ v → i < length s.held →
    IfSome (slice_get s.held i) (λ h. same_key h.page.key k ≡ true) → s' ≡ record { held = remove s.held i; size = s.size } →
    (pages_of (cache_of r s' e) ≡ drop_saved k (pages_of v)) × AreCached r s' × (true ≡ has k v.saved)
dropped_so k v r s s' e i kept is lt own gone =
    let h : Held = (place s.held i lt).0 in
    let at : slice_get s.held i ≡ Some h = (place s.held i lt).1 in
    let own' : same_key h.page.key k ≡ true = there (λ h. same_key h.page.key k ≡ true) (slice_get s.held i) h at own in
    let Q : Cache → Filled → Type 0 = λ v s'. (pages_of (cache_of r s' e) ≡ drop_saved k (pages_of v)) × AreCached r s' × (true ≡ has k v.saved) in
    subst (λ (v : Cache). Q v s') is (subst (λ (q : Filled). Q (cache_of r s e) q) (sym gone) (
      is_dropped k r s e i h kept at own',
      record {
        some = kept.some;
        keys = kept.keys;
        room = kept.room;
        saved_keys = removed_differ s.held i h at kept.saved_keys;
        saved_room = let long : length (remove s.held i) + 1 ≡ length s.held = length-removed s.held i h at in let within : length s.held ≤ s.size = kept.saved_room in omega arith;
      },
      sym (has_is k s.held ∙ has_at k s.held i h at own'),
    ))

-- the page under a saved key
pub saved_at : (k : Key) (v : Cache) (r s : Filled) (e i : ℕ) (words : List ℕ) → AreCached r s → cache_of r s e ≡ v → i < length s.held →
    IfSome (slice_get s.held i) (λ h. same_key h.page.key k ≡ true) → IfSome (slice_get s.held i) (λ h. h.page.words ≡ words) →
    under k v.saved ≡ Some (record { key = k; words = words })
saved_at k v r s e i words kept is lt own same =
    let h : Held = (place s.held i lt).0 in
    let at : slice_get s.held i ≡ Some h = (place s.held i lt).1 in
    let own' : same_key h.page.key k ≡ true = there (λ h. same_key h.page.key k ≡ true) (slice_get s.held i) h at own in
    let words' : h.page.words ≡ words = there (λ h. h.page.words ≡ words) (slice_get s.held i) h at same in
    subst (λ (v : Cache). under k v.saved ≡ Some (record { key = k; words = words })) is
    (under_at k s.held i h kept.saved_keys at own'
    ∙ page_as h.page.key k h.page.words words (same_key_is h.page.key k own') words')
  where
    page_as : (a b : Key) (v w : List ℕ) → a ≡ b → v ≡ w → ◌≡◌ {A = Option Page} (Some (record { key = a; words = v })) (Some (record { key = b; words = w }))
    page_as a b v w p q = cc

-- there is room, where the frames aren't full, or a page has left one
pub roomy_now : (v : Cache) (r s : Filled) (e : ℕ) → AreCached r s → cache_of r s e ≡ v → nat_eq (length r.held) r.size ≡ false → length v.held < v.frames
roomy_now v r s e kept is free =
    subst (λ (v : Cache). length v.held < v.frames) is
    (let within : length r.held ≤ r.size = kept.room in
    let same : length (reverse r.held) ≡ length r.held = length-reverse r.held in
    let other : length r.held ≡ r.size → ⊥ = eqb-false (length r.held) r.size free in
    below (length (reverse r.held)) (length r.held) r.size same within other)
  where
    below : (a b n : ℕ) → a ≡ b → b ≤ n → (b ≡ n → ⊥) → a < n
    below a b n e le ne = omega (arith, ne)

pub made_now : (r r' : Filled) (s : Filled) → AreCached r s → nat_eq (length r.held) r.size ≡ true → r' ≡ record { held = remove r.held 0; size = r.size } →
    length (reverse r'.held) < r'.size
made_now r r' s kept full left =
    let all : length r.held ≡ r.size = eqb-true (length r.held) r.size full in
    let some : 1 ≤ r.size = kept.some in
    let lt : 0 < length r.held = omega arith in
    let h : Held = (place r.held 0 lt).0 in
    let at : slice_get r.held 0 ≡ Some h = (place r.held 0 lt).1 in
    let long : length (remove r.held 0) + 1 ≡ length r.held = length-removed r.held 0 h at in
    let same : length (reverse (remove r.held 0)) ≡ length (remove r.held 0) = length-reverse (remove r.held 0) in
    subst (λ (q : Filled). length (reverse q.held) < q.size) (sym left) (omega arith)

-- ---- nothing there

pub absent_so : (k : Key) (v : Cache) (r s : Filled) (e : ℕ) → cache_of r s e ≡ v → list_any (λ h. same_key h.page.key k) r.held ≡ false →
    (has k (pages_of v).resident ≡ false) × (pages_of v ≡ touch k (pages_of v)) × (pages_of v ≡ evict k (pages_of v)) × KeepFrames v.held v.held
absent_so k v r s e is none =
    subst (λ (v : Cache). (has k (pages_of v).resident ≡ false) × (pages_of v ≡ touch k (pages_of v)) × (pages_of v ≡ evict k (pages_of v)) × KeepFrames v.held v.held) is
    (absent k r s e none, not_touched k r s e none, not_evicted k r s e none, All-contains_itself (reverse r.held))

pub roomy_so : (v : Cache) (r s : Filled) (e : ℕ) → AreCached r s → cache_of r s e ≡ v → nat_eq (length r.held) r.size ≡ false →
    (pages_of v ≡ make_room (pages_of v)) × KeepFrames v.held v.held
roomy_so v r s e kept is free =
    subst (λ (v : Cache). (pages_of v ≡ make_room (pages_of v)) × KeepFrames v.held v.held) is (has_room r s e kept free, All-contains_itself (reverse r.held))

pub undropped_so : (k : Key) (v : Cache) (r s : Filled) (e : ℕ) → cache_of r s e ≡ v → list_any (λ h. same_key h.page.key k) s.held ≡ false →
    (has k v.saved ≡ false) × (pages_of v ≡ drop_saved k (pages_of v)) × (under k v.saved ≡ None)
undropped_so k v r s e is none =
    subst (λ (v : Cache). (has k v.saved ≡ false) × (pages_of v ≡ drop_saved k (pages_of v)) × (under k v.saved ≡ None)) is
    (has_is k s.held ∙ none, not_dropped k r s e none, under_none k (pages_in s.held) (has_is k s.held ∙ none))

-- ---- a page in a frame

some_any : (n : ℕ) (ys : List Held) → IsSome (option_map (λ (h : Held). h.page) (find (λ h. nat_eq h.frame n) ys)) → list_any (λ h. nat_eq h.frame n) ys ≡ true
some_any n [] h = absurd (let no' : ⊥ = cc in no')
some_any n (y ∷ ys) h = go (some_any n ys) (nat_eq y.frame n) h
  where
    go : (IsSome (option_map (λ (h : Held). h.page) (find (λ h. nat_eq h.frame n) ys)) → list_any (λ h. nat_eq h.frame n) ys ≡ true) → (b : Bool) →
        IsSome (option_map (λ (h : Held). h.page) (cond b (Some y) (find (λ h. nat_eq h.frame n) ys))) → (b || list_any (λ h. nat_eq h.frame n) ys) ≡ true
    go ih true h = refl
    go ih false h = ih h

those : (n : ℕ) (words : List ℕ) (ys : List Held) → All (λ h. h.frame ≡ n → h.page.words ≡ words) ys →
    IfSome (option_map (λ (h : Held). h.page) (find (λ h. nat_eq h.frame n) ys)) (λ page. page.words ≡ words)
those n words [] all = tt
those n words (y ∷ ys) all = go (those n words ys (All-tail (λ h. h.frame ≡ n → h.page.words ≡ words) y ys all)) (nat_eq y.frame n) refl
  where
    go : IfSome (option_map (λ (h : Held). h.page) (find (λ h. nat_eq h.frame n) ys)) (λ page. page.words ≡ words) → (b : Bool) → nat_eq y.frame n ≡ b →
        IfSome (option_map (λ (h : Held). h.page) (cond b (Some y) (find (λ h. nat_eq h.frame n) ys))) (λ page. page.words ≡ words)
    go ih true e = All-head (λ h. h.frame ≡ n → h.page.words ≡ words) y ys all (eqb-true y.frame n e)
    go ih false e = ih

pub in_use : (v : Cache) (r s : Filled) (e : ℕ) (slot : Slot) → cache_of r s e ≡ v → IsSome (page_in v slot) → list_any (λ h. nat_eq h.frame slot.frame) r.held ≡ true
in_use v r s e slot is =
    subst (λ (v : Cache). IsSome (page_in v slot) → list_any (λ h. nat_eq h.frame slot.frame) r.held ≡ true) is
    (λ some. list_any-IsPermutation (λ (h : Held). nat_eq h.frame slot.frame) r.held (reverse r.held) (IsPermutation-reverse r.held) ∙ some_any slot.frame (reverse r.held) some)

pub words_so : (v : Cache) (r s : Filled) (e : ℕ) (slot : Slot) (words : List ℕ) → cache_of r s e ≡ v → All (λ h. h.frame ≡ slot.frame → h.page.words ≡ words) r.held →
    IfSome (page_in v slot) (λ page. page.words ≡ words)
words_so v r s e slot words is all =
    subst (λ (v : Cache). IfSome (page_in v slot) (λ page. page.words ≡ words)) is
    (those slot.frame words (reverse r.held) (All-permutation (λ h. h.frame ≡ slot.frame → h.page.words ≡ words) r.held (reverse r.held) (IsPermutation-reverse r.held) all))

-- ---- a page has come

pub put_so : (k : Key) (words : List ℕ) (frame : ℕ) (v : Cache) (r r' s : Filled) (e : ℕ) → AreCached r s → cache_of r s e ≡ v → length v.held < v.frames →
    has k (pages_of v).resident ≡ false → r' ≡ record { held = r.held ++ record { frame = frame; page = record { key = k; words = words } } ∷ []; size = r.size } → AreCached r' s
put_so k words frame v r r' s e kept is room new added =
    let lt : length (reverse r.held) < r.size = subst (λ (v : Cache). length v.held < v.frames) (sym is) room in
    let same : length (reverse r.held) ≡ length r.held = length-reverse r.held in
    let more : length (r.held ++ record { frame = frame; page = record { key = k; words = words } } ∷ []) ≡ length r.held + 1 = length_push r.held (record { frame = frame; page = record { key = k; words = words } }) in
    let none : has k (pages_in (reverse r.held)) ≡ false = subst (λ (v : Cache). has k (pages_of v).resident ≡ false) (sym is) new in
    subst (λ (q : Filled). AreCached q s) (sym added) (record {
      some = kept.some;
      keys = added_differ r.held (record { frame = frame; page = record { key = k; words = words } }) kept.keys (sym (has_reverse k r.held) ∙ none);
      room = omega arith;
      saved_keys = kept.saved_keys;
      saved_room = kept.saved_room;
    })

pub fresh_so : (r s : Filled) (f m : ℕ) → r ≡ record { held = []; size = f } → s ≡ record { held = []; size = m } → 1 ≤ f → AreCached r s
fresh_so r s f m a b some =
    subst (λ (r : Filled). AreCached r s) (sym a) (subst (λ (s : Filled). AreCached (record { held = []; size = f }) s) (sym b)
    (record { some = some; keys = none_differ; room = omega arith; saved_keys = none_differ; saved_room = omega arith }))

-- ---- saving

pub first_gone : (s s' : Filled) → s' ≡ record { held = remove s.held 0; size = s.size } → KeysDiffer s.held → KeysDiffer s'.held
first_gone s s' gone differ = subst (λ (s : Filled). KeysDiffer s.held) (sym gone) (first_differ s.held differ)

pub saved_so : (k : Key) (words : List ℕ) (frame : ℕ) (s t u : Filled) → nat_eq s.size 0 ≡ false → list_any (λ h. same_key h.page.key k) s.held ≡ false →
    pages_in t.held ≡ with_room s.size (pages_in s.held) → u ≡ record { held = t.held ++ record { frame = frame; page = record { key = k; words = words } } ∷ []; size = t.size } →
    pages_in u.held ≡ with_saved s.size (record { key = k; words = words }) (pages_in s.held)
saved_so k words frame s t u some new roomy added =
    ap (λ (q : Filled). pages_in q.held) added
    ∙ map-append (λ (h : Held). h.page) t.held (record { frame = frame; page = record { key = k; words = words } } ∷ [])
    ∙ ap (λ (l : List Page). l ++ record { key = k; words = words } ∷ []) roomy
    ∙ saved_more s.size (record { key = k; words = words }) (pages_in s.held) some (has_is k s.held ∙ new)

pub saved_differ : (k : Key) (words : List ℕ) (frame : ℕ) (t u : Filled) → list_any (λ h. same_key h.page.key k) t.held ≡ false → KeysDiffer t.held →
    u ≡ record { held = t.held ++ record { frame = frame; page = record { key = k; words = words } } ∷ []; size = t.size } → KeysDiffer u.held
saved_differ k words frame t u new differ added =
    subst (λ (q : Filled). KeysDiffer q.held) (sym added) (added_differ t.held (record { frame = frame; page = record { key = k; words = words } }) differ new)

pub known_so : (k : Key) (words : List ℕ) (s : Filled) (o : Option ℕ) → is_some o ≡ true → IfSome o (λ i. i < length s.held) →
    IfSome o (λ i. IfSome (slice_get s.held i) (λ h. same_key h.page.key k ≡ true)) → pages_in s.held ≡ with_saved s.size (record { key = k; words = words }) (pages_in s.held)
known_so k words s None some lt own = absurd (let no' : ⊥ = cc in no')
known_so k words s (Some i) some lt own =
    let h : Held = (place s.held i lt).0 in
    let at : slice_get s.held i ≡ Some h = (place s.held i lt).1 in
    let own' : same_key h.page.key k ≡ true = there (λ h. same_key h.page.key k ≡ true) (slice_get s.held i) h at own in
    saved_already s.size (record { key = k; words = words }) (pages_in s.held) (has_is k s.held ∙ has_at k s.held i h at own')
