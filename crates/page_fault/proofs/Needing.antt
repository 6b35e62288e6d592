-- What a need comes to.
use Rattle.std.proofs.Common.{◌≡◌, ◌<◌, ℕ, Bool, true, false, cond, List, [], ◌∷◌, length, take, drop, ◌++◌, refl, sym, ap, get_or, subst, ◌∙◌, ◌⊎◌, inl, inr, Option, Some, None}
use Rattle.std.specs.Prelude.{All, Contains, IfSome, nat_eq, find, option_map, if◌then◌else◌}
use Rattle.std.proofs.lemmas.Bool.{eq-eqb}
use Rattle.std.proofs.lemmas.List.{take_at}
use Rattle.std.proofs.lemmas.List.Elements.{All-nil, All-cons, All-contains}
use Rattle.tnk_base.specs.declared.Key.{Key}
use Rattle.paging.specs.Pages.{Page, Pages, Paging, under, has, touch, make_room, put, load, need, one_more}
use Rattle.paging.proofs.Kept.{found, found_key}
use Rattle.paging.proofs.Frames.{touch_keeps, room_keeps}
use Rattle.paging.proofs.Keys.{under_some, untouched, absent_roomy}
use Rattle.page_cache.specs.declared.Slot.{Slot}
use Rattle.page_cache.specs.Cache.{Held, Cache, pages_of, page_in, KeepFrames}
use Rattle.page_fault.specs.declared.Loaded.{Loaded}
use Rattle.page_fault.specs.declared.fetching.Source.{Source}
use Rattle.page_fault.specs.declared.fetching.Source.TheVariants.{Saved, Own, Rescheduled}
use Rattle.page_fault.specs.Loading.{Loading, HasForm, IsNeeded, KeepOtherFrames, paging_of, runs_elsewhere}
use Rattle.page_fault.specs.Fetching.{KeepsForms, IsFetched, CameFrom, is_restored, is_moved}

-- nothing is kept of no pages
pub none_kept : (programs : List Loaded) (c : Cache) → (pages_of c).resident ≡ [] → c.saved ≡ [] → KeepsForms programs c
none_kept programs c a b = record {
  resident = subst (All (HasForm programs)) (sym a) (All-nil (HasForm programs));
  saved = subst (All (HasForm programs)) (sym b) (All-nil (HasForm programs));
}

-- a work list of 512 words that was written whole
pub written_back : (len : ℕ) (items lent new : List ℕ) → length items ≡ 512 → lent ≡ items → length lent ≡ len → length new ≡ length lent →
    (take len (new ++ drop (length new) items) ≡ new) × (length new ≡ 512)
written_back len items lent new whole same count kept =
    let long : length lent ≡ 512 = ap length same ∙ whole in
    (take_at new (drop (length new) items) len (kept ∙ count), kept ∙ long)

-- ---- frames

kept_twice : (xs ys zs : List Held) → KeepFrames xs ys → KeepFrames ys zs → KeepFrames xs zs
kept_twice xs ys zs a b j d lt = All-contains (Contains xs) ys (get_or zs j d) a (b j d lt)

others_kept : (k : Key) (old new : List Held) → KeepFrames old new → KeepOtherFrames k old new
others_kept k old new h j d lt = inr (h j d lt)

put_beside : (k : Key) (old two : List Held) (h : Held) → h.page.key ≡ k → KeepFrames old two → KeepOtherFrames k old (h ∷ two)
put_beside k old two h own kept = All-cons (λ x. (x.page.key ≡ k) ⊎ Contains old x) h two (inl own) (others_kept k old two kept)

-- ---- a resident key

needs_resident : (page : Page) (elsewhere : Bool) (p : Paging) → has page.key p.pages.resident ≡ true → need page elsewhere p ≡ record p { pages = touch page.key p.pages }
needs_resident page elsewhere p here =
    ap (λ (b : Bool). let q : Paging = cond b (record p { pages = touch page.key p.pages }) (load page elsewhere p) in q) here

pub found_so : (old : Loading) (k : Key) (new : Cache) (slot : Slot) → KeepsForms old.programs old.cache → true ≡ has k (pages_of old.cache).resident →
    page_in new slot ≡ under k (pages_of old.cache).resident → slot.frame < new.frames → pages_of new ≡ touch k (pages_of old.cache) → KeepFrames old.cache.held new.held →
    IsNeeded old (record { programs = old.programs; cache = new; loaded = old.loaded; rescheduled = old.rescheduled; restored = old.restored }) k slot
found_so old k new slot kept here at below touched still =
    let there = under_some k (pages_of old.cache).resident (sym here) in
    let own : there.0.key ≡ k = found_key k (pages_of old.cache).resident there.0 there.1 in
    record {
      page = there.0;
      stands = at ∙ there.1;
      key = own;
      form = found (HasForm old.programs) k (pages_of old.cache).resident there.0 kept.resident there.1;
      paging =
          ap (λ (p : Pages). let q : Paging = record { pages = p; loaded = old.loaded; rescheduled = old.rescheduled; restored = old.restored } in q) (touched ∙ ap (λ (k : Key). touch k (pages_of old.cache)) (sym own))
          ∙ sym (needs_resident there.0 (runs_elsewhere old.programs k) (paging_of old) (ap (λ (k : Key). has k (pages_of old.cache).resident) own ∙ sym here));
      frame = below;
      frames_stay = ap (λ (p : Pages). p.frames) touched ∙ touch_keeps k (pages_of old.cache);
      frames = others_kept k old.cache.held new.held still;
      programs = refl;
    }

-- ---- a key that isn't resident

needs_load : (page : Page) (elsewhere : Bool) (p : Paging) → has page.key p.pages.resident ≡ false → need page elsewhere p ≡ load page elsewhere p
needs_load page elsewhere p none =
    ap (λ (b : Bool). let q : Paging = cond b (record p { pages = touch page.key p.pages }) (load page elsewhere p) in q) none

loads_by : (page : Page) (elsewhere : Bool) (p : Paging) (q : Pages) (o : Option Page) → q ≡ make_room p.pages → under page.key q.saved ≡ o →
    load page elsewhere p ≡ elim o [
      | Some kept ↦ record p { pages = put kept q; loaded = one_more p.loaded; restored = one_more p.restored }
      | None ↦ record p { pages = put page q; loaded = one_more p.loaded; rescheduled = if elsewhere then one_more p.rescheduled else p.rescheduled }
    ]
loads_by page elsewhere p q o same at =
    ap (λ (q : Pages). let r : Paging = elim (under page.key q.saved) [
      | Some kept ↦ record p { pages = put kept q; loaded = one_more p.loaded; restored = one_more p.restored }
      | None ↦ record p { pages = put page q; loaded = one_more p.loaded; rescheduled = if elsewhere then one_more p.rescheduled else p.rescheduled }
    ] in r) (sym same)
    ∙ ap (λ (o : Option Page). let r : Paging = elim o [
      | Some kept ↦ record p { pages = put kept q; loaded = one_more p.loaded; restored = one_more p.restored }
      | None ↦ record p { pages = put page q; loaded = one_more p.loaded; rescheduled = if elsewhere then one_more p.rescheduled else p.rescheduled }
    ] in r) at

-- the lists and counts behind a load
pub loaded_as : (programs : List Loaded) (page : Page) (p : Paging) (c : Cache) (from : Source) → has page.key p.pages.resident ≡ false → pages_of c ≡ make_room p.pages → CameFrom programs c page from →
    ◌≡◌ {A = Paging} (record {
      pages = put page (pages_of c);
      loaded = one_more p.loaded;
      rescheduled = if is_moved from then one_more p.rescheduled else p.rescheduled;
      restored = if is_restored from then one_more p.restored else p.restored;
    }) (need page (runs_elsewhere programs page.key) p)
loaded_as programs page p c Saved none roomy came =
    sym (needs_load page (runs_elsewhere programs page.key) p none ∙ loads_by page (runs_elsewhere programs page.key) p (pages_of c) (Some page) roomy came)
loaded_as programs page p c Own none roomy came =
    ap (λ (b : Bool). let q : Paging = record { pages = put page (pages_of c); loaded = one_more p.loaded; rescheduled = if b then one_more p.rescheduled else p.rescheduled; restored = p.restored } in q) (sym came.1)
    ∙ sym (needs_load page (runs_elsewhere programs page.key) p none ∙ loads_by page (runs_elsewhere programs page.key) p (pages_of c) None roomy came.0)
loaded_as programs page p c Rescheduled none roomy came =
    ap (λ (b : Bool). let q : Paging = record { pages = put page (pages_of c); loaded = one_more p.loaded; rescheduled = if b then one_more p.rescheduled else p.rescheduled; restored = p.restored } in q) (sym came.1)
    ∙ sym (needs_load page (runs_elsewhere programs page.key) p none ∙ loads_by page (runs_elsewhere programs page.key) p (pages_of c) None roomy came.0)

-- the pages before the load: the key was touched, which changed nothing, and there is room
pub roomy_so : (k : Key) (p : Pages) (one two : Pages) → false ≡ has k p.resident → one ≡ touch k p → two ≡ make_room one → two ≡ make_room p
roomy_so k p one two none touched roomy = roomy ∙ ap make_room (touched ∙ untouched k p (sym none))

pub still_absent : (k : Key) (p : Pages) (two : Pages) → false ≡ has k p.resident → two ≡ make_room p → has k two.resident ≡ false
still_absent k p two none roomy = ap (λ (q : Pages). has k q.resident) roomy ∙ absent_roomy k p (sym none)

pub saved_words : (programs : List Loaded) (c : Cache) (k : Key) (words : List ℕ) (from : Source) → CameFrom programs c (record { key = k; words = words }) from →
    IfSome (under k c.saved) (λ page. page.words ≡ words)
saved_words programs c k words Saved came = subst (λ (o : Option Page). IfSome o (λ page. page.words ≡ words)) (sym came) refl
saved_words programs c k words Own came = subst (λ (o : Option Page). IfSome o (λ page. page.words ≡ words)) (sym came.0) tt
saved_words programs c k words Rescheduled came = subst (λ (o : Option Page). IfSome o (λ page. page.words ≡ words)) (sym came.0) tt

first_in : (c : Cache) (slot : Slot) (page : Page) (rest : List Held) → c.held ≡ record { frame = slot.frame; page = page } ∷ rest → page_in c slot ≡ Some page
first_in c slot page rest e =
    ap (λ (l : List Held). option_map (λ (h : Held). h.page) (find (λ h. nat_eq h.frame slot.frame) l)) e
    ∙ ap (λ (b : Bool). option_map (λ (h : Held). h.page) (cond b (Some (record { frame = slot.frame; page = page })) (find (λ h. nat_eq h.frame slot.frame) rest))) (eq-eqb slot.frame slot.frame refl)

-- frames are kept by a search and by making room for what it didn't find
pub still_there : (old one two : Cache) → KeepFrames old.held one.held → KeepFrames one.held two.held → KeepFrames old.held two.held
still_there old one two a b = kept_twice old.held one.held two.held a b

-- what has come to be when the page is put
pub put_so : (old : Loading) (k : Key) (words : List ℕ) (two new : Cache) (slot : Slot) (from : Source) (loaded rescheduled restored : ℕ) →
    false ≡ has k (pages_of old.cache).resident → pages_of two ≡ make_room (pages_of old.cache) → KeepFrames old.cache.held two.held → IsFetched old.programs two (record { key = k; words = words }) from →
    new ≡ record two { held = record { frame = slot.frame; page = record { key = k; words = words } } ∷ two.held } → slot.frame < new.frames →
    loaded ≡ one_more old.loaded → rescheduled ≡ (if is_moved from then one_more old.rescheduled else old.rescheduled) → restored ≡ (if is_restored from then one_more old.restored else old.restored) →
    IsNeeded old (record { programs = old.programs; cache = new; loaded = loaded; rescheduled = rescheduled; restored = restored }) k slot
put_so old k words two new slot from loaded rescheduled restored none roomy still fetched is below a b c =
    let page : Page = record { key = k; words = words } in
    record {
      page = page;
      stands = first_in new slot page two.held (ap (λ (c : Cache). c.held) is);
      key = refl;
      form = fetched.form;
      paging =
          paging_as (pages_of new) (put page (pages_of two)) loaded (one_more old.loaded) rescheduled (if is_moved from then one_more old.rescheduled else old.rescheduled) restored (if is_restored from then one_more old.restored else old.restored)
          (ap pages_of is) a b c
          ∙ loaded_as old.programs page (paging_of old) two from (sym none) roomy fetched.came;
      frame = below;
      frames_stay = ap (λ (c : Cache). c.frames) is ∙ ap (λ (p : Pages). p.frames) roomy ∙ room_keeps (pages_of old.cache);
      frames =
          subst (λ (l : List Held). KeepOtherFrames k old.cache.held l) (sym (ap (λ (c : Cache). c.held) is))
          (put_beside k old.cache.held two.held (record { frame = slot.frame; page = page }) refl still);
      programs = refl;
    }
  where
    paging_as : (p q : Pages) (l m r s t u : ℕ) → p ≡ q → l ≡ m → r ≡ s → t ≡ u →
        ◌≡◌ {A = Paging} (record { pages = p; loaded = l; rescheduled = r; restored = t }) (record { pages = q; loaded = m; rescheduled = s; restored = u })
    paging_as p q l m r s t u e f g h = cc

pub put_keeps : (programs : List Loaded) (k : Key) (words : List ℕ) (two new : Cache) (slot : Slot) (from : Source) → KeepsForms programs two → IsFetched programs two (record { key = k; words = words }) from →
    new ≡ record two { held = record { frame = slot.frame; page = record { key = k; words = words } } ∷ two.held } → KeepsForms programs new
put_keeps programs k words two new slot from kept fetched is =
    subst (KeepsForms programs) (sym is) (record {
      resident = All-cons (HasForm programs) (record { key = k; words = words }) (pages_of two).resident fetched.form kept.resident;
      saved = kept.saved;
    })
