-- A turn of a context plays words that are resident.
use Rattle.std.proofs.Common.{◌≡◌, ℕ, zero, suc, ◌+◌, ◌*◌, ◌/◌, ◌%◌, ◌<◌, ◌≤◌, Bool, true, false, cond, List, [], ◌∷◌, ◌++◌, length, take, drop, refl, sym, ap, subst, ◌∙◌, Option, Some, None, arith}
use Rattle.std.specs.Prelude.{not, slice_get, slice_set, option_map, bytes_eq, All, if◌then◌else◌}
use Rattle.std.specs.List.{position_or_len}
use Rattle.std.proofs.lemmas.Bool.{and_from}
use Rattle.std.proofs.lemmas.Slice.Eq.{bytes_eq-Decides}
use Rattle.tnk_base.specs.declared.Key.{Key}
use Rattle.operation.specs.declared.End.{End}
use Rattle.machine_desc.specs.Same.{are_same}
use Rattle.machine_desc.proofs.SameNumbers.{same_iff}
use Rattle.serial_order.proofs.Members.{range_among}
use Rattle.block_table.specs.Rows.{entry_of, count_of}
use Rattle.timed_meaning.specs.Program.{Block, block_at}
use Rattle.image_format.specs.Image.{Image}
use Rattle.image_format.specs.Bytes.{bytes_of}
use Rattle.image_check.specs.Accepted.{IsAccepted}
use Rattle.image_check.specs.Blocks.{rows_of, page_of, row_numbers, program_in}
use Rattle.image_check.proofs.Tables.{Placed, as_many, placed_at}
use Rattle.image_check.proofs.KeptBlocks.{table}
use Rattle.image_resched.specs.Laws.{RescheduledIsAccepted}
use Rattle.image_resched.proofs.Pages.{in_page}
use Rattle.paging.specs.Pages.{Page, Pages, Paging, same_key, under, has, without, make_room, put, touch, need, one_more}
use Rattle.paging.proofs.Keys.{same_key_self, under_some}
use Rattle.paging.proofs.Kept.{found, found_key}
use Rattle.context_system.specs.declared.Event.{Event}
use Rattle.context_system.specs.declared.Event.TheVariants.{Turn}
use Rattle.context_system.specs.Context.{Setup, Context, turn}
use Rattle.context_system.specs.System.{System, first, step, play, share_program, present_key, page_in_form, runs_elsewhere, needed, paging_for_turn}
use Rattle.context_system.specs.Meant.{IsReady}
use Rattle.context_system.specs.Pages.{HasItsForm, StandsOn, SharedRunOneImage, TurnsPlayTheirPages}
use Rattle.context_system.proofs.Setups.{HasSetups, play_has, opened_have, at_place}
use Rattle.context_system.proofs.Words.{pages_keep_their_forms}
use Rattle.context_system.proofs.Blocks.{found_row}
use Rattle.context_system.proofs.Shared.{finds_its_words}

-- ---- the block that is found stands on its page

stands : (image : Image) → IsAccepted image → (entry : ℕ) (b : Block) → block_at (program_in image) entry ≡ Some b → StandsOn (page_of image (entry / 512)).words image b
stands image h entry b found =
    let r = found_row image (row_numbers image) entry b found in
    let k : ℕ = r.0 in
    let inside : k < length image.rows = range_among (length image.rows) k r.1 in
    let many = as_many image in
    let p : Placed image k = placed_at image h.written.limits (table image h) k (omega arith) in
    let e : ℕ = entry_of (rows_of image) k in
    let long = h.written.limits.words in
    let page = p.page in
    let at : e ≡ b.entry = ap (λ (c : Block). c.entry) (sym r.2) in
    let same : b.entry ≡ entry = r.3 in
    let back : 512 * (entry / 512) + b.entry % 512 ≡ e = omega arith in
    let place : b.entry % 512 ≡ e % 512 = ap (λ (n : ℕ). n % 512) (sym at) in
    let fits : b.entry % 512 + count_of (rows_of image) k ≤ 512 = let q = p.on_page in omega arith in
    let whole : 512 * (entry / 512) + 512 ≤ length image.words = let n : e / 512 ≡ entry / 512 = ap (λ (n : ℕ). n / 512) (at ∙ same) in omega arith in
    record {
      row = k;
      there = inside;
      same = r.2;
      placed = ap (λ (n : ℕ). take (count_of (rows_of image) k) (drop n image.words)) (sym back)
          ∙ sym (in_page image.words (entry / 512) (b.entry % 512) (count_of (rows_of image) k) fits whole);
    }

-- ---- the page that is needed is resident

first_here : (k : Key) (page : Page) (xs : List Page) → page.key ≡ k → under k (page ∷ xs) ≡ Some page
first_here k page xs e =
    ap (λ (b : Bool). cond b (Some page) (under k xs)) (ap (λ (j : Key). same_key page.key j) (sym e) ∙ same_key_self page.key)

touched_there : (k : Key) (p : Pages) → has k p.resident ≡ true → (page : Page) × (under k (touch k p).resident ≡ Some page)
touched_there k p h =
    let found = under_some k p.resident h in (
      found.0,
      ap (λ (o : Option Page). let q : Pages = elim o [ None ↦ p | Some page ↦ record p { resident = page ∷ without k p.resident } ] in under k q.resident) found.1
          ∙ first_here k found.0 (without k p.resident) (found_key k p.resident found.0 found.1),
    )

need_there : (form : Page) (elsewhere : Bool) (p : Paging) → (page : Page) × (under form.key (need form elsewhere p).pages.resident ≡ Some page)
need_there form elsewhere p = go (has form.key p.pages.resident) refl (under form.key (make_room p.pages).saved) refl
  where
    go : (b : Bool) → has form.key p.pages.resident ≡ b → (o : Option Page) → under form.key (make_room p.pages).saved ≡ o →
        let q : Paging = elim o [
          | Some page ↦ record p { pages = put page (make_room p.pages); loaded = one_more p.loaded; restored = one_more p.restored }
          | None ↦ record p { pages = put form (make_room p.pages); loaded = one_more p.loaded; rescheduled = if elsewhere then one_more p.rescheduled else p.rescheduled }
        ] in
        let r : Paging = cond b (record p { pages = touch form.key p.pages }) q in
        (page : Page) × (under form.key r.pages.resident ≡ Some page)
    go true e o f = touched_there form.key p.pages e
    go false e None f = (form, first_here form.key form (make_room p.pages).resident refl)
    go false e (Some page) f = (page, first_here form.key page (make_room p.pages).resident (found_key form.key (make_room p.pages).saved page f))

-- ---- a context shares its program with itself, so that its program has a first context

first_there : (p : Context → Bool) (xs : List Context) (c : ℕ) (x : Context) → slice_get xs c ≡ Some x → p x ≡ true →
    (y : Context) × (slice_get xs (position_or_len p xs) ≡ Some y)
first_there p [] c x h e = absurd (let none : ⊥ = cc in none)
first_there p (z ∷ xs) c x h e = go (λ c h. first_there p xs c x h e) (p z) refl c h
  where
    on : (y : Context) × (slice_get xs (position_or_len p xs) ≡ Some y) → (y : Context) × (slice_get (z ∷ xs) (1 + position_or_len p xs) ≡ Some y)
    on r = let more : 1 + position_or_len p xs ≡ suc (position_or_len p xs) = omega arith in (r.0, ap (slice_get (z ∷ xs)) more ∙ r.1)

    go : ((c : ℕ) → slice_get xs c ≡ Some x → (y : Context) × (slice_get xs (position_or_len p xs) ≡ Some y)) → (b : Bool) → p z ≡ b →
        (c : ℕ) → slice_get (z ∷ xs) c ≡ Some x → (y : Context) × (slice_get (z ∷ xs) (cond (not b) (1 + position_or_len p xs) 0) ≡ Some y)
    go ih true f c h = (z, refl)
    go ih false f zero h = let same : z ≡ x = cc in let passes : p z ≡ true = subst (λ (y : Context). p y ≡ true) (sym same) e in absurd (let clash : ⊥ = cc in clash)
    go ih false f (suc c) h = on (ih c h)

shares_itself : (s : Setup) → IsReady s → share_program s s ≡ true
shares_itself s ready =
    and_from (bytes_eq (bytes_of s.image) (bytes_of s.image)) (are_same s.generation s.generation)
    ((bytes_eq-Decides (bytes_of s.image) (bytes_of s.image)).1 refl)
    ((same_iff s.generation s.generation ready.movable.machine ready.movable.machine).1 refl)

-- ---- a turn

module _ (s : System) (c : ℕ) (x : Context) (at : slice_get s.contexts c ≡ Some x) (going : x.end ≡ None) where
  turn_needs : (step s (Turn c)).paging ≡ needed s.contexts (present_key s.contexts x) s.paging
  turn_needs =
      ap (λ (o : Option Context).
      let t : System = elim o [
        | None ↦ s
        | Some x ↦ record { contexts = slice_set s.contexts c (turn x); paging = paging_for_turn s.contexts x s.paging }
      ] in t.paging) at
      ∙ ap (λ (o : Option End). let p : Paging = elim o [ None ↦ needed s.contexts (present_key s.contexts x) s.paging | Some e ↦ s.paging ] in p) going

  turn_finds : IsReady x.setup → (page : Page) × (under (present_key s.contexts x) (step s (Turn c)).paging.pages.resident ≡ Some page)
  turn_finds ready =
      let k : Key = present_key s.contexts x in
      let y = first_there (λ y. share_program y.setup x.setup) s.contexts c x at (shares_itself x.setup ready) in
      let page = need_there (page_in_form y.0.setup k) (runs_elsewhere y.0.setup) s.paging in (
        page.0,
        ap (λ (p : Paging). under k p.pages.resident) turn_needs
            ∙ ap (λ (o : Option Context). let p : Paging = elim o [ None ↦ s.paging | Some x ↦ need (page_in_form x.setup k) (runs_elsewhere x.setup) s.paging ] in under k p.pages.resident) y.1
            ∙ page.1,
      )

play_append : (s : System) (es fs : List Event) → play s (es ++ fs) ≡ play (play s es) fs
play_append s [] fs = refl
play_append s (e ∷ es) fs = play_append (step s e) es fs

pub turns_play_their_pages : SharedRunOneImage → RescheduledIsAccepted → TurnsPlayTheirPages
turns_play_their_pages shared accepts setups ready frames saved events c x b at going found' =
    let s : System = play (first setups frames saved) events in
    let own : HasSetups setups s = play_has setups (first setups frames saved) events (record { each = opened_have setups }) in
    let given : slice_get setups c ≡ Some x.setup = sym (own.each c) ∙ ap (option_map (λ (y : Context). y.setup)) at in
    let fine : IsReady x.setup = at_place IsReady setups c x.setup ready given in
    let page = turn_finds s c x at going fine in
    let behind : play (first setups frames saved) (events ++ Turn c ∷ []) ≡ step s (Turn c) = play_append (first setups frames saved) events (Turn c ∷ []) in
    let good : All (HasItsForm setups) (step s (Turn c)).paging.pages.resident =
    subst (λ (t : System). All (HasItsForm setups) t.paging.pages.resident) behind (pages_keep_their_forms setups frames saved (events ++ Turn c ∷ [])).0 in
    let words : page.0.words ≡ (page_of x.setup.formed (x.entry / 512)).words =
    finds_its_words shared setups ready s own c x at (x.entry / 512) page.0
    (found_key (present_key s.contexts x) (step s (Turn c)).paging.pages.resident page.0 page.1)
    (found (HasItsForm setups) (present_key s.contexts x) (step s (Turn c)).paging.pages.resident page.0 good page.1) in (
      page.0,
      page.1,
      subst (λ (ws : List ℕ). StandsOn ws x.setup.formed b) (sym words)
          (stands x.setup.formed (accepts x.setup.image x.setup.generation x.setup.formed fine.movable fine.formed) x.entry b found'),
    )
