-- Contexts that share a program run one image, and find its words.
use Rattle.std.proofs.Common.{◌≡◌, ℕ, suc, ◌+◌, Bool, true, false, cond, List, [], ◌∷◌, refl, sym, ap, subst, ◌∙◌, Option, Some, None, arith}
use Rattle.std.specs.Prelude.{slice_get, option_map, not, bytes_eq, All}
use Rattle.std.specs.List.{position_or_len}
use Rattle.std.proofs.lemmas.Bool.{and_parts}
use Rattle.std.proofs.lemmas.Slice.Eq.{bytes_eq-Decides}
use Rattle.tnk_base.specs.declared.Key.{Key}
use Rattle.machine_desc.specs.Description.{Description}
use Rattle.machine_desc.specs.Same.{are_same}
use Rattle.machine_desc.proofs.SameNumbers.{same_iff}
use Rattle.image_format.specs.Image.{Image, image_in}
use Rattle.image_format.specs.Bytes.{bytes_of}
use Rattle.image_format.specs.Laws.{ReadsBack}
use Rattle.image_check.specs.Blocks.{page_of}
use Rattle.image_resched.specs.Rescheduled.{IsRescheduled}
use Rattle.image_resched.specs.Laws.{OneRescheduled}
use Rattle.paging.specs.Pages.{Page}
use Rattle.paging.proofs.Kept.{found, found_key}
use Rattle.context_system.specs.Context.{Setup, Context}
use Rattle.context_system.specs.System.{System, first, play, share_program, program_number, key_of}
use Rattle.context_system.specs.Meant.{IsReady}
use Rattle.context_system.specs.Pages.{HasItsForm, SharedRunOneImage, ContextsFindTheirWords}
use Rattle.context_system.proofs.Setups.{HasSetups, play_has, opened_have, at_place}
use Rattle.context_system.proofs.Words.{pages_keep_their_forms}

pub shared_run_one_image : ReadsBack → OneRescheduled → SharedRunOneImage
shared_run_one_image reads one s r a b h =
    let parts = and_parts (bytes_eq (bytes_of s.image) (bytes_of r.image)) (are_same s.generation r.generation) h in
    let bytes : bytes_of s.image ≡ bytes_of r.image = (bytes_eq-Decides (bytes_of s.image) (bytes_of r.image)).0 parts.0 in
    let image : s.image ≡ r.image = sym (reads s.image a.movable.accepted.written).same ∙ ap image_in bytes ∙ (reads r.image b.movable.accepted.written).same in
    let machine : s.generation ≡ r.generation = (same_iff s.generation r.generation a.movable.machine b.movable.machine).0 parts.1 in
    one r.image r.generation s.formed r.formed b.movable
    (subst (λ (g : Description). IsRescheduled r.image g s.formed) machine (subst (λ (i : Image). IsRescheduled i s.generation s.formed) image a.formed))
    b.formed

-- what stands at the first place at which a test passes passes it
first_passes : (p : Context → Bool) (xs : List Context) (y : Context) → slice_get xs (position_or_len p xs) ≡ Some y → p y ≡ true
first_passes p [] y h = absurd (let none : ⊥ = cc in none)
first_passes p (x ∷ xs) y h = go (first_passes p xs y) (p x) refl h
  where
    go : (slice_get xs (position_or_len p xs) ≡ Some y → p y ≡ true) → (b : Bool) → p x ≡ b →
        slice_get (x ∷ xs) (cond (not b) (1 + position_or_len p xs) 0) ≡ Some y → p y ≡ true
    go ih true e h = let same : x ≡ y = cc in subst (λ (z : Context). p z ≡ true) same e
    go ih false e h =
        let on : suc (position_or_len p xs) ≡ 1 + position_or_len p xs = omega arith in
        ih (ap (slice_get (x ∷ xs)) on ∙ h)

module _ (shared : SharedRunOneImage) (setups : List Setup) (ready : All IsReady setups) (s : System) (own : HasSetups setups s) where
  -- the first context that shares a context's program runs that context's image
  first_runs_it : (c : ℕ) (x : Context) (r : Setup) → slice_get s.contexts c ≡ Some x → slice_get setups (program_number s.contexts x.setup) ≡ Some r →
      r.formed ≡ x.setup.formed
  first_runs_it c x r at there = go (slice_get s.contexts (program_number s.contexts x.setup)) refl
    where
      here : slice_get setups c ≡ Some x.setup
      here = sym (own.each c) ∙ ap (option_map (λ (y : Context). y.setup)) at

      go : (o : Option Context) → slice_get s.contexts (program_number s.contexts x.setup) ≡ o → r.formed ≡ x.setup.formed
      go None e =
          let none : slice_get setups (program_number s.contexts x.setup) ≡ None =
          sym (own.each (program_number s.contexts x.setup)) ∙ ap (option_map (λ (y : Context). y.setup)) e in
          absurd (let clash : ⊥ = cc in clash)
      go (Some y) e =
          let some : slice_get setups (program_number s.contexts x.setup) ≡ Some y.setup =
          sym (own.each (program_number s.contexts x.setup)) ∙ ap (option_map (λ (y : Context). y.setup)) e in
          let same : y.setup ≡ r = cc in
          let passes : share_program y.setup x.setup ≡ true = first_passes (λ z. share_program z.setup x.setup) s.contexts y e in
          ap (λ (z : Setup). z.formed) (sym same)
          ∙ shared y.setup x.setup (at_place IsReady setups (program_number s.contexts x.setup) y.setup ready some) (at_place IsReady setups c x.setup ready here) passes

  pub finds_its_words : (c : ℕ) (x : Context) → slice_get s.contexts c ≡ Some x → (n : ℕ) (page : Page) → page.key ≡ key_of s.contexts x.setup n →
      HasItsForm setups page → page.words ≡ (page_of x.setup.formed n).words
  finds_its_words c x at n page key (r, there, is) =
      ap (λ (p : Page). p.words) is
      ∙ ap (λ (k : Key). (page_of r.formed k.page).words) key
      ∙ ap (λ (i : Image). (page_of i n).words) (first_runs_it c x r at (ap (λ (k : Key). slice_get setups k.program) (sym key) ∙ there))

pub contexts_find_their_words : SharedRunOneImage → ContextsFindTheirWords
contexts_find_their_words shared setups ready frames saved events c x at n page is =
    let s : System = play (first setups frames saved) events in
    finds_its_words shared setups ready s (play_has setups (first setups frames saved) events (record { each = opened_have setups })) c x at n page
    (found_key (key_of s.contexts x.setup n) s.paging.pages.resident page is)
    (found (HasItsForm setups) (key_of s.contexts x.setup n) s.paging.pages.resident page (pages_keep_their_forms setups frames saved events).0 is)
