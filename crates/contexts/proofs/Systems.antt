-- The system that a core holds: there is one, and its programs are the core's.
use Rattle.std.proofs.Common.{◌≡◌, ℕ, zero, suc, ◌+◌, ◌<◌, Bool, true, false, cond, List, [], ◌∷◌, length, refl, sym, ap, subst, ◌∙◌, Option, Some, None, arith}
use Rattle.std.specs.Prelude.{slice_get, not, bytes_eq, All}
use Rattle.std.specs.List.{position_or_len}
use Rattle.std.proofs.lemmas.Bool.{and_parts, and_from}
use Rattle.std.proofs.lemmas.Slice.Eq.{bytes_eq-Decides}
use Rattle.std.proofs.lemmas.Option.{slice_get_within}
use Rattle.tnk_base.specs.declared.Key.{Key}
use Rattle.operation.specs.declared.End.{End}
use Rattle.machine_desc.specs.Description.{Description}
use Rattle.machine_desc.specs.Same.{are_same}
use Rattle.machine_desc.specs.Value.{description_of}
use Rattle.machine_desc.proofs.SameNumbers.{same_iff}
use Rattle.image_format.specs.Image.{Image, image_in, page_count}
use Rattle.image_format.specs.Bytes.{bytes_of}
use Rattle.image_format.specs.Laws.{ReadsBack}
use Rattle.image_check.specs.Blocks.{page_of}
use Rattle.image_resched.specs.Rescheduled.{IsRescheduled}
use Rattle.image_resched.specs.Laws.{IsMovable, OneRescheduled}
use Rattle.paging.specs.Pages.{Page, Paging, need}
use Rattle.block_steps.specs.Steps.{Moment}
use Rattle.page_fault.specs.declared.Loaded.{Loaded}
use Rattle.page_fault.specs.Loading.{Loading, HasForm, runs_elsewhere, paging_of}
use Rattle.page_fault.specs.Laws.{FormsAreOfTheImage}
use Rattle.context_system.specs.Context.{Setup, Context}
use Rattle.context_system.specs.System.{System, share_program, program_number, page_in_form, runs_elsewhere as setup_runs_elsewhere, needed}
use Rattle.context_system.specs.Meant.{IsReady}
use Rattle.contexts.specs.Core.{Seat, Contexts, IsSeated, Holds}
use Rattle.contexts.specs.Standing.{IsBrought}
use Rattle.contexts.proofs.Lists.{there_is, at_place, same_by_places}

-- ---- there is one such system

abbrev setup_with : Image → Description → Image → List ℕ → ℕ → ℕ → Setup
setup_with i g f n l b = record { image = i; generation = g; formed = f; input = n; limit = l; bound = b }

same_setup : (i j : Image) (g h : Description) (f e : Image) (n m : List ℕ) (l k b c : ℕ) → i ≡ j → g ≡ h → f ≡ e → n ≡ m → l ≡ k → b ≡ c →
    setup_with i g f n l b ≡ setup_with j h e m k c
same_setup i j g h f e n m l k b c p q r s t u = cc

abbrev context_with : Setup → ℕ → Moment → ℕ → Option End → Context
context_with s e m b o = record { setup = s; entry = e; moment = m; blocks = b; end = o }

same_context_with : (s t : Setup) (e f : ℕ) (m n : Moment) (b c : ℕ) (o p : Option End) → s ≡ t → e ≡ f → m ≡ n → b ≡ c → o ≡ p →
    context_with s e m b o ≡ context_with t f n c p
same_context_with s t e f m n b c o p h i j k l = cc

abbrev system_with : List Context → Paging → System
system_with xs p = record { contexts = xs; paging = p }

same_system : (xs ys : List Context) (p q : Paging) → xs ≡ ys → p ≡ q → system_with xs p ≡ system_with ys q
same_system xs ys p q e f = cc

same_context : OneRescheduled → (xs ys : List Context) (own : Loaded) (seat : Seat) (x y : Context) → IsSeated xs own seat x → IsSeated ys own seat y → IsReady y.setup → x ≡ y
same_context one xs ys own seat x y a b ready =
    let image : x.setup.image ≡ y.setup.image = a.image ∙ sym b.image in
    let machine : x.setup.generation ≡ y.setup.generation = a.generation ∙ sym b.generation in
    let formed : x.setup.formed ≡ y.setup.formed =
    one y.setup.image y.setup.generation x.setup.formed y.setup.formed ready.movable
    (subst (λ (g : Description). IsRescheduled y.setup.image g x.setup.formed) machine
    (subst (λ (i : Image). IsRescheduled i x.setup.generation x.setup.formed) image a.formed))
    b.formed in
    same_context_with x.setup y.setup x.entry y.entry x.moment y.moment x.blocks y.blocks x.end y.end
    (same_setup x.setup.image y.setup.image x.setup.generation y.setup.generation x.setup.formed y.setup.formed x.setup.input y.setup.input
    x.setup.limit y.setup.limit x.setup.bound y.setup.bound image machine formed (a.input ∙ sym b.input) (a.limit ∙ sym b.limit) (a.bound ∙ sym b.bound))
    (a.entry ∙ sym b.entry) (a.moment ∙ sym b.moment) (a.blocks ∙ sym b.blocks) (a.end ∙ sym b.end)

pub one_system : OneRescheduled → (core : Contexts) (s t : System) → Holds core s → Holds core t → All (λ x. IsReady x.setup) t.contexts → s ≡ t
one_system one core s t a b ready =
    same_system s.contexts t.contexts s.paging t.paging
    (same_by_places s.contexts t.contexts (sym a.seats ∙ b.seats) (λ c x y at there.
    let within : c < length t.contexts = slice_get_within t.contexts c y there in
    let m = a.seats in
    let n = b.seats in
    let p = b.programs in
    let seat = there_is core.seats c (omega arith) in
    let own = there_is core.loading.programs c (omega arith) in
    same_context one s.contexts t.contexts own.0 seat.0 x y (a.each c own.0 seat.0 x own.1 seat.1 at) (b.each c own.0 seat.0 y own.1 seat.1 there)
    (at_place (λ (x : Context). IsReady x.setup) t.contexts c y ready there)))
    (a.paging ∙ sym b.paging)

-- ---- a context's program is the one of its number

pub shares_itself : (s : Setup) → IsMovable s.image s.generation → share_program s s ≡ true
shares_itself s m =
    and_from (bytes_eq (bytes_of s.image) (bytes_of s.image)) (are_same s.generation s.generation)
    ((bytes_eq-Decides (bytes_of s.image) (bytes_of s.image)).1 refl)
    ((same_iff s.generation s.generation m.machine m.machine).1 refl)

first_there : (p : Context → Bool) (xs : List Context) (c : ℕ) (x : Context) → slice_get xs c ≡ Some x → p x ≡ true →
    (y : Context) × (slice_get xs (position_or_len p xs) ≡ Some y) × (p y ≡ true)
first_there p [] c x h e = absurd (let none : ⊥ = cc in none)
first_there p (z ∷ xs) c x h e = go (λ c h. first_there p xs c x h e) (p z) refl c h
  where
    on : (y : Context) × (slice_get xs (position_or_len p xs) ≡ Some y) × (p y ≡ true) →
        (y : Context) × (slice_get (z ∷ xs) (1 + position_or_len p xs) ≡ Some y) × (p y ≡ true)
    on r = let more : 1 + position_or_len p xs ≡ suc (position_or_len p xs) = omega arith in (r.0, ap (slice_get (z ∷ xs)) more ∙ r.1, r.2)

    go : ((c : ℕ) → slice_get xs c ≡ Some x → (y : Context) × (slice_get xs (position_or_len p xs) ≡ Some y) × (p y ≡ true)) → (b : Bool) → p z ≡ b →
        (c : ℕ) → slice_get (z ∷ xs) c ≡ Some x → (y : Context) × (slice_get (z ∷ xs) (cond (not b) (1 + position_or_len p xs) 0) ≡ Some y) × (p y ≡ true)
    go ih true f c h = (z, refl, f)
    go ih false f zero h = let same : z ≡ x = cc in let passes : p z ≡ true = subst (λ (y : Context). p y ≡ true) (sym same) e in absurd (let clash : ⊥ = cc in clash)
    go ih false f (suc c) h = on (ih c h)

-- contexts that share a program have one image and one generation
pub shared_image : ReadsBack → (s r : Setup) → IsMovable s.image s.generation → IsMovable r.image r.generation → share_program s r ≡ true →
    (s.image ≡ r.image) × (s.generation ≡ r.generation)
shared_image reads s r a b h =
    let parts = and_parts (bytes_eq (bytes_of s.image) (bytes_of r.image)) (are_same s.generation r.generation) h in
    let bytes : bytes_of s.image ≡ bytes_of r.image = (bytes_eq-Decides (bytes_of s.image) (bytes_of r.image)).0 parts.0 in (
      sym (reads s.image a.accepted.written).same ∙ ap image_in bytes ∙ (reads r.image b.accepted.written).same,
      (same_iff s.generation r.generation a.machine b.machine).0 parts.1,
    )

-- the program of a number is that of a context's image in its generation
pub record Runs (core : Contexts) (s : System) (x : Context) (n : ℕ) : Type 0 where
  pub own : Loaded
  pub there : slice_get core.loading.programs n ≡ Some own
  pub first : Context
  pub here : slice_get s.contexts n ≡ Some first
  pub image : own.image ≡ x.setup.image
  pub generation : description_of own.chosen ≡ x.setup.generation

module _ (core : Contexts) (s : System) (h : Holds core s) where
  -- of each context there is the seat and the program
  pub seat_at : (c : ℕ) (x : Context) → slice_get s.contexts c ≡ Some x → (seat : Seat) × (slice_get core.seats c ≡ Some seat)
  seat_at c x at = let m = h.seats in let within : c < length s.contexts = slice_get_within s.contexts c x at in there_is core.seats c (omega arith)

  pub own_at : (c : ℕ) (x : Context) → slice_get s.contexts c ≡ Some x → (own : Loaded) × (slice_get core.loading.programs c ≡ Some own)
  own_at c x at = let m = h.programs in let within : c < length s.contexts = slice_get_within s.contexts c x at in there_is core.loading.programs c (omega arith)

  pub context_at : (c : ℕ) → c < length core.seats → (x : Context) × (slice_get s.contexts c ≡ Some x)
  context_at c below = let m = h.seats in there_is s.contexts c (omega arith)

  pub seated_at : (c : ℕ) (own : Loaded) (x : Context) → slice_get core.loading.programs c ≡ Some own → slice_get s.contexts c ≡ Some x →
      (x.setup.image ≡ own.image) × (x.setup.generation ≡ description_of own.chosen)
  seated_at c own x there at =
      let seat = seat_at c x at in
      let d = h.each c own seat.0 x there seat.1 at in (d.image, d.generation)

  pub runs : ReadsBack → All (λ x. IsReady x.setup) s.contexts → (c : ℕ) (x : Context) → slice_get s.contexts c ≡ Some x →
      Runs core s x (program_number s.contexts x.setup)
  runs reads ready c x at =
      let fine = at_place (λ (x : Context). IsReady x.setup) s.contexts c x ready at in
      let y = first_there (λ y. share_program y.setup x.setup) s.contexts c x at (shares_itself x.setup fine.movable) in
      let ok = at_place (λ (x : Context). IsReady x.setup) s.contexts (program_number s.contexts x.setup) y.0 ready y.1 in
      let same = shared_image reads y.0.setup x.setup ok.movable fine.movable y.2 in
      let own = own_at (program_number s.contexts x.setup) y.0 y.1 in
      let d = seated_at (program_number s.contexts x.setup) own.0 y.0 own.1 y.1 in
      record {
        own = own.0;
        there = own.1;
        first = y.0;
        here = y.1;
        image = sym d.0 ∙ same.0;
        generation = sym d.1 ∙ same.1;
      }

  -- ---- the pages when a key was brought are those when the system needs it

  form_is : FormsAreOfTheImage → (k : Key) (own : Loaded) (y : Context) (page : Page) → slice_get core.loading.programs k.program ≡ Some own → slice_get s.contexts k.program ≡ Some y →
      IsReady y.setup → k.page < page_count own.image → page.key ≡ k → HasForm core.loading.programs page → page ≡ page_in_form y.setup k
  form_is forms k own y page there at ready has key form =
      let d = seated_at k.program own y there at in
      let moves : IsMovable own.image (description_of own.chosen) =
      subst (λ (g : Description). IsMovable own.image g) d.1 (subst (λ (i : Image). IsMovable i y.setup.generation) d.0 ready.movable) in
      let formed : IsRescheduled own.image (description_of own.chosen) y.setup.formed =
      subst (λ (g : Description). IsRescheduled own.image g y.setup.formed) d.1 (subst (λ (i : Image). IsRescheduled i y.setup.generation y.setup.formed) d.0 ready.formed) in
      let words : page.words ≡ (page_of y.setup.formed page.key.page).words =
      forms core.loading.programs page own y.setup.formed form (ap (λ (j : Key). slice_get core.loading.programs j.program) key ∙ there)
      (subst (λ (j : Key). j.page < page_count own.image) (sym key) has) moves formed in
      same_page page.key k page.words (page_of y.setup.formed k.page).words key (words ∙ ap (λ (j : Key). (page_of y.setup.formed j.page).words) key)
    where
      same_page : (j k : Key) (v w : List ℕ) → j ≡ k → v ≡ w → let p : Page = record { key = j; words = v } in let q : Page = record { key = k; words = w } in p ≡ q
      same_page j k v w e f = cc

  pub needed_is : FormsAreOfTheImage → All (λ x. IsReady x.setup) s.contexts → (k : Key) (own : Loaded) (y : Context) (new : Loading) →
      slice_get core.loading.programs k.program ≡ Some own → slice_get s.contexts k.program ≡ Some y → k.page < page_count own.image →
      IsBrought core.loading new k → needed s.contexts k s.paging ≡ paging_of new
  needed_is forms ready k own y new there at has b =
      let ok = at_place (λ (x : Context). IsReady x.setup) s.contexts k.program y ready at in
      let d = seated_at k.program own y there at in
      let page : b.page ≡ page_in_form y.setup k = form_is forms k own y b.page there at ok has b.key b.form in
      let elsewhere : runs_elsewhere core.loading.programs k ≡ setup_runs_elsewhere y.setup =
      ap (λ (o : Option Loaded). let t : Bool = elim o [ None ↦ false | Some p ↦ not (are_same p.image.description (description_of p.chosen)) ] in t) there
      ∙ ap (λ (i : Image). not (are_same i.description (description_of own.chosen))) (sym d.0)
      ∙ ap (λ (g : Description). not (are_same y.setup.image.description g)) (sym d.1) in
      ap (λ (o : Option Context). let p : Paging = elim o [ None ↦ s.paging | Some x ↦ need (page_in_form x.setup k) (setup_runs_elsewhere x.setup) s.paging ] in p) at
      ∙ ap (λ (p : Page). need p (setup_runs_elsewhere y.setup) s.paging) (sym page)
      ∙ ap (λ (t : Bool). need b.page t s.paging) (sym elsewhere)
      ∙ ap (need b.page (runs_elsewhere core.loading.programs k)) h.paging
      ∙ sym b.paging
