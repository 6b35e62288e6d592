-- What happens to pages alone is the system's.
use Rattle.std.proofs.Common.{◌≡◌, ◌<◌, ℕ, List, length, refl, sym, ap, subst, ◌∙◌, Option, Some, None}
use Rattle.std.specs.Prelude.{slice_get, IfSome, IsSomeAnd}
use Rattle.std.proofs.lemmas.Option.{slice_get_within}
use Rattle.tnk_base.specs.declared.Key.{Key}
use Rattle.image_format.specs.Image.{Image, page_count}
use Rattle.paging.specs.Pages.{Paging, evict, drop_saved}
use Rattle.page_cache.specs.Cache.{pages_of}
use Rattle.page_fault.specs.declared.Loaded.{Loaded}
use Rattle.page_fault.specs.Loading.{Loading, IsThere, paging_of}
use Rattle.page_fault.specs.Laws.{FormsAreOfTheImage}
use Rattle.context_system.specs.declared.Event.TheVariants.{Evict, Drop, Prefetch}
use Rattle.context_system.specs.System.{System, step, program_number, IsKeyOf as IsKeyIn}
use Rattle.contexts.specs.declared.seat.Seat.{Seat}
use Rattle.contexts.specs.Core.{Contexts, Holds, IsKeyOf}
use Rattle.contexts.specs.Standing.{Read, AreRead, IsBrought, IsCore, contexts_of}
use Rattle.contexts.proofs.Systems.{context_at, seat_at, own_at, needed_is}
use Rattle.contexts.proofs.Turned.{Turned}

-- ---- keys

pub some_and : {T : Type 0} (o : Option T) (P : T → Type 0) → IsSomeAnd o P → (x : T) × (o ≡ Some x) × P x
some_and None P h = elim h [ ]
some_and (Some x) P h = (x, refl, h)

pub from_some : {T : Type 0} (o : Option T) (P : T → Type 0) (x : T) → o ≡ Some x → P x → IsSomeAnd o P
from_some o P x e h = subst (λ (p : Option _). IsSomeAnd p P) (sym e) h

pub is_there : (core : Contexts) (k : Key) → IsKeyOf core k → IsThere core.loading.programs k
is_there core k h =
    let own = some_and (slice_get core.loading.programs k.program) (λ p. k.page < page_count p.image) h.1 in (
      slice_get_within core.loading.programs k.program own.0 own.1,
      subst (λ (o : Option Loaded). IfSome o (λ p. k.page < page_count p.image)) (sym own.1) own.2,
    )

-- a key of the core is one of the system that it holds
pub key_in : (core : Contexts) (s : System) (k : Key) → Holds core s → IsKeyOf core k → IsKeyIn s.contexts k
key_in core s k h key =
    let seat = some_and (slice_get core.seats k.program) (λ seat. k.program ≡ seat.program) key.0 in
    let own = some_and (slice_get core.loading.programs k.program) (λ p. k.page < page_count p.image) key.1 in
    let x = context_at core s h k.program (slice_get_within core.seats k.program seat.0 seat.1) in
    let d = h.each k.program own.0 seat.0 x.0 own.1 seat.1 x.1 in
    from_some (slice_get s.contexts k.program) _ x.0 x.1
    (same_key k.program (program_number s.contexts x.0.setup) k.page (seat.2 ∙ sym d.number), subst (λ (i : Image). k.page < page_count i) (sym d.image) own.2)
  where
    same_key : (a b n : ℕ) → a ≡ b → let j : Key = record { program = a; page = n } in let k : Key = record { program = b; page = n } in j ≡ k
    same_key a b n e = cc

pub key_of_core : (core : Contexts) (s : System) (k : Key) → Holds core s → IsKeyIn s.contexts k → IsKeyOf core k
key_of_core core s k h key =
    let x = some_and (slice_get s.contexts k.program) _ key in
    let seat = seat_at core s h k.program x.0 x.1 in
    let own = own_at core s h k.program x.0 x.1 in
    let d = h.each k.program own.0 seat.0 x.0 own.1 seat.1 x.1 in (
      from_some (slice_get core.seats k.program) (λ seat. k.program ≡ seat.program) seat.0 seat.1 (ap (λ (j : Key). j.program) x.2.0 ∙ d.number),
      from_some (slice_get core.loading.programs k.program) (λ p. k.page < page_count p.image) own.0 own.1
          (subst (λ (i : Image). k.page < page_count i) d.image x.2.1),
    )

-- ---- events

module _ (seats : List Seat) (loading : Loading) (reads : List Read) (core : IsCore seats loading reads) (loading' : Loading) (reads' : List Read)
    (same : loading'.programs ≡ loading.programs) (read : AreRead loading'.programs reads') (frames : length reads' ≡ loading'.cache.frames) where
  abbrev with_pages : System
  with_pages = record core.held { paging = paging_of loading' }

  holds_on : Holds (contexts_of seats loading') with_pages
  holds_on = record {
    seats = core.holds.seats;
    programs = ap length same ∙ core.holds.programs;
    each = λ c own seat x a e g. core.holds.each c own seat x (ap (λ (ps : List Loaded). slice_get ps c) (sym same) ∙ a) e g;
    paging = refl;
  }

  -- the core with other pages holds the system with them
  paged : Turned seats loading' reads' with_pages
  paged = record {
    holds = holds_on;
    core = record { held = with_pages; holds = holds_on; few = core.few; ready = core.ready; standing = core.standing; read = read; frames = frames };
  }

  pub paged_by : (t : System) → t ≡ record core.held { paging = paging_of loading' } → Turned seats loading' reads' t
  paged_by t e = subst (Turned seats loading' reads') (sym e) paged

module _ (seats : List Seat) (loading : Loading) (reads : List Read) (core : IsCore seats loading reads) (k : Key) (loading' : Loading) where
  abbrev with : Paging → System
  with p = record core.held { paging = p }

  pub evicted : paging_of loading' ≡ record (paging_of loading) { pages = evict k (pages_of loading.cache) } → loading'.cache.frames ≡ loading.cache.frames →
      loading'.programs ≡ loading.programs → Turned seats loading' reads (step core.held (Evict k))
  evicted e frames same =
      paged_by seats loading reads core loading' reads same (subst (λ (ps : List Loaded). AreRead ps reads) (sym same) core.read) (core.frames ∙ sym frames)
      (step core.held (Evict k))
      (ap (λ (p : Paging). with (record p { pages = evict k p.pages })) core.holds.paging ∙ ap with (sym e))

  pub dropped : paging_of loading' ≡ record (paging_of loading) { pages = drop_saved k (pages_of loading.cache) } →
      loading'.programs ≡ loading.programs → Turned seats loading' reads (step core.held (Drop k))
  dropped e same =
      let frames : loading'.cache.frames ≡ loading.cache.frames = ap (λ (p : Paging). p.pages.frames) e in
      paged_by seats loading reads core loading' reads same (subst (λ (ps : List Loaded). AreRead ps reads) (sym same) core.read) (core.frames ∙ sym frames)
      (step core.held (Drop k))
      (ap (λ (p : Paging). with (record p { pages = drop_saved k p.pages })) core.holds.paging ∙ ap with (sym e))

  pub prefetched : FormsAreOfTheImage → (reads' : List Read) → IsKeyOf (contexts_of seats loading) k → IsBrought loading loading' k → AreRead loading'.programs reads' →
      length reads' ≡ loading'.cache.frames → Turned seats loading' reads' (step core.held (Prefetch k))
  prefetched forms reads' key brought read frames =
      let own = some_and (slice_get loading.programs k.program) (λ p. k.page < page_count p.image) key.1 in
      let seat = some_and (slice_get (contexts_of seats loading).seats k.program) (λ seat. k.program ≡ seat.program) key.0 in
      let x = context_at (contexts_of seats loading) core.held core.holds k.program (slice_get_within (contexts_of seats loading).seats k.program seat.0 seat.1) in
      paged_by seats loading reads core loading' reads' brought.programs read frames (step core.held (Prefetch k))
      (ap with (needed_is (contexts_of seats loading) core.held core.holds forms core.ready k own.0 x.0 loading' own.1 x.1 own.2 brought))
