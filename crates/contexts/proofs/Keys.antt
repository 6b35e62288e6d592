-- The keys of a context's pages are those of its program.
use Rattle.std.proofs.lemmas.Option.{slice_get_within}
use Rattle.std.proofs.Common.{◌≡◌, ◌<◌, ℕ, ◌&&◌, sym, ap, subst, ◌∙◌, List, Some}
use Rattle.std.specs.Prelude.{slice_get, bytes_eq}
use Rattle.std.specs.List.{position_or_len}
use Rattle.tnk_base.specs.declared.Key.{Key}
use Rattle.machine_desc.specs.Description.{Description}
use Rattle.machine_desc.specs.Same.{are_same}
use Rattle.image_format.specs.Image.{Image, page_count}
use Rattle.image_format.specs.Bytes.{bytes_of}
use Rattle.image_format.specs.Laws.{ReadsBack}
use Rattle.page_fault.specs.declared.Loaded.{Loaded}
use Rattle.page_fault.specs.Loading.{Loading}
use Rattle.context_system.specs.Context.{Setup, Context}
use Rattle.context_system.specs.System.{program_number}
use Rattle.contexts.specs.declared.seat.Seat as code
use Rattle.contexts.specs.Core.{Seat, IsKeyOf}
use Rattle.contexts.specs.Standing.{Read, IsCore, contexts_of}
use Rattle.contexts.proofs.Paged.{from_some}
use Rattle.contexts.proofs.Systems.{seat_at, context_at, runs}

-- programs of one image in one generation have one number
same_number : (xs : List Context) (s r : Setup) → s.image ≡ r.image → s.generation ≡ r.generation → program_number xs s ≡ program_number xs r
same_number xs s r image generation =
    ap (λ (i : Image). position_or_len (λ (y : Context). bytes_eq (bytes_of y.setup.image) (bytes_of i) && are_same y.setup.generation s.generation) xs) image
    ∙ ap (λ (g : Description). position_or_len (λ (y : Context). bytes_eq (bytes_of y.setup.image) (bytes_of r.image) && are_same y.setup.generation g) xs) generation

pub key_is_there : ReadsBack → (seats : List code.Seat) (loading : Loading) (reads : List Read) → IsCore seats loading reads →
    (c : ℕ) (seat : Seat) (own : Loaded) (k : Key) → slice_get (contexts_of seats loading).seats c ≡ Some seat → slice_get loading.programs c ≡ Some own →
    k.program ≡ seat.program → k.page < page_count own.image → IsKeyOf (contexts_of seats loading) k
key_is_there reads_back seats loading reads core c seat own k at there program page =
    let held = core.holds in
    let all = contexts_of seats loading in
    let x = context_at all core.held held c (slice_get_within all.seats c seat at) in
    let d = held.each c own seat x.0 there at x.1 in
    let r = runs all core.held held reads_back core.ready c x.0 x.1 in
    let n : program_number core.held.contexts x.0.setup ≡ k.program = d.number ∙ sym program in
    let first = seat_at all core.held held (program_number core.held.contexts x.0.setup) r.first r.here in
    let e = held.each (program_number core.held.contexts x.0.setup) r.own first.0 r.first r.there first.1 r.here in
    let number : first.0.program ≡ k.program =
    sym e.number ∙ same_number core.held.contexts r.first.setup x.0.setup (e.image ∙ r.image) (e.generation ∙ r.generation) ∙ n in
    let same : own.image ≡ r.own.image = sym d.image ∙ sym r.image in (
      from_some (slice_get all.seats k.program) (λ (s : Seat). k.program ≡ s.program) first.0
          (subst (λ (m : ℕ). slice_get all.seats m ≡ Some first.0) n first.1) (sym number),
      from_some (slice_get loading.programs k.program) (λ (p : Loaded). k.page < page_count p.image) r.own
          (subst (λ (m : ℕ). slice_get loading.programs m ≡ Some r.own) n r.there) (subst (λ (i : Image). k.page < page_count i) same page),
    )
