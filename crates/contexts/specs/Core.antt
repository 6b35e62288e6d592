-- A core of contexts, and the system that it holds.
use Rattle.std.specs.Prelude.{ℕ, ◌≡◌, ◌<◌, List, length, map, Option, Some, slice_get, IsSomeAnd}
use Rattle.std.specs.List.{AllZip}
use Rattle.tnk_base.specs.declared.Key.{Key}
use Rattle.operation.specs.declared.End.{End}
use Rattle.machine_desc.specs.Value.{description_of}
use Rattle.image_format.specs.Image.{page_count}
use Rattle.image_resched.specs.Rescheduled.{IsRescheduled}
use Rattle.block_steps.specs.Steps.{Moment}
use Rattle.page_fault.specs.declared.Loaded.{Loaded}
use Rattle.page_fault.specs.Loading.{Loading, paging_of}
use Rattle.context_system.specs.declared.Event.{Event}
use Rattle.context_system.specs.declared.Event.TheVariants.{Turn, Evict, Drop, Prefetch}
use Rattle.context_system.specs.Context as system
use Rattle.context_system.specs.Needs.{Run, first_without}
use Rattle.context_system.specs.System.{System, program_number}
use Rattle.contexts.specs.declared.Setup.{Setup}
use Rattle.contexts.specs.declared.cores.OpenFault.{OpenFault}
use Rattle.contexts.specs.declared.cores.OpenFault.TheVariants.{NoUnit, NoMemory}

-- a context of a core: the number of its program, the entry of its present block, the moment in that block, how many of its
-- blocks have ended, its end if it has one, and its input, output limit and greatest number of blocks
pub record Seat : Type 0 where
  pub program : ℕ
  pub entry : ℕ
  pub moment : Moment
  pub blocks : ℕ
  pub end : Option End
  pub input : List ℕ
  pub limit : ℕ
  pub bound : ℕ

-- the contexts in order, and the programs with their pages: the program of the same place is that of the context's own image
pub record Contexts : Type 0 where
  pub seats : List Seat
  pub loading : Loading

-- a context of the core is one of a system's contexts
pub record IsSeated (contexts : List system.Context) (own : Loaded) (seat : Seat) (x : system.Context) : Type 0 where
  pub image : x.setup.image ≡ own.image
  pub generation : x.setup.generation ≡ description_of own.chosen
  pub formed : IsRescheduled x.setup.image x.setup.generation x.setup.formed
  pub input : x.setup.input ≡ seat.input
  pub limit : x.setup.limit ≡ seat.limit
  pub bound : x.setup.bound ≡ seat.bound
  pub number : program_number contexts x.setup ≡ seat.program
  pub entry : x.entry ≡ seat.entry
  pub moment : x.moment ≡ seat.moment
  pub blocks : x.blocks ≡ seat.blocks
  pub end : x.end ≡ seat.end

-- the core holds the system: its contexts are the system's, and so are its pages
pub record Holds (core : Contexts) (s : System) : Type 0 where
  pub seats : length core.seats ≡ length s.contexts
  pub programs : length core.loading.programs ≡ length s.contexts
  pub each : (c : ℕ) (own : Loaded) (seat : Seat) (x : system.Context) → slice_get core.loading.programs c ≡ Some own →
      slice_get core.seats c ≡ Some seat → slice_get s.contexts c ≡ Some x → IsSeated s.contexts own seat x
  pub paging : s.paging ≡ paging_of core.loading

-- a key is that of a page of a program: its number is that of the first context that runs the program
abbrev pub IsKeyOf : Contexts → Key → Type 0
IsKeyOf core k =
    IsSomeAnd (slice_get core.seats k.program) (λ seat. k.program ≡ seat.program)
    × IsSomeAnd (slice_get core.loading.programs k.program) (λ p. k.page < page_count p.image)

-- an event whose context, or whose program and page, are there
abbrev pub Admits : Contexts → Event → Type 0
Admits core (Turn c) = c < length core.seats
Admits core (Evict k) = IsKeyOf core k
Admits core (Drop k) = IsKeyOf core k
Admits core (Prefetch k) = IsKeyOf core k

-- a setup is that of the definitions: with an image in its generation
pub record IsSetup (given : Setup) (s : system.Setup) : Type 0 where
  pub image : s.image ≡ given.image
  pub generation : s.generation ≡ description_of given.chosen
  pub formed : IsRescheduled s.image s.generation s.formed
  pub input : s.input ≡ given.input.items
  pub limit : s.limit ≡ given.limit
  pub bound : s.bound ≡ given.bound

-- and so with all in order
abbrev pub AreSetups : List Setup → List system.Setup → Type 0
AreSetups given setups = AllZip IsSetup given setups

-- a core runs the images of some setups, one context each
pub record Runs (given : List Setup) (core : Contexts) : Type 0 where
  pub contexts : length core.seats ≡ length given
  pub images : map (λ (p : Loaded). p.image) core.loading.programs ≡ map (λ (s : Setup). s.image) given

-- it has as many contexts as before, and their programs
pub record RunsStill (old new : Contexts) : Type 0 where
  pub contexts : length new.seats ≡ length old.seats
  pub programs : new.loading.programs ≡ old.loading.programs

-- what a context of a setup runs
abbrev pub run_of : Setup → Run
run_of s = record { image = s.image; generation = description_of s.chosen }

-- why a core isn't opened
abbrev pub IsOpenFault : List Setup → OpenFault → Type 0
IsOpenFault setups (NoUnit c kind) = first_without 0 (map run_of setups) ≡ Some (c, kind)
IsOpenFault setups NoMemory = Unit {0}
