-- For contracts within the crate. How a context stands in a block, and the operations of the pages in frames.
use Rattle.std.specs.Prelude.{ℕ, ◌≡◌, ◌<◌, ◌≤◌, ◌/◌, ◌%◌, List, length, Option, Some, None, All, slice_get, slice_index, take, drop, map, false}
use Rattle.tnk_base.specs.declared.Key.{Key}
use Rattle.machine_desc.specs.Value.{description_of}
use Rattle.block_table.specs.Rows.{Rows, entry_of, count_of}
use Rattle.timed_meaning.specs.declared.TimedOp.{TimedOp}
use Rattle.timed_meaning.specs.Program.{Block}
use Rattle.image_check.specs.Accepted.{IsAccepted}
use Rattle.image_check.specs.Blocks.{rows_of, page_of, entry_behind, timed_block}
use Rattle.paging.specs.Pages.{Page, need}
use Rattle.block_ops.specs.Page.{ArePageOps}
use Rattle.block_steps.specs.Steps.{at_entry}
use Rattle.cycle_sim.specs.Machine.{block_of_ops, start_state, IsReady}
use Rattle.page_fault.specs.declared.Loaded.{Loaded}
use Rattle.page_fault.specs.Loading.{Loading, HasForm, runs_elsewhere, paging_of}
use Rattle.context_system.specs.Context as system
use Rattle.context_system.specs.System.{System}
use Rattle.context_system.specs.Meant as meant
use Rattle.contexts.specs.declared.Setup.{Setup}
use Rattle.contexts.specs.declared.seat.Place.{Place}
use Rattle.contexts.specs.declared.seat.Seat as code
use Rattle.contexts.specs.declared.pages.Operations.{Operations}
use Rattle.contexts.specs.Core.{Seat, Contexts, Holds}

-- the operations that were read of the page in a frame, by places, and the cycles in which its blocks end; None where none were
pub record Read : Type 0 where
  pub key : Option Key
  pub ops : List TimedOp
  pub ends : List ℕ

-- the operations are those of the page of a key, in the form in which its program runs
pub record AreOf (programs : List Loaded) (k : Key) (r : Read) : Type 0 where
  pub page : Page
  pub key : page.key ≡ k
  pub form : HasForm programs page
  pub program : Loaded
  pub there : slice_get programs k.program ≡ Some program
  pub ops : ArePageOps (description_of program.chosen) (page_of program.image k.page) page.words r.ops r.ends

-- so it is in each frame of which operations were read
abbrev pub AreRead : List Loaded → List Read → Type 0
AreRead programs reads = All (λ r. (k : Key) → r.key ≡ Some k → AreOf programs k r) reads

-- the frame's operations as its contract sees them
abbrev pub read_of : Operations → Read
read_of frame = record { key = frame.key; ops = frame.ops; ends = frame.ends }

-- the page of a key was brought into a frame: the lists and counts are those of its need, in its form
pub record IsBrought (old new : Loading) (k : Key) : Type 0 where
  pub page : Page
  pub key : page.key ≡ k
  pub form : HasForm old.programs page
  pub paging : paging_of new ≡ need page (runs_elsewhere old.programs k) (paging_of old)
  pub programs : new.programs ≡ old.programs

-- where the block of a row stands
pub record IsPlace (rows : Rows) (place : Place) : Type 0 where
  pub row : ℕ
  pub there : row < length rows
  pub entry : place.entry ≡ entry_of rows row
  pub count : place.count ≡ count_of rows row
  pub next : place.next ≡ entry_behind rows row

-- the block that stands at a place, by the operations of its page
abbrev pub block_in_frame : Place → Read → Block
block_in_frame place r =
    let start = place.entry % 512 in
    block_of_ops place.entry (take place.count (drop start r.ops)) (slice_index r.ends start) place.next

-- a context of the core as its contract sees it
abbrev pub seat_of : code.Seat → Seat
seat_of seat = record {
  program = seat.program;
  entry = seat.place.entry;
  moment = seat.machine.moment;
  blocks = seat.blocks;
  end = seat.end;
  input = seat.machine.input;
  limit = seat.machine.limit;
  bound = seat.bound;
}

-- the key of the page on which a context's present block stands
abbrev pub key_at : code.Seat → Key
key_at seat = record { program = seat.program; page = seat.place.entry / 512 }

-- a context stands in a block of its image, and its machine is ready for the MultiOp at a place
pub record StandsIn (seat : code.Seat) (x : system.Context) : Type 0 where
  pub place : IsPlace (rows_of x.setup.image) seat.place
  pub running : seat.machine.stopped ≡ false
  pub ready : IsReady (timed_block x.setup.formed place.row) seat.at seat.machine.moment
  pub below : seat.blocks < seat.bound

-- a context of a setup, whose image is accepted, stands at its start, and a program is that of the setup
pub record IsBegun (given : Setup) (seat : code.Seat) (p : Loaded) : Type 0 where
  pub accepted : IsAccepted given.image
  pub place : IsPlace (rows_of given.image) seat.place
  pub entry : seat.place.entry ≡ given.image.entry
  pub first : seat.at ≡ 0
  pub moment : seat.machine.moment ≡ at_entry (start_state given.image.memory given.image.init) 0
  pub running : seat.machine.stopped ≡ false
  pub input : seat.machine.input ≡ given.input.items
  pub limit : seat.machine.limit ≡ given.limit
  pub blocks : seat.blocks ≡ 0
  pub bound : seat.bound ≡ given.bound
  pub end : seat.end ≡ None
  pub image : p.image ≡ given.image
  pub chosen : p.chosen ≡ given.chosen

-- two programs are the same: they have one image, in one generation
pub record AreSame (p q : Loaded) : Type 0 where
  pub image : p.image ≡ q.image
  pub generation : description_of p.chosen ≡ description_of q.chosen

-- the number of the first of some programs that is the same as one, or how many there are
pub record IsFirstSame (programs : List Loaded) (p : Loaded) (n : ℕ) : Type 0 where
  pub within : n ≤ length programs
  pub same : (q : Loaded) → slice_get programs n ≡ Some q → AreSame q p
  pub first : (m : ℕ) (q : Loaded) → m < n → slice_get programs m ≡ Some q → AreSame q p → ⊥

-- the contexts of some setups stand at their starts, in order, and the program of each is the first that is the same as its own
pub record AreBegun (setups : List Setup) (seats : List code.Seat) (programs : List Loaded) : Type 0 where
  pub as_many : length seats ≡ length setups
  pub own : length programs ≡ length setups
  pub each : (c : ℕ) (given : Setup) (seat : code.Seat) (p : Loaded) → slice_get setups c ≡ Some given → slice_get seats c ≡ Some seat →
      slice_get programs c ≡ Some p → IsBegun given seat p × IsFirstSame programs p seat.program

-- the contexts of a core and its programs
abbrev pub contexts_of : List code.Seat → Loading → Contexts
contexts_of seats loading = record { seats = map seat_of seats; loading = loading }

-- what a core keeps: it holds a system of at most eight contexts whose setups are ready, each context that hasn't ended stands in
-- a block, and the operations of its frames are those of its programs
pub record IsCore (seats : List code.Seat) (loading : Loading) (reads : List Read) : Type 0 where
  pub held : System
  pub holds : Holds (contexts_of seats loading) held
  pub few : length seats ≤ 8
  pub ready : All (λ x. meant.IsReady x.setup) held.contexts
  pub standing : (c : ℕ) (seat : code.Seat) (x : system.Context) → slice_get seats c ≡ Some seat → slice_get held.contexts c ≡ Some x →
      x.end ≡ None → StandsIn seat x
  pub read : AreRead loading.programs reads
  pub frames : length reads ≡ loading.cache.frames
