-- For contracts within the crate. How a context goes on behind a MultiOp of its present block.
use Rattle.std.specs.Prelude.{ℕ, ◌≡◌, ◌<◌, ◌+◌, List, Some, None, true, false, Bool, slice_get}
use Rattle.operation.specs.declared.End.{End}
use Rattle.operation.specs.declared.End.TheVariants as end
use Rattle.operation.specs.declared.TrapKind.TheVariants.{BadTarget}
use Rattle.machine_desc.specs.Value.{description_of}
use Rattle.image_format.specs.Image.{Image}
use Rattle.image_check.specs.Blocks.{rows_of, timed_block}
use Rattle.image_resched.specs.Rescheduled.{IsRescheduled}
use Rattle.image_resched.specs.Laws.{IsMovable}
use Rattle.page_fault.specs.declared.Loaded.{Loaded}
use Rattle.block_table.specs.Rows.{Rows}
use Rattle.block_table.specs.Rules.{has_entry}
use Rattle.timed_meaning.specs.Program.{Block}
use Rattle.block_steps.specs.Steps.{step}
use Rattle.cycle_sim.specs.Machine.{told, has_stopped, IsReady, StandsBehind}
use Rattle.cycle_sim.specs.declared.Issued.{Issued}
use Rattle.cycle_sim.specs.declared.Issued.TheVariants as issued
use Rattle.context_system.specs.Context.{end_by_bound}
use Rattle.contexts.specs.declared.seat.Seat.{Seat}
use Rattle.contexts.specs.Standing.{IsPlace}

-- its MultiOp has issued, as the step of a block, and all else of it stands
pub record HasIssued (b : Block) (old new : Seat) (out : Issued) : Type 0 where
  pub machine : new ≡ record old { machine = new.machine }
  pub input : new.machine.input ≡ old.machine.input
  pub limit : new.machine.limit ≡ old.machine.limit
  pub moment : new.machine.moment ≡ (step old.machine.input old.machine.limit b old.machine.moment).0
  pub answer : out ≡ told b (step old.machine.input old.machine.limit b old.machine.moment)
  pub stands : StandsBehind b out new.machine.moment
  pub stopped : new.machine.stopped ≡ has_stopped out

-- it has its program, its machine and its bound still
pub record Keeps (old new : Seat) : Type 0 where
  pub program : new.program ≡ old.program
  pub machine : new.machine ≡ old.machine
  pub bound : new.bound ≡ old.bound

-- it stands at the first MultiOp of the block with an entry, or has ended by its bound there
pub record Enters (rows : Rows) (to : ℕ) (old new : Seat) : Type 0 where
  pub kept : Keeps old new
  pub place : IsPlace rows new.place
  pub entry : new.place.entry ≡ to
  pub first : new.at ≡ 0
  pub blocks : new.blocks ≡ old.blocks + 1
  pub end : new.end ≡ end_by_bound old.bound (old.blocks + 1)

-- it has ended, where so many more of its blocks have
pub record Ends (e : End) (more : ℕ) (old new : Seat) : Type 0 where
  pub kept : Keeps old new
  pub place : new.place ≡ old.place
  pub blocks : new.blocks ≡ old.blocks + more
  pub end : new.end ≡ Some e

-- behind a block it goes to an address: to the block there, or it has trapped
abbrev pub GoesTo : Rows → Bool → ℕ → Seat → Seat → Type 0
GoesTo rows true to old new = Enters rows to old new
GoesTo rows false to old new = Ends (end.Trapped (record { kind = BadTarget; block = old.place.entry; detail = to })) 1 old new

-- it goes on by how the MultiOp came out
abbrev pub GoesOn : Rows → Issued → Seat → Seat → Type 0
GoesOn rows (issued.Going at) old new = new ≡ record old { at = at }
GoesOn rows (issued.BlockEnd to) old new = GoesTo rows (has_entry rows to) to old new
GoesOn rows (issued.Halted code) old new = Ends (end.Halted code) 1 old new
GoesOn rows (issued.Trapped k t) old new =
    Ends (end.Trapped (record { kind = t.kind; block = old.place.entry; detail = t.detail })) 0 old new

-- a context plays the next MultiOp of a block: it issues, and the context goes on
pub record HasPlayed (rows : Rows) (b : Block) (old new : Seat) : Type 0 where
  pub between : Seat
  pub out : Issued
  pub issued : HasIssued b old between out
  pub gone : GoesOn rows out between new

-- a context that hasn't ended stands in a block of its program, and its machine is ready for the MultiOp at a place
pub record MayPlay (programs : List Loaded) (seat : Seat) : Type 0 where
  pub own : Loaded
  pub there : slice_get programs seat.program ≡ Some own
  pub formed : Image
  pub movable : IsMovable own.image (description_of own.chosen)
  pub rescheduled : IsRescheduled own.image (description_of own.chosen) formed
  pub place : IsPlace (rows_of own.image) seat.place
  pub going : seat.end ≡ None
  pub running : seat.machine.stopped ≡ false
  pub ready : IsReady (timed_block formed place.row) seat.at seat.machine.moment
  pub below : seat.blocks < seat.bound
