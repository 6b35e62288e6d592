-- The MultiOp that a context plays is the next one of its image's block.
use Rattle.std.proofs.Common.{◌≡◌, ℕ, ◌/◌, ◌<◌, ◌≤◌, List, length, refl, sym, ap, subst, ◌∙◌, Option, Some, None, arith}
use Rattle.std.specs.Prelude.{slice_get, IfSome}
use Rattle.block_table.specs.Rows.{Rows}
use Rattle.timed_meaning.specs.Program.{Block}
use Rattle.timed_meaning.specs.Sound.{IsSoundBlock}
use Rattle.image_format.specs.Image.{Image, page_count}
use Rattle.image_check.specs.Accepted.{IsAccepted}
use Rattle.image_check.specs.Blocks.{rows_of, timed_block}
use Rattle.image_check.specs.Laws.{ProgramsAreSound}
use Rattle.image_resched.specs.Laws.{RescheduledIsAccepted}
use Rattle.cycle_sim.specs.declared.Issued.{Issued}
use Rattle.machine_desc.specs.Value.{description_of}
use Rattle.page_fault.specs.declared.Loaded.{Loaded}
use Rattle.page_fault.specs.Laws.{FormsAreOfTheImage}
use Rattle.contexts.specs.declared.seat.Seat.{Seat}
use Rattle.contexts.specs.Standing.{Read, AreOf, key_at, block_in_frame}
use Rattle.contexts.specs.Going.{MayPlay, HasIssued, HasPlayed, GoesOn}
use Rattle.contexts.proofs.Formed.{Fits, formed_rows, place_fits, block_read, row_sound}
use Rattle.contexts.proofs.Lists.{there_is}

module _ (programs : List Loaded) (seat : Seat) (p : MayPlay programs seat) where
  pub fits : Fits p.own.image seat.place
  fits = place_fits p.own.image seat.place p.movable.accepted p.place

  pub page_small : seat.place.entry / 512 < 256
  page_small =
      let page : seat.place.entry / 512 < page_count p.own.image = fits.page in
      let few : page_count p.own.image ≤ 256 = p.movable.accepted.written.limits.pages.1 in
      omega arith

  module _ (forms : FormsAreOfTheImage) (reads : List Read) (frame : ℕ) (now : IfSome (slice_get reads frame) (AreOf programs (key_at seat))) where
    -- what holds of the block of the image holds of that in the frame
    pub of_frame : (P : Block → Type 0) → P (timed_block p.formed p.place.row) → IfSome (slice_get reads frame) (λ r. P (block_in_frame seat.place r))
    of_frame P h = go (slice_get reads frame) now
      where
        go : (o : Option Read) → IfSome o (AreOf programs (key_at seat)) → IfSome o (λ r. P (block_in_frame seat.place r))
        go None of = tt
        go (Some r) of =
            subst P (sym (block_read forms programs (key_at seat) r p.own p.formed of p.there p.movable p.rescheduled seat.place p.place refl)) h

    -- and the other way round
    pub by_frame : (P : Block → Type 0) → frame < length reads → IfSome (slice_get reads frame) (λ r. P (block_in_frame seat.place r)) →
        P (timed_block p.formed p.place.row)
    by_frame P below h = go (slice_get reads frame) (there_is reads frame below).1 now h
      where
        go : (o : Option Read) → o ≡ Some (there_is reads frame below).0 → IfSome o (AreOf programs (key_at seat)) → IfSome o (λ r. P (block_in_frame seat.place r)) →
            P (timed_block p.formed p.place.row)
        go None e of h = absurd (let no : ⊥ = cc in no)
        go (Some r) e of h =
            subst P (block_read forms programs (key_at seat) r p.own p.formed of p.there p.movable p.rescheduled seat.place p.place refl) h

  pub sound_block : ProgramsAreSound → RescheduledIsAccepted → IsSoundBlock (timed_block p.formed p.place.row)
  sound_block sounds accepts =
      let formed : IsAccepted p.formed = accepts p.own.image (description_of p.own.chosen) p.formed p.movable p.rescheduled in
      row_sound p.formed formed (sounds p.formed formed) p.place.row
      (subst (λ (z : Rows). p.place.row < length z) (sym (formed_rows p.own.image (description_of p.own.chosen) p.formed p.rescheduled)) p.place.there)

  -- the table of its program
  pub played_so : (between new : Seat) (out : Issued) (programs' : List Loaded) (image : Image) (rows : Rows) → programs' ≡ programs →
      IfSome (slice_get programs' seat.program) (λ q. q.image ≡ image) → rows ≡ rows_of image →
      HasIssued (timed_block p.formed p.place.row) seat between out → GoesOn rows out between new →
      HasPlayed (rows_of p.own.image) (timed_block p.formed p.place.row) seat new
  played_so between new out programs' image rows same is table issued gone =
      let own : IfSome (Some p.own) (λ (q : Loaded). q.image ≡ image) =
      subst (λ (o : Option Loaded). IfSome o (λ q. q.image ≡ image)) (ap (λ (ps : List Loaded). slice_get ps seat.program) same ∙ p.there) is in
      record {
        between = between;
        out = out;
        issued = issued;
        gone = subst (λ (z : Rows). GoesOn z out between new) (table ∙ ap rows_of (sym own)) gone;
      }

-- it keeps all but its machine as a MultiOp issues
pub still_going : (b : Block) (old new : Seat) (out : Issued) → HasIssued b old new out → old.end ≡ None → new.end ≡ None
still_going b old new out h none = ap (λ (n : Seat). n.end) h.machine ∙ none

pub still_below : (b : Block) (old new : Seat) (out : Issued) → HasIssued b old new out → old.blocks < old.bound → new.blocks < new.bound
still_below b old new out h below =
    let blocks : new.blocks ≡ old.blocks = ap (λ (n : Seat). n.blocks) h.machine in
    let bound : new.bound ≡ old.bound = ap (λ (n : Seat). n.bound) h.machine in
    omega arith
