use Rattle.std.proofs.Common.{◌<◌, List, length, sym, subst, arith}
use Rattle.std.specs.Prelude.{slice_get, IfSome}
use Rattle.timed_meaning.specs.Program.{Block}
use Rattle.timed_meaning.specs.Sound.{IsSoundBlock}
use Rattle.cycle_sim.specs.Machine.{IsReady}
use Rattle.page_fault.specs.declared.Loaded.{Loaded}
use Rattle.image_check.specs.Blocks.{timed_block}
use Rattle.contexts.specs.Standing.{AreOf, key_at}
use Rattle.contexts.specs.Going.{HasIssued}
use Rattle.contexts.proofs.Turned.{has_page}
use Rattle.contexts.proofs.Playing.{fits, page_small, of_frame, by_frame, sound_block, played_so, still_going, still_below}
use Rattle.contexts.proofs.cores.play_on.Goals as goal

pub overflow_cast-key : goal.overflow_cast-key
overflow_cast-key c = let small = page_small c.args.loader.now.programs c.args.seat.now c.requires.may in omega arith

pub bring-frame-requires-clause-there : goal.bring-frame-requires-clause-there
bring-frame-requires-clause-there c = has_page c.args.loader.now.programs c.args.seat.now c.requires.may

pub issue-issued-requires-clause-inside : goal.issue-issued-requires-clause-inside
issue-issued-requires-clause-inside c = (fits c.args.loader.now.programs c.args.seat.now c.requires.may).inside

pub issue-issued-requires-clause-counted : goal.issue-issued-requires-clause-counted
issue-issued-requires-clause-counted c = (fits c.args.loader.now.programs c.args.seat.now c.requires.may).counted

pub issue-issued-requires-clause-sound : goal.issue-issued-requires-clause-sound
issue-issued-requires-clause-sound c =
    let now = subst (λ (ps : List Loaded). IfSome (slice_get c.bring-frame.new.pages c.bring-frame.result) (AreOf ps (key_at c.args.seat.now)))
    c.bring-frame.ensures.brought.programs c.bring-frame.ensures.now in
    of_frame c.args.loader.now.programs c.args.seat.now c.requires.may c.forms_are_of_the_image.ensures c.bring-frame.new.pages c.bring-frame.result now
    IsSoundBlock (sound_block c.args.loader.now.programs c.args.seat.now c.requires.may c.programs_are_sound.ensures c.rescheduled_is_accepted.ensures)

pub issue-issued-requires-clause-ready : goal.issue-issued-requires-clause-ready
issue-issued-requires-clause-ready c =
    let now = subst (λ (ps : List Loaded). IfSome (slice_get c.bring-frame.new.pages c.bring-frame.result) (AreOf ps (key_at c.args.seat.now)))
    c.bring-frame.ensures.brought.programs c.bring-frame.ensures.now in
    of_frame c.args.loader.now.programs c.args.seat.now c.requires.may c.forms_are_of_the_image.ensures c.bring-frame.new.pages c.bring-frame.result now
    (λ (b : Block). IsReady b c.args.seat.now.at c.args.seat.now.machine.moment) c.requires.may.ready

pub image-requires : goal.image-requires
image-requires c =
    subst (λ (ps : List Loaded). c.args.seat.now.program < length ps) (sym c.bring-frame.ensures.brought.programs)
    (has_page c.args.loader.now.programs c.args.seat.now c.requires.may).0

pub go_on-requires-clause-going : goal.go_on-requires-clause-going
go_on-requires-clause-going c =
    let now = subst (λ (ps : List Loaded). IfSome (slice_get c.bring-frame.new.pages c.bring-frame.result) (AreOf ps (key_at c.args.seat.now)))
    c.bring-frame.ensures.brought.programs c.bring-frame.ensures.now in
    let p = c.requires.may in
    still_going (timed_block p.formed p.place.row) c.args.seat.now c.issue-issued.new.self c.issue-issued.result
    (by_frame c.args.loader.now.programs c.args.seat.now p c.forms_are_of_the_image.ensures c.bring-frame.new.pages c.bring-frame.result now
    (λ (b : Block). HasIssued b c.args.seat.now c.issue-issued.new.self c.issue-issued.result) c.bring-frame.ensures.frame c.issue-issued.ensures) p.going

pub go_on-requires-clause-below : goal.go_on-requires-clause-below
go_on-requires-clause-below c =
    let now = subst (λ (ps : List Loaded). IfSome (slice_get c.bring-frame.new.pages c.bring-frame.result) (AreOf ps (key_at c.args.seat.now)))
    c.bring-frame.ensures.brought.programs c.bring-frame.ensures.now in
    let p = c.requires.may in
    still_below (timed_block p.formed p.place.row) c.args.seat.now c.issue-issued.new.self c.issue-issued.result
    (by_frame c.args.loader.now.programs c.args.seat.now p c.forms_are_of_the_image.ensures c.bring-frame.new.pages c.bring-frame.result now
    (λ (b : Block). HasIssued b c.args.seat.now c.issue-issued.new.self c.issue-issued.result) c.bring-frame.ensures.frame c.issue-issued.ensures) p.below

pub returns-clause-played : goal.returns-clause-played
returns-clause-played c p =
    let now = subst (λ (ps : List Loaded). IfSome (slice_get c.bring-frame.new.pages c.bring-frame.result) (AreOf ps (key_at c.args.seat.now)))
    c.bring-frame.ensures.brought.programs c.bring-frame.ensures.now in
    played_so c.args.loader.now.programs c.args.seat.now p c.issue-issued.new.self c.go_on.new.self c.issue-issued.result c.bring-frame.new.loader.programs
    c.image.result.now c.table.result.now c.bring-frame.ensures.brought.programs c.image.ensures c.table.ensures
    (by_frame c.args.loader.now.programs c.args.seat.now p c.forms_are_of_the_image.ensures c.bring-frame.new.pages c.bring-frame.result now
    (λ (b : Block). HasIssued b c.args.seat.now c.issue-issued.new.self c.issue-issued.result) c.bring-frame.ensures.frame c.issue-issued.ensures)
    c.go_on.ensures
