use Rattle.std.specs.Prelude.{slice_set}
use Rattle.context_system.specs.declared.Event.TheVariants.{Turn}
use Rattle.context_system.specs.System.{step}
use Rattle.contexts.specs.declared.seat.Seat.{Seat}
use Rattle.contexts.specs.Standing.{contexts_of}
use Rattle.contexts.proofs.Turned.{Turned, may_play_at, turned}
use Rattle.contexts.proofs.Turns.{has_no_end, has_end, lent_at, of_each, stays_ended}
use Rattle.contexts.proofs.cores.turn.Goals as goal

pub play_on-requires-clause-may : goal.play_on-requires-clause-may
play_on-requires-clause-may c =
    let seat : Seat = c.index_mut-seat.result.now in
    may_play_at c.reads_back.ensures c.one_rescheduled.ensures c.forms_are_of_the_image.ensures c.rescheduled_is_accepted.ensures c.ready_at_entry.ensures
    c.args.seats.now.items c.args.loader.now c.args.pages.now c.requires.core c.args.c seat
    (lent_at c.args.seats.now.items c.args.c seat c.requires.there c.index_mut-seat.ensures.value)
    (has_no_end seat.end c.is_none.result c.is_none.ensures c.if-is_none.true)

module _ (c : goal.After-seats-1) where
  abbrev seat : Seat
  seat = c.index_mut-seat.result.now

  so : Turned (slice_set c.args.seats.now.items c.args.c c.play_on.new.seat) c.play_on.new.loader c.play_on.new.pages (step c.requires.core.held (Turn c.args.c))
  so =
      turned c.reads_back.ensures c.one_rescheduled.ensures c.forms_are_of_the_image.ensures c.rescheduled_is_accepted.ensures c.ready_at_entry.ensures
      c.args.seats.now.items c.args.loader.now c.args.pages.now c.requires.core c.args.c seat
      (lent_at c.args.seats.now.items c.args.c seat c.requires.there c.index_mut-seat.ensures.value)
      (has_no_end seat.end c.is_none.result c.is_none.ensures c.if-is_none.true)
      c.play_on.new.seat c.play_on.new.loader c.play_on.new.pages c.play_on.ensures.brought c.play_on.ensures.played c.play_on.ensures.read c.play_on.ensures.frames

pub returns-then-is_none-clause-core : goal.returns-then-is_none-clause-core
returns-then-is_none-clause-core c = (so c).core

pub returns-then-is_none-clause-step : goal.returns-then-is_none-clause-step
returns-then-is_none-clause-step c =
    of_each c.one_rescheduled.ensures c.args.seats.now.items c.args.loader.now c.args.pages.now c.requires.core
    (contexts_of (slice_set c.args.seats.now.items c.args.c c.play_on.new.seat) c.play_on.new.loader) (Turn c.args.c) (so c).holds

pub returns-else-is_none-clause-step : goal.returns-else-is_none-clause-step
returns-else-is_none-clause-step c =
    let seat : Seat = c.index_mut-seat.result.now in
    stays_ended c.args.seats.now.items c.args.loader.now c.args.c seat
    (lent_at c.args.seats.now.items c.args.c seat c.requires.there c.index_mut-seat.ensures.value)
    (has_end seat.end c.is_none.result c.is_none.ensures c.if-is_none.false)

pub returns-then-is_none-clause-programs : goal.returns-then-is_none-clause-programs
returns-then-is_none-clause-programs c = c.play_on.ensures.brought.programs
