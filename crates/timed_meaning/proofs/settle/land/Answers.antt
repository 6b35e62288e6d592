use Rattle.std.proofs.Common.{get_or, sym, ◌∙◌}
use Rattle.operation.specs.declared.Place.TheVariants.{General}
use Rattle.timed_meaning.specs.declared.Cell.{Cell}
use Rattle.timed_meaning.specs.declared.Cell.TheVariants.{At}
use Rattle.timed_meaning.proofs.Fitting.{last_write_fits}
use Rattle.timed_meaning.proofs.settle.land.Goals as goal

pub set-requires : goal.set-requires
set-requires c =
    let x : Cell = (get_or c.args.writes.now c.loop-write.write-index (record { cell = At (General 0); value = 0; lands = 0 })).cell in
    last_write_fits x c.args.writes.now c.in-Some.last c.requires (sym c.final_write.ensures ∙ c.in-Some.is)
