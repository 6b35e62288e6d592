use Rattle.std.proofs.Common.{◌<◌, length, sym, subst, rules}
use Rattle.timed_meaning.specs.Program.{block_of}
use Rattle.cycle_sim.specs.Machine.{Simulated, IsReady, start_state}
use Rattle.calls.proofs.Played.{first_sound}
use Rattle.calls.proofs.machines.comes_to.Goals as goal

pub is_played-requires-clause-sound : goal.is_played-requires-clause-sound
is_played-requires-clause-sound c =
    let some : 0 < length c.in-Some.program.blocks.items = search rules in
    first_sound c.in-Some.program.blocks.items c.index.result.now some c.index.ensures c.in-Some.ensures.blocks

pub is_played-requires-clause-ready : goal.is_played-requires-clause-ready
is_played-requires-clause-ready c =
    let b = block_of c.index.result.now in
    let start = start_state c.in-Some.program.memory c.deref.result.now in
    subst (λ (m : Simulated). IsReady b 0 m.moment) (sym c.in-Ok.ensures) (c.ready_at_entry.ensures b start 0)
