use Rattle.std.proofs.Common.{◌<◌, refl, arith}
use Rattle.machine_desc.specs.Description.{busy_of}
use Rattle.list_sched.specs.Slots.{cycles}
use Rattle.list_sched.proofs.KnownRooms.{still_known}
use Rattle.list_sched.proofs.rooms.Rooms.take.Goals as goal

pub returns-clause-known : goal.returns-clause-known
returns-clause-known g c =
    let machine = g.G.Generation.description c.args.g.now in
    let there : c.args.cycle < cycles c.args.self.now.slots =
    (let i = c.requires.inside in let u = c.requires.known.rooms.used in let b = ((g.met.G.Generation.in_range c.args.g.now).busy c.args.l).0 in omega arith) in
    still_known machine c.args.self.now _ c.args.k (busy_of machine c.args.l) c.args.cycle there c.take.ensures refl refl c.requires.known
