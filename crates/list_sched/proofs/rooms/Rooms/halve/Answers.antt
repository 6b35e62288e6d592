use Rattle.std.proofs.Common.{◌≡◌}
use Rattle.list_sched.specs.Rooms.{full_up_to}
use Rattle.list_sched.proofs.KnownRooms.{halved, read_there}
use Rattle.list_sched.proofs.rooms.Rooms.halve.Goals as goal

pub returns-then-from-ahead-clause-known : goal.returns-then-from-ahead-clause-known
returns-then-from-ahead-clause-known c = λ d known.
    let next : c.index-further.result.now ≡ full_up_to c.args.self.now c.args.k c.args.ahead =
    read_there d c.args.self.now c.args.k c.args.ahead c.slot.result c.index-further.result.now known c.if-ahead-self.true c.slot.ensures c.index-further.ensures in
    let h = halved d c.args.self.now c.args.k c.args.c c.args.ahead c.index-further.result.now known c.requires.inside c.if-ahead-self.true c.requires.ahead next in
    c.note.ensures.known d known h.0 h.1
