-- A leap or a note, and the cycles before it.
use Rattle.std.proofs.Common.{rules, ◌≡◌, ◌<◌, ◌≤◌, ◌+◌, min, subst, ◌∙◌, arith}
use Rattle.list_sched.specs.Rooms.{full_up_to, IsClosed}
use Rattle.list_sched.proofs.KnownRooms.{joined, one_closed, read_there}
use Rattle.list_sched.proofs.rooms.Rooms.open_from.Goals as goal

pub loop-c-preserved-then-ahead-c : goal.loop-c-preserved-then-ahead-c
loop-c-preserved-then-ahead-c g c =
    let machine = g.G.Generation.description c.args.g.now in
    let known = c.loop-c.invariant.known in
    let in_use : c.loop-c.c < c.loop-c.self.count = (let t = c.loop-c-test.true in let i = c.requires.inside in let e = c.loop-c.invariant.count in omega arith) in
    let ahead : c.from-ahead.result ≡ full_up_to c.loop-c.self c.args.k c.loop-c.c =
    c.from-ahead.ensures ∙ read_there machine c.loop-c.self c.args.k c.loop-c.c c.slot.result c.index.result.now known in_use c.slot.ensures c.index.ensures in
    let least : c.min-c.result ≡ min c.from-ahead.result c.args.last = search rules in
    let leapt : IsClosed machine c.loop-c.self.slots c.args.k c.loop-c.c c.min-c.result = (λ t low high. known.closed c.args.k c.loop-c.c in_use t low (omega arith)) in
    record {
      known = c.halve.ensures.known machine known;
      slots = c.halve.ensures.slots ∙ c.loop-c.invariant.slots;
      count = c.halve.ensures.count ∙ c.loop-c.invariant.count;
      after = (let a = c.loop-c.invariant.after in let t = c.if-ahead-c.true in let o = c.requires.order in omega arith);
      before = omega arith;
      closed =
          joined machine c.args.self.now.slots c.args.k c.args.from c.loop-c.c c.min-c.result c.loop-c.invariant.closed
          (subst (λ s. IsClosed machine s c.args.k c.loop-c.c c.min-c.result) c.loop-c.invariant.slots leapt);
    }

pub loop-c-preserved : goal.loop-c-preserved
loop-c-preserved g c =
    let machine = g.G.Generation.description c.args.g.now in
    let known = c.loop-c.invariant.known in
    let in_use : c.loop-c.c + 1 ≤ c.loop-c.self.count = (let t = c.loop-c-test.true in let i = c.requires.inside in let e = c.loop-c.invariant.count in omega arith) in
    let closed : IsClosed machine c.loop-c.self.slots c.args.k c.loop-c.c (c.loop-c.c + 1) = one_closed machine c.loop-c.self.slots c.args.k c.loop-c.c c.is_open.result c.is_open.ensures c.if-is_open.false in
    record {
      known = c.note.ensures.known machine known in_use closed;
      slots = c.note.ensures.slots ∙ c.loop-c.invariant.slots;
      count = c.note.ensures.count ∙ c.loop-c.invariant.count;
      after = (let a = c.loop-c.invariant.after in omega arith);
      before = (let t = c.loop-c-test.true in omega arith);
      closed =
          joined machine c.args.self.now.slots c.args.k c.args.from c.loop-c.c (c.loop-c.c + 1) c.loop-c.invariant.closed
          (subst (λ s. IsClosed machine s c.args.k c.loop-c.c (c.loop-c.c + 1)) c.loop-c.invariant.slots closed);
    }
