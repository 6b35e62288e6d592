-- One more cycle that has no room.
use Rattle.std.proofs.Common.{rules, ◌≡◌, ◌+◌, true, sym, subst, ◌∙◌, arith}
use Rattle.machine_desc.specs.Description.{busy_of}
use Rattle.list_sched.specs.Slots.{HasRoomFor}
use Rattle.list_sched.specs.Rooms.{IsClosed}
use Rattle.list_sched.proofs.KnownRooms.{no_room}
use Rattle.list_sched.proofs.rooms.Rooms.find.Goals as goal

pub loop-c-preserved : goal.loop-c-preserved
loop-c-preserved g c =
    let machine = g.G.Generation.description c.args.g.now in
    let busy = busy_of machine c.args.l in
    let slots = c.args.self.now.slots in
    let search_on = c.open_from-c-in-loop-c in
    let here : HasRoomFor machine slots c.args.k busy c.loop-c.c → ⊥ = (λ room.
    let there : HasRoomFor machine c.loop-c.self.slots c.args.k busy c.loop-c.c = subst (λ s. HasRoomFor machine s c.args.k busy c.loop-c.c) (sym c.loop-c.invariant.slots) room in
    let yes : c.room.result ≡ true = c.room.ensures.1 there in
    search rules) in
    let later : IsClosed machine slots c.args.k (c.loop-c.c + 1) search_on.result = subst (λ s. IsClosed machine s c.args.k (c.loop-c.c + 1) search_on.result) c.loop-c.invariant.slots search_on.ensures.closed in
    record {
      known = search_on.ensures.known;
      slots = search_on.ensures.slots ∙ c.loop-c.invariant.slots;
      count = search_on.ensures.count ∙ c.loop-c.invariant.count;
      after = (let a = c.loop-c.invariant.after in let w = search_on.ensures.within in omega arith);
      before = search_on.ensures.within.1;
      full = no_room machine slots c.args.k busy c.args.from c.loop-c.c search_on.result ((g.met.G.Generation.in_range c.args.g.now).busy c.args.l).0 c.loop-c.invariant.full here later;
    }
