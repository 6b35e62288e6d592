use Rattle.std.proofs.Common.{◌≡◌, ◌≤◌, ◌-◌}
use Rattle.list_sched.specs.Rooms.{IsKnown, IsClosed}
use Rattle.list_sched.proofs.rooms.Rooms.open_from.Given as goal

abbrev pub invariant-loop-c : goal.invariant-loop-c
invariant-loop-c g l = record {
  known : IsKnown (g.G.Generation.description l.g) l.self;
  slots : l.self.slots ≡ l.fn.self.slots;
  count : l.self.count ≡ l.fn.self.count;
  after : l.from ≤ l.c;
  before : l.c ≤ l.last;
  closed : IsClosed (g.G.Generation.description l.g) l.fn.self.slots l.k l.from l.c;
}

abbrev pub decreases-loop-c : goal.decreases-loop-c
decreases-loop-c g l = l.last - l.c
