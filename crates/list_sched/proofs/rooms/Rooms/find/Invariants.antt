use Rattle.std.proofs.Common.{◌≡◌, ◌<◌, ◌≤◌, ◌-◌, ℕ}
use Rattle.machine_desc.specs.Description.{busy_of}
use Rattle.list_sched.specs.Slots.{HasRoomFor}
use Rattle.list_sched.specs.Rooms.{IsKnown}
use Rattle.list_sched.proofs.rooms.Rooms.find.Given as goal

abbrev pub invariant-loop-c : goal.invariant-loop-c
invariant-loop-c g l = record {
  known : IsKnown (g.G.Generation.description l.g) l.self;
  slots : l.self.slots ≡ l.fn.self.slots;
  count : l.self.count ≡ l.fn.self.count;
  after : l.from ≤ l.c;
  before : l.c ≤ l.last;
  full : (t : ℕ) → l.from ≤ t → t < l.c →
      HasRoomFor (g.G.Generation.description l.g) l.fn.self.slots l.k (busy_of (g.G.Generation.description l.g) l.l) t → ⊥;
}

abbrev pub decreases-loop-c : goal.decreases-loop-c
decreases-loop-c g l = l.last - l.c
