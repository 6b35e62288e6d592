-- What the planner works in. For contracts within the crate.
use Rattle.std.specs.Prelude.{ℕ, ◌≡◌, ◌*◌, ◌≤◌, length, vec_capacity}
use Rattle.std.specs.BinaryHeap.{heap_capacity}
use Rattle.list_sched.specs.declared.placing.Work.{Work}
use Rattle.list_sched.specs.Slots.{cycles}
use Rattle.list_sched.specs.Rooms.{AreRooms}

-- there is a place for each of so many operations, and room for their plan
pub record IsReadyFor (w : Work) (n : ℕ) : Type 0 where
  pub waits : length w.waits.items ≡ n
  pub least : length w.least.items ≡ n
  pub queue : n ≤ heap_capacity w.queue
  pub rooms : AreRooms w.rooms
  pub cycles : 32 * n ≤ cycles w.rooms.slots

-- the room that there was is still there
pub record IsKept (old new : Work) : Type 0 where
  pub waits : vec_capacity old.waits ≤ vec_capacity new.waits
  pub least : vec_capacity old.least ≤ vec_capacity new.least
  pub queue : heap_capacity old.queue ≤ heap_capacity new.queue
  pub rooms : AreRooms new.rooms
  pub cycles : cycles new.rooms.slots ≡ cycles old.rooms.slots
