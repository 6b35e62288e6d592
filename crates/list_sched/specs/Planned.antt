-- The schedules that values have.
use Rattle.std.specs.Prelude.{ℕ, ◌*◌, ◌<◌, ◌≤◌, List, slice_index, vec_capacity}
use Rattle.std.specs.BinaryHeap.{heap_capacity}
use Rattle.list_sched.specs.declared.scheduling.Planned.{Planned}
use Rattle.list_sched.specs.declared.scheduling.Desk.{Desk}
use Rattle.block_links.specs.declared.links.Links.{Links}
use Rattle.list_sched.specs.Schedule.{Schedule}
use Rattle.list_sched.specs.Slots.{cycles}
use Rattle.list_sched.specs.Rooms.{AreRooms}

-- the schedule with this order of placing, these cycles and this end
abbrev pub schedule_with : (order cycle : List ℕ) → ℕ → Schedule
schedule_with order cycle end = record { order = order; cycle = slice_index cycle; end = end }

abbrev pub schedule_of : Planned → Schedule
schedule_of s = schedule_with s.order.items s.cycle.items s.end

-- what a planner shows of its last schedule
pub record Plan : Type 0 where
  pub order : List ℕ
  pub cycles : List ℕ
  pub end : ℕ

-- there is room for the plans of 512 operations
pub record IsDesk (d : Desk) : Type 0 where
  pub waits : 512 ≤ vec_capacity d.work.waits
  pub least : 512 ≤ vec_capacity d.work.least
  pub queue : 512 ≤ heap_capacity d.work.queue
  pub rooms : AreRooms d.work.rooms
  pub slotted : 32 * 512 ≤ cycles d.work.rooms.slots
  pub high : 512 ≤ vec_capacity d.heights
  pub issued : 512 ≤ vec_capacity d.cycle
  pub ordered : 512 ≤ vec_capacity d.order

-- and for their links
pub record HasRoom (links : Links) (d : Desk) : Type 0 where
  pub starts : 512 < vec_capacity links.starts
  pub linked : 512 * 512 ≤ vec_capacity links.links
  pub desk : IsDesk d
