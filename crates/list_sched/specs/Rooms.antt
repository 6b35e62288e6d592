-- Which cycles are known to have no room. For contracts within the crate.
use Rattle.std.specs.Prelude.{ℕ, ◌≡◌, ◌+◌, ◌*◌, ◌^◌, ◌<◌, ◌≤◌, length, slice_index}
use Rattle.operation.specs.declared.UnitKind.{UnitKind}
use Rattle.operation.specs.Places.{unit_number}
use Rattle.machine_desc.specs.Description.{Description}
use Rattle.list_sched.specs.declared.rooms.Rooms.{Rooms}
use Rattle.list_sched.specs.Slots.{Slots, cycles, AreSlots, busy_in, HasRoomFor}

-- an operation of the unit kind that is busy for one cycle can issue in cycle c
abbrev pub IsOpen : Description → Slots → UnitKind → ℕ → Type 0
IsOpen g s u c = HasRoomFor g s u 1 c

-- none of the cycles from one on before another is open
abbrev pub IsClosed : Description → Slots → UnitKind → (from before : ℕ) → Type 0
IsClosed g s u from before = (t : ℕ) → from ≤ t → t < before → IsOpen g s u t → ⊥

-- for each unit kind and each cycle, up to which later cycle none is known to be open
abbrev pub full_up_to : Rooms → UnitKind → ℕ → ℕ
full_up_to r u c = slice_index r.full.items (c * 5 + unit_number u)

-- there is a number for each unit kind in each cycle
pub record AreRooms (r : Rooms) : Type 0 where
  pub slots : AreSlots r.slots
  pub size : length r.full.items ≡ cycles r.slots * 5
  pub few : cycles r.slots < 2 ^ 16
  pub used : r.count ≤ cycles r.slots

-- what is known is right, and only of cycles in use
pub record IsKnown (g : Description) (r : Rooms) : Type 0 where
  pub rooms : AreRooms r
  pub inside : (u : UnitKind) (c : ℕ) → c < r.count → full_up_to r u c ≤ r.count
  pub closed : (u : UnitKind) (c : ℕ) → c < r.count → IsClosed g r.slots u c (full_up_to r u c)

-- of the cycles in use nothing is taken
pub record IsCleared (r : Rooms) : Type 0 where
  pub issued : (c : ℕ) → c < r.count → slice_index r.slots.issued c ≡ 0
  pub busy : (u : UnitKind) (c : ℕ) → c < r.count → busy_in r.slots c u ≡ 0
