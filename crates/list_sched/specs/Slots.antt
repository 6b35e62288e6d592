-- The slots of a machine's cycles, which operations take.
use Rattle.std.specs.Prelude.{ℕ, ◌≡◌, ◌+◌, ◌*◌, ◌^◌, ◌<◌, ◌≤◌, nat_lt, nat_le, ◌&&◌, if◌then◌else◌, Bool, List, [], ◌∷◌, length, slice_index, slice_set, replicate}
use Rattle.operation.specs.declared.UnitKind.{UnitKind}
use Rattle.operation.specs.Places.{unit_number}
use Rattle.machine_desc.specs.Description.{Description, units_of}
use Rattle.machine_desc.specs.Issue.{same_unit}

-- how many operations issue in each cycle; and how many are busy in it on each unit kind, by the kinds' numbers, five to a cycle
pub record Slots : Type 0 where
  pub issued : List ℕ
  pub busy : List ℕ

-- how many cycles there are
abbrev pub cycles : Slots → ℕ
cycles s = length s.issued

-- how many operations are busy in a cycle on units of a kind
abbrev pub busy_in : Slots → ℕ → UnitKind → ℕ
busy_in s c u = slice_index s.busy (c * 5 + unit_number u)

-- a count for each unit kind in each cycle
pub record AreSlots (s : Slots) : Type 0 where
  pub each : length s.busy ≡ cycles s * 5
  pub few : cycles s < 2 ^ 32

-- so many cycles of which nothing is taken
abbrev pub empty : ℕ → Slots
empty n = record { issued = replicate n 0; busy = replicate (n * 5) 0 }

-- a cycle has room for an operation that is busy for so many cycles on a unit of the kind: fewer operations than the width
-- issue in it, and in each of those cycles fewer are busy on the kind than its units
pub record HasRoomFor (g : Description) (s : Slots) (u : UnitKind) (busy c : ℕ) : Type 0 where
  pub width : slice_index s.issued c < g.width
  pub units : (t : ℕ) → c ≤ t → t < c + busy → busy_in s t u < units_of g u

-- one more operation is busy on a unit of the kind in each of the cycles from one on, before another
abbrev pub IsBusier : (old new : List ℕ) → UnitKind → (from before : ℕ) → Type 0
IsBusier old new u from before =
    (t : ℕ) (v : UnitKind) → t * 5 + unit_number v < length old →
    slice_index new (t * 5 + unit_number v)
    ≡ slice_index old (t * 5 + unit_number v) + (if (nat_le from t && nat_lt t before) && same_unit u v then 1 else 0)

-- one more operation issues in a cycle, and is busy from then on for so many cycles on a unit of the kind
pub record IsTaken (old new : Slots) (u : UnitKind) (busy c : ℕ) : Type 0 where
  pub issued : new.issued ≡ slice_set old.issued c (slice_index old.issued c + 1)
  pub busier : IsBusier old.busy new.busy u c (c + busy)
  pub size : length new.busy ≡ length old.busy

-- an operation that took slots: the cycle in which it issues, the unit kind that it needs, and for how many cycles it is busy
pub record Taken : Type 0 where
  pub cycle : ℕ
  pub unit : UnitKind
  pub busy : ℕ

-- these operations took slots, one after another
abbrev pub AreTaken : List Taken → (old new : Slots) → Type 0
AreTaken [] old new = old ≡ new
AreTaken (t ∷ ts) old new = (t.cycle + t.busy ≤ cycles old) × (1 ≤ t.busy) × (mid : Slots) × IsTaken old mid t.unit t.busy t.cycle × AreTaken ts mid new

-- an operation is busy in a cycle on a unit of the kind
abbrev pub is_busy_in : ℕ → UnitKind → Taken → Bool
is_busy_in c u t = (nat_le t.cycle c && nat_lt c (t.cycle + t.busy)) && same_unit t.unit u
