-- What holds of list schedules.
use Rattle.std.specs.Prelude.{ℕ, ◌≡◌, ◌≢◌, ◌+◌, ◌*◌, ◌<◌, ◌≤◌, ℤ, pos, ◌+ℤ◌, ◌≤ℤ◌, Option, Some, nat_eq, List, slice_index}
use Rattle.serial_order.specs.Lists.{Among, Earlier}
use Rattle.serial_order.specs.SerialOrder.{IsOrder}
use Rattle.std.specs.List.{count_by}
use Rattle.operation.specs.declared.UnitKind.{UnitKind}
use Rattle.block_links.specs.Cover.{Covers}
use Rattle.list_sched.specs.Slots.{Slots, Taken, busy_in, empty, AreTaken, is_busy_in}
use Rattle.list_sched.specs.Schedule.{Problem, Schedule, IsProblem, IsSchedule, is_before, IsBefore, IsBranch, landing}

-- where i is before j, j issues at least the delay after i and is placed later
pub record Keeps (p : Problem) (s : Schedule) : Type 0 where
  pub delays : (i j : ℕ) (delay : ℤ) → p.delay i j ≡ Some delay → (pos (s.cycle i) +ℤ delay) ≤ℤ pos (s.cycle j)
  pub order : (i j : ℕ) → IsBefore p i j → Earlier s.order i j

abbrev pub SchedulesKeep : Type 0
SchedulesKeep = (p : Problem) (s : Schedule) → IsProblem p → IsSchedule p s → Keeps p s

-- so the order of placing is a serial order
abbrev pub PlacedInSerialOrder : Type 0
PlacedInSerialOrder = (p : Problem) (s : Schedule) → IsProblem p → IsSchedule p s → IsOrder (is_before p) p.count s.order

-- an operation issues in the cycle
abbrev pub IsUsed : Schedule → ℕ → Type 0
IsUsed s c = (i : ℕ) × Among i s.order × (s.cycle i ≡ c)

-- the first used cycle is 0, each next one is at most 32 later, and the end is at most 32 after the last
pub record IsClose (s : Schedule) : Type 0 where
  pub first : IsUsed s 0
  pub next : (a b : ℕ) → IsUsed s a → IsUsed s b → a < b → ((c : ℕ) → a < c → c < b → ¬ (IsUsed s c)) → b ≤ a + 32
  pub last : (a : ℕ) → IsUsed s a → ((c : ℕ) → IsUsed s c → c ≤ a) → (a < s.end) × (s.end ≤ a + 32)

abbrev pub SchedulesAreClose : Type 0
SchedulesAreClose = (p : Problem) (s : Schedule) → IsProblem p → IsSchedule p s → IsClose s

-- the branch is placed after each other operation, and lands at the end
pub record IsLastPlaced (p : Problem) (s : Schedule) (branch : ℕ) : Type 0 where
  pub last : (i : ℕ) → i < p.count → i ≢ branch → Earlier s.order i branch
  pub lands : landing p s branch ≡ s.end

abbrev pub BranchesAreLast : Type 0
BranchesAreLast =
    (p : Problem) (s : Schedule) → IsProblem p → IsSchedule p s →
    (branch : ℕ) → branch < p.count → IsBranch p branch → IsLastPlaced p s branch

-- two schedules of n operations are the same
pub record SameSchedule (n : ℕ) (s s' : Schedule) : Type 0 where
  pub order : s.order ≡ s'.order
  pub cycle : (i : ℕ) → i < n → s.cycle i ≡ s'.cycle i
  pub end : s.end ≡ s'.end

-- a problem has at most one schedule
abbrev pub OneSchedule : Type 0
OneSchedule = (p : Problem) (s s' : Schedule) → IsProblem p → IsSchedule p s → IsSchedule p s' → SameSchedule p.count s s'

-- and each has one
abbrev pub EachHasASchedule : Type 0
EachHasASchedule = (p : Problem) → IsProblem p → (s : Schedule) × IsSchedule p s

-- which ends by 32 cycles an operation
abbrev pub SchedulesAreShort : Type 0
SchedulesAreShort = (p : Problem) (s : Schedule) → IsProblem p → IsSchedule p s → s.end ≤ 32 * p.count

-- slots count the operations that took them: how many issue in a cycle, and how many are busy in it on units of a kind
pub record Counts (taken : List Taken) (s : Slots) (n : ℕ) : Type 0 where
  pub issued : (c : ℕ) → c < n → slice_index s.issued c ≡ count_by (λ t. nat_eq t.cycle c) taken
  pub busy : (c : ℕ) (u : UnitKind) → c < n → busy_in s c u ≡ count_by (is_busy_in c u) taken

abbrev pub SlotsCount : Type 0
SlotsCount = (n : ℕ) (taken : List Taken) (s : Slots) → AreTaken taken (empty n) s → Counts taken s n

-- a problem with other delays
abbrev pub with_delays : Problem → (ℕ → ℕ → Option ℤ) → Problem
with_delays p delay = record { count = p.count; delay = delay; unit = p.unit; kind = p.kind; machine = p.machine }

-- where links cover the delays of a problem, their delays make a problem, and its schedule is one of the first
abbrev pub CoveringLinksSchedule : Type 0
CoveringLinksSchedule =
    (p : Problem) (along : ℕ → ℕ → Option ℤ) → IsProblem p → Covers along p.delay →
    IsProblem (with_delays p along) × ((s : Schedule) → IsSchedule (with_delays p along) s → IsSchedule p s)
