-- What the writer of forms goes by. For contracts within the crate.
use Rattle.std.specs.Prelude.{ℕ, ◌≡◌, ◌+◌, ◌*◌, ◌%◌, ◌^◌, ◌<◌, ◌≤◌, List, length, slice_index}
use Rattle.operation.specs.declared.UnitKind.{UnitKind}
use Rattle.operation.specs.declared.LatKind.{LatKind}
use Rattle.operation.specs.Places.{unit_kind, latency_kind}
use Rattle.serial_order.specs.Lists.{Among, EachOnce}
use Rattle.list_encoding.specs.Word.{unit_in}
use Rattle.latency_deps.specs.Block.{Block, timed_at}
use Rattle.list_sched.specs.Laws.{IsClose}
use Rattle.list_sched.specs.Planned.{schedule_with}

-- the unit kind and the latency kind of operation k
abbrev pub kinds_at : Block → ℕ → UnitKind × LatKind
kinds_at b k = (unit_kind (timed_at b k).guarded.op, latency_kind (timed_at b k).guarded.op)

-- a word with another head mark and pause
abbrev pub word_with : (head pause old : ℕ) → ℕ
word_with head pause old = old % 2 ^ 54 + pause * 2 ^ 54 + unit_in old * 2 ^ 59 + head * 2 ^ 63

-- the schedule of n operations, by its order of placing, its cycles and its end
pub record IsPlan (n : ℕ) (order cycle : List ℕ) (end : ℕ) : Type 0 where
  pub cycles : length cycle ≡ n
  pub once : EachOnce order
  pub below : (k : ℕ) → Among k order → k < n
  pub all : (k : ℕ) → k < n → Among k order
  pub count : length order ≡ n
  pub before : (k : ℕ) → Among k order → slice_index cycle k < end
  pub close : IsClose (schedule_with order cycle end)

-- the cycle of the operation listed at a place
abbrev pub cycle_at : (cycle listed : List ℕ) → ℕ → ℕ
cycle_at cycle listed m = slice_index cycle (slice_index listed m)

-- listed operations that have cycles, which never fall
pub record IsSorted (cycle listed : List ℕ) : Type 0 where
  pub inside : (m : ℕ) → m < length listed → slice_index listed m < length cycle
  pub rising : (m j : ℕ) → m ≤ j → j < length listed → cycle_at cycle listed m ≤ cycle_at cycle listed j

-- the listed operations of a schedule, which all issue before its end
pub record IsListed (cycle : List ℕ) (end : ℕ) (listed : List ℕ) : Type 0 where
  pub sorted : IsSorted cycle listed
  pub before : (m : ℕ) → m < length listed → cycle_at cycle listed m < end
  pub close : IsClose (schedule_with listed cycle end)

-- there is room for a block of 512 operations, in two lists of which each has a capacity
pub record HasRooms (kinds listed : ℕ) : Type 0 where
  pub each : 512 ≤ kinds
  pub order : 512 ≤ listed
