-- The list schedule of a block's operations.
use Rattle.std.specs.Prelude.{ℕ, ◌≡◌, ◌≢◌, ◌+◌, ◌<◌, ◌≤◌, ◌⊎◌, IsTrue, ℤ, pos, ◌+ℤ◌, ◌≤ℤ◌, Bool, is_some, List, [], ◌∷◌, Option, Some, None}
use Rattle.operation.specs.declared.UnitKind.{UnitKind}
use Rattle.operation.specs.declared.UnitKind.TheVariants as unit
use Rattle.operation.specs.declared.LatKind.{LatKind}
use Rattle.machine_desc.specs.Description.{Description, IsDescription, units_of, latency_of, busy_of}
use Rattle.serial_order.specs.Lists.{Among}
use Rattle.serial_order.specs.SerialOrder.{first_stuck}
use Rattle.machine_desc.specs.Issue.{issuing, busy_on}
use Rattle.list_sched.specs.Extremes.{IsLeast, IsGreatest}

-- what is scheduled: so many operations, the delay of one before another where it is before it, the kinds of each, and the
-- machine
pub record Problem : Type 0 where
  pub count : ℕ
  pub delay : ℕ → ℕ → Option ℤ
  pub unit : ℕ → UnitKind
  pub kind : ℕ → LatKind
  pub machine : Description

-- i is before j
abbrev pub is_before : Problem → ℕ → ℕ → Bool
is_before p i j = is_some (p.delay i j)

abbrev pub IsBefore : Problem → ℕ → ℕ → Type 0
IsBefore p i j = IsTrue (is_before p i j)

abbrev pub latency : Problem → ℕ → ℕ
latency p i = latency_of p.machine (p.kind i)

abbrev pub busy : Problem → ℕ → ℕ
busy p i = busy_of p.machine (p.kind i)

abbrev pub IsBranch : Problem → ℕ → Type 0
IsBranch p i = p.unit i ≡ unit.B

-- what the height of i isn't below: its latency, and the delay plus the height of each j that i is before
pub data Climb (p : Problem) (height : ℕ → ℕ) (i : ℕ) : ℤ → Type 0 where
  Itself : Climb p height i (pos (latency p i))
  From : (j : ℕ) (d : ℤ) → p.delay i j ≡ Some d → Climb p height i (d +ℤ pos (height j))

-- the height of an operation is the greatest such number
abbrev pub AreHeights : Problem → (ℕ → ℕ) → Type 0
AreHeights p height = (i : ℕ) → i < p.count → IsGreatest (Climb p height i) (pos (height i))

-- i can be placed: it isn't yet, all that are before it are, and if it is the branch all others are
pub record IsReady (p : Problem) (past : List ℕ) (i : ℕ) : Type 0 where
  pub inside : i < p.count
  pub unplaced : ¬ (Among i past)
  pub after_all : (k : ℕ) → IsBefore p k i → Among k past
  pub branch_last : IsBranch p i → (k : ℕ) → k < p.count → k ≢ i → Among k past

-- of those that can be placed, the one with the greatest height goes next, then the least number
pub record IsNext (p : Problem) (height : ℕ → ℕ) (past : List ℕ) (i : ℕ) : Type 0 where
  pub ready : IsReady p past i
  pub first : (k : ℕ) → IsReady p past k → (height k < height i) ⊎ ((height k ≡ height i) × (i ≤ k))

-- a cycle has room for i: it holds fewer operations than the width, and while i would be busy fewer of i's kind are than its
-- units
pub record HasRoom (p : Problem) (cycle : ℕ → ℕ) (past : List ℕ) (i c : ℕ) : Type 0 where
  pub width : issuing cycle past c < p.machine.width
  pub units : (t : ℕ) → c ≤ t → t < c + busy p i → busy_on p.unit (p.unit i) cycle (busy p) past t < units_of p.machine (p.unit i)

-- i can issue in cycle c
pub record CanIssue (p : Problem) (cycle : ℕ → ℕ) (past : List ℕ) (i c : ℕ) : Type 0 where
  pub room : HasRoom p cycle past i c
  pub delays : (k : ℕ) (d : ℤ) → p.delay k i ≡ Some d → (pos (cycle k) +ℤ d) ≤ℤ pos c
  -- the branch lands no earlier than the others
  pub lands_last : IsBranch p i → (k : ℕ) → Among k past → cycle k + latency p k ≤ c + latency p i

-- the rest are placed in this order after those of the past, of which the latest stands first: each in the least cycle in
-- which it can issue
abbrev pub ArePlaced : Problem → (ℕ → ℕ) → (ℕ → ℕ) → List ℕ → List ℕ → Type 0
ArePlaced p height cycle past [] = Unit {0}
ArePlaced p height cycle past (i ∷ rest) =
    IsNext p height past i × IsLeast (CanIssue p cycle past i) (cycle i) × ArePlaced p height cycle (i ∷ past) rest

-- the operations in order of placing, the cycle of each, and the greatest landing
pub record Schedule : Type 0 where
  pub order : List ℕ
  pub cycle : ℕ → ℕ
  pub end : ℕ

-- the cycle at which an operation's results land
abbrev pub landing : Problem → Schedule → ℕ → ℕ
landing p s i = s.cycle i + latency p i

-- the list schedule
pub record IsSchedule (p : Problem) (s : Schedule) : Type 0 where
  pub height : ℕ → ℕ
  pub heights : AreHeights p height
  pub complete : (i : ℕ) → i < p.count → Among i s.order
  pub placed : ArePlaced p height s.cycle [] s.order
  pub ends : (i : ℕ) → i < p.count → landing p s i ≤ s.end
  pub reached : (i : ℕ) × (i < p.count) × (landing p s i ≡ s.end)

-- what can be scheduled: 1 to 512 operations, delays of at most 32 between two of them that have a serial order, a unit for
-- each operation, and at most one branch, which is before no other
pub record IsProblem (p : Problem) : Type 0 where
  pub some : 0 < p.count
  pub machine : IsDescription p.machine
  pub few : p.count ≤ 512
  pub inside : (i j : ℕ) (d : ℤ) → p.delay i j ≡ Some d → (i < p.count) × (j < p.count) × (i ≢ j)
  pub short : (i j : ℕ) (d : ℤ) → p.delay i j ≡ Some d → d ≤ℤ pos 32
  pub ordered : first_stuck (is_before p) p.count ≡ None
  pub units : (i : ℕ) → i < p.count → 0 < units_of p.machine (p.unit i)
  pub one_branch : (i j : ℕ) → i < p.count → j < p.count → IsBranch p i → IsBranch p j → i ≡ j
  pub branch_last : (i j : ℕ) → IsBranch p i → ¬ (IsBefore p i j)
