-- The delays and the rules of a block, as facts on its operations and its times.
use Rattle.std.specs.Prelude.{ℕ, ◌≡◌, ◌≢◌, ◌≤◌, ◌↔◌, IsTrue, IsFalse, IsSome, ℤ, pos, ◌+ℤ◌, ◌-ℤ◌, ◌≤ℤ◌, Option, Some}
use Rattle.operation.specs.declared.Guarded.{Guarded}
use Rattle.operation.specs.declared.LatKind.{LatKind}
use Rattle.operation.specs.declared.UnitKind.{UnitKind}
use Rattle.operation.specs.declared.Place.{Place}
use Rattle.operation.specs.Places.{reads, writes, is_branch, latency_kind}
use Rattle.machine_desc.specs.Description.{Description, units_of}
use Rattle.serial_order.specs.Lists.{Among}
use Rattle.two_timings.specs.Timing.{Timing, lands, BothWriteAt, LandApart, KeepListOrder, HasOneBranch, IsTiming, IsOrderOf}
use Rattle.two_timings.specs.Before.{Before}
use Rattle.machine_desc.specs.Issue.{issuing, busy_on}
use Rattle.dependences.specs.Before.{is_at_odds}
use Rattle.latency_deps.specs.Breaks.{unit_of, busy_time}

-- in how many cycles j has to issue behind i, for one of the reasons
pub data Wait (latency : LatKind → ℕ) (i j : Guarded) : ℤ → Type 0 where
  NewValue : (x : Place) → IsTrue (writes i.op x) → IsTrue (reads j x) → Wait latency i j (pos (latency (latency_kind i.op)))
  OldValue : (x : Place) → IsTrue (reads i x) → IsTrue (writes j.op x) → Wait latency i j (pos 1 -ℤ pos (latency (latency_kind j.op)))
  LastValue : (x : Place) → BothWriteAt i.op j.op x → Wait latency i j ((pos (latency (latency_kind i.op)) -ℤ pos (latency (latency_kind j.op))) +ℤ pos 1)
  ListOrder : KeepListOrder i.op j.op → Wait latency i j (pos 0)

-- there is a delay exactly where one operation is before another, and no wait is longer
pub record AreDelays (ops : ℕ → Guarded) (t : Timing) (latency : LatKind → ℕ) (delay : ℕ → ℕ → Option ℤ) : Type 0 where
  pub decided : (i j : ℕ) → Among i t.listed → Among j t.listed → i ≢ j → IsSome (delay i j) ↔ Before ops t i j
  pub greatest : (i j : ℕ) (d : ℤ) → delay i j ≡ Some d → (w : ℤ) → Wait latency (ops i) (ops j) w → w ≤ℤ d

-- no more operations issue together than the width, nor are busy on a kind than its units
pub record FitsMachine (ops : ℕ → Guarded) (g : Description) (t : Timing) : Type 0 where
  pub width : (c : ℕ) → issuing t.at t.listed c ≤ g.width
  pub units : (c : ℕ) (u : UnitKind) → busy_on (unit_of ops) u t.at (busy_time ops g) t.listed c ≤ units_of g u

-- the rules that the times decide
pub record KeepsTimes (ops : ℕ → Guarded) (t : Timing) (end : ℕ) : Type 0 where
  pub one_branch : HasOneBranch ops t.listed
  -- all land by the block's end, and the branch at it
  pub drain : (i : ℕ) → Among i t.listed → lands ops t i ≤ end
  pub branch_end : (i : ℕ) → Among i t.listed → IsTrue (is_branch (ops i).op) → lands ops t i ≡ end
  -- what the branch reads has landed when it issues
  pub branch_shadow : (i b : ℕ) (x : Place) → Among i t.listed → Among b t.listed → i ≢ b → IsTrue (is_branch (ops b).op) →
      IsTrue (writes (ops i).op x) → IsTrue (reads (ops b) x) → lands ops t i ≤ t.at b
  pub landing : LandApart ops t
  pub dests : (i : ℕ) → Among i t.listed → IsFalse (is_at_odds (ops i).op)

-- times of a block in another generation: those of the same operations, which keep the rules, with the same relation
pub record IsMoved (ops : ℕ → Guarded) (t : Timing) (g : Description) (new : Timing) (end : ℕ) : Type 0 where
  pub timing : IsTiming new
  pub complete : IsOrderOf new.listed t.listed
  pub fits : FitsMachine ops g new
  pub keeps : KeepsTimes ops new end
  pub before : (i j : ℕ) → Among i t.listed → Among j t.listed → i ≢ j → Before ops t i j ↔ Before ops new i j
