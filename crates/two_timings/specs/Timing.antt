-- Timings of a block's operations, and when one agrees with a serial order. The operations are named by number.
use Rattle.std.specs.Prelude.{ℕ, ◌≡◌, ◌≢◌, ◌+◌, ◌<◌, ◌≤◌, ◌⊎◌, ◌↔◌, List, map, IsTrue, IsFalse}
use Rattle.operation.specs.declared.Guarded.{Guarded}
use Rattle.operation.specs.declared.Op.{Op}
use Rattle.operation.specs.declared.LatKind.{LatKind}
use Rattle.operation.specs.declared.Place.{Place}
use Rattle.operation.specs.declared.Place.TheVariants.{Memory}
use Rattle.operation.specs.Places.{reads, writes, are_wired_together, is_store, is_branch, latency_kind}
use Rattle.timed_meaning.specs.declared.TimedOp.{TimedOp}
use Rattle.serial_order.specs.Lists.{Among, Earlier, EachOnce}
use Rattle.trap_order.specs.Order.{keep_issue_order}

-- the operations' numbers in list order, the issue cycle of each, and the latencies of a generation
pub record Timing : Type 0 where
  pub listed : List ℕ
  pub at : ℕ → ℕ
  pub latency : LatKind → ℕ

-- an operation's latency
abbrev pub latency_of : (ℕ → Guarded) → Timing → ℕ → ℕ
latency_of ops t k = t.latency (latency_kind (ops k).op)

-- when an operation's writes land
abbrev pub lands : (ℕ → Guarded) → Timing → ℕ → ℕ
lands ops t k = t.at k + latency_of ops t k

-- an operation with its times
abbrev pub timed : (ℕ → Guarded) → Timing → ℕ → TimedOp
timed ops t k = record { guarded = ops k; at = t.at k; latency = latency_of ops t k }

-- the operations in list order, each with its times
abbrev pub timed_ops : (ℕ → Guarded) → Timing → List TimedOp
timed_ops ops t = map (timed ops t) t.listed

-- each operation is listed once, issue cycles never fall, and each latency is at least 1
pub record IsTiming (t : Timing) : Type 0 where
  pub each_once : EachOnce t.listed
  pub never_fall : (i j : ℕ) → Earlier t.listed i j → t.at i ≤ t.at j
  pub latencies : (k : LatKind) → 0 < t.latency k

-- at most one operation of the list is a branch
abbrev pub HasOneBranch : (ℕ → Guarded) → List ℕ → Type 0
HasOneBranch ops list =
    (i j : ℕ) → Among i list → Among j list → IsTrue (is_branch (ops i).op) → IsTrue (is_branch (ops j).op) → i ≡ j

-- both write the register, predicate or target, and aren't of one wired family there
pub record BothWriteAt (i j : Op) (x : Place) : Type 0 where
  pub place : x ≢ Memory
  pub first : IsTrue (writes i x)
  pub second : IsTrue (writes j x)
  pub apart : IsFalse (are_wired_together i j x)

-- two operations that write one register, predicate or target, not as one wired family, don't land in one cycle
abbrev pub LandApart : (ℕ → Guarded) → Timing → Type 0
LandApart ops t =
    (i j : ℕ) (x : Place) → Among i t.listed → Among j t.listed → i ≢ j → BothWriteAt (ops i).op (ops j).op x →
    lands ops t i ≢ lands ops t j

-- both are stores, or both can trap, or both are inb
abbrev pub KeepListOrder : Op → Op → Type 0
KeepListOrder i j = (IsTrue (is_store i) × IsTrue (is_store j)) ⊎ IsTrue (keep_issue_order i j)

-- the order has the listed operations, each once
pub record IsOrderOf (order listed : List ℕ) : Type 0 where
  pub each_once : EachOnce order
  pub same : (k : ℕ) → Among k order ↔ Among k listed

-- the timing agrees with the serial order, where i stands earlier in the order than j
pub record Agrees (ops : ℕ → Guarded) (t : Timing) (order : List ℕ) : Type 0 where
  -- where i writes a place that j reads, i lands at or before j's issue
  pub new_read : (i j : ℕ) (x : Place) → Earlier order i j → IsTrue (writes (ops i).op x) → IsTrue (reads (ops j) x) →
      lands ops t i ≤ t.at j
  -- where i reads a place that j writes, j lands after i's issue
  pub old_read : (i j : ℕ) (x : Place) → Earlier order i j → IsTrue (reads (ops i) x) → IsTrue (writes (ops j).op x) →
      t.at i < lands ops t j
  -- where both write one register, predicate or target and aren't of one wired family there, i lands earlier
  pub in_turn : (i j : ℕ) (x : Place) → Earlier order i j → BothWriteAt (ops i).op (ops j).op x →
      lands ops t i < lands ops t j
  -- where both are stores, or both can trap, or both are inb, i is listed earlier
  pub listed : (i j : ℕ) → Earlier order i j → KeepListOrder (ops i).op (ops j).op → Earlier t.listed i j
