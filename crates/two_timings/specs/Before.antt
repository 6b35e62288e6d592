-- Which operation of a block comes before which, by the times of the block.
use Rattle.std.specs.Prelude.{ℕ, ◌≢◌, ◌<◌, ◌≤◌, List, IsTrue}
use Rattle.operation.specs.declared.Guarded.{Guarded}
use Rattle.operation.specs.declared.Place.{Place}
use Rattle.operation.specs.declared.Place.TheVariants.{Memory}
use Rattle.operation.specs.Places.{reads, writes, is_store, is_load}
use Rattle.serial_order.specs.Lists.{Among, Earlier}
use Rattle.trap_order.specs.Order.{keep_issue_order}
use Rattle.two_timings.specs.Timing.{Timing, lands, BothWriteAt, IsOrderOf}

-- i comes before j, another operation
pub data Before (ops : ℕ → Guarded) (t : Timing) (i j : ℕ) : Type 0 where
  -- i writes a register, predicate or target that j reads, and lands at or before j's issue
  Read : (x : Place) → x ≢ Memory → IsTrue (writes (ops i).op x) → IsTrue (reads (ops j) x) → lands ops t i ≤ t.at j → Before ops t i j
  -- i reads a register, predicate or target that j writes, and j lands after i's issue
  ReadOld : (x : Place) → x ≢ Memory → IsTrue (reads (ops i) x) → IsTrue (writes (ops j).op x) → t.at i < lands ops t j → Before ops t i j
  -- both write a register, predicate or target, not as one wired family, and i lands earlier
  Write : (x : Place) → BothWriteAt (ops i).op (ops j).op x → lands ops t i < lands ops t j → Before ops t i j
  -- i is a store, j is a load, and i lands at or before j's issue
  Load : IsTrue (is_store (ops i).op) → IsTrue (is_load (ops j).op) → lands ops t i ≤ t.at j → Before ops t i j
  -- i is a load, j is a store, and j lands after i's issue
  LoadOld : IsTrue (is_load (ops i).op) → IsTrue (is_store (ops j).op) → t.at i < lands ops t j → Before ops t i j
  -- both are stores and i is listed earlier
  Stores : IsTrue (is_store (ops i).op) → IsTrue (is_store (ops j).op) → Earlier t.listed i j → Before ops t i j
  -- both can trap, or both are inb, and i is listed earlier
  Issue : IsTrue (keep_issue_order (ops i).op (ops j).op) → Earlier t.listed i j → Before ops t i j

-- a serial order of the block: its operations, each once, in which i stands earlier than j wherever i is before j
pub record IsSerialOrder (ops : ℕ → Guarded) (t : Timing) (order : List ℕ) : Type 0 where
  pub complete : IsOrderOf order t.listed
  pub kept : (i j : ℕ) → Among i t.listed → Among j t.listed → i ≢ j → Before ops t i j → Earlier order i j
