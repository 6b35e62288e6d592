-- What holds of accesses and links.
use Rattle.std.specs.Prelude.{ℕ, ◌≡◌, ◌≢◌, ◌+◌, ◌<◌, ◌≤◌, true, IsTrue, List, length, None}
use Rattle.operation.specs.declared.LatKind.{LatKind}
use Rattle.timed_meaning.specs.declared.TimedOp.{TimedOp}
use Rattle.serial_order.specs.SerialOrder.{first_stuck}
use Rattle.block_links.specs.declared.links.Links.{Links}
use Rattle.block_links.specs.Links.{is_linked, delay_along}
use Rattle.block_links.specs.Cover.{Spans, Covers}
use Rattle.dependences.specs.declared.access.Access.{Access}
use Rattle.dependences.specs.Before.{both_write, lands_at}
use Rattle.dependences.specs.Listed.{AreListed}
use Rattle.dependences.specs.Accesses.{AreAccesses, NoneClash, is_clash, access_at}
use Rattle.dependences.specs.Linked.{AreLinked, before_among, latency_among, delay_among}

-- two operations write one register, predicate or target, not as one wired family, and land in one cycle
pub record LandTogether (ops : ℕ → TimedOp) (n i j : ℕ) : Type 0 where
  pub first : i < n
  pub second : j < n
  pub differ : i ≢ j
  pub write : IsTrue (both_write (ops i).guarded.op (ops j).guarded.op)
  pub land : lands_at (ops i) ≡ lands_at (ops j)

-- accesses that clash are those of such operations
abbrev pub ClashesLandTogether : Type 0
ClashesLandTogether =
    (ops : ℕ → TimedOp) (n : ℕ) (list : List Access) → AreAccesses ops n list →
    (p : ℕ) → p + 1 < length list → is_clash (access_at list p) (access_at list (p + 1)) ≡ true →
    LandTogether ops n (access_at list p).number (access_at list (p + 1)).number

-- so where none clash there are no such operations
abbrev pub NoneLandTogether : Type 0
NoneLandTogether =
    (ops : ℕ → TimedOp) (n : ℕ) (list : List Access) → AreAccesses ops n list → NoneClash list →
    (i j : ℕ) → LandTogether ops n i j → ⊥

-- what the laws on links start from
pub record AreSound (ops : ℕ → TimedOp) (n : ℕ) (list : List Access) (l : Links) : Type 0 where
  pub listed : AreListed ops n
  pub accesses : AreAccesses ops n list
  pub apart : NoneClash list
  pub linked : AreLinked ops n list l

-- the links span which operation comes before which
abbrev pub LinksSpan : Type 0
LinksSpan =
    (ops : ℕ → TimedOp) (n : ℕ) (list : List Access) (l : Links) → AreSound ops n list l →
    Spans n (is_linked l) (before_among ops)

-- where the operations have a serial order, the links cover the delays under the latencies of each generation
abbrev pub LinksCover : Type 0
LinksCover =
    (ops : ℕ → TimedOp) (n : ℕ) (list : List Access) (l : Links) → AreSound ops n list l → first_stuck (before_among ops) n ≡ None →
    (latency : LatKind → ℕ) → ((k : LatKind) → (1 ≤ latency k) × (latency k ≤ 32)) →
    Covers (delay_along (latency_among latency ops) l) (delay_among latency ops n)
