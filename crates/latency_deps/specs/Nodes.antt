-- The nodes of a block's operations. For contracts within the crate.
use Rattle.std.specs.Prelude.{ℕ, ◌≡◌, ◌<◌, ◌^◌, List, length, map, slice_index_or}
use Rattle.operation.specs.declared.LatKind.{LatKind}
use Rattle.timed_meaning.specs.declared.TimedOp.{TimedOp}
use Rattle.list_encoding.specs.Reading.{halt}
use Rattle.dependences.specs.declared.graph.Node.{Node}
use Rattle.dependences.specs.Before.{lands_at}
use Rattle.dependences.specs.Graph.{node}
use Rattle.latency_deps.specs.declared.block.WordOp.{WordOp}

-- the operation i of some words with their operations
abbrev pub op_at : List WordOp → ℕ → TimedOp
op_at ops i = (slice_index_or ops i (record { word = 0; timed = record { guarded = halt; at = 0; latency = 1 } })).timed

-- each of these operations lands in a cycle below 2^32
abbrev pub LandInTime : List WordOp → Type 0
LandInTime ops = (i : ℕ) → i < length ops → lands_at (op_at ops i) < 2 ^ 32

-- the nodes of operations, in their order
abbrev pub AreNodes : (LatKind → ℕ) → List WordOp → List Node → Type 0
AreNodes latency ops nodes = nodes ≡ map (λ o. node latency o.timed) ops
