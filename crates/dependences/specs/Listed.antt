-- The operations of a block by number, in list order, with their times.
use Rattle.std.specs.Prelude.{ℕ, ◌≡◌, ◌^◌, ◌<◌, ◌≤◌, List}
use Rattle.operation.specs.Places.{latency_kind}
use Rattle.timed_meaning.specs.declared.TimedOp.{TimedOp}
use Rattle.dependences.specs.declared.graph.Node.{Node}
use Rattle.dependences.specs.Graph.{node_at}

-- n operations in list order: issue cycles never fall, and those of one latency kind land the same number of cycles later
pub record AreListed (ops : ℕ → TimedOp) (n : ℕ) : Type 0 where
  pub few : n ≤ 512
  pub never_fall : (i j : ℕ) → i < j → j < n → (ops i).at ≤ (ops j).at
  pub early : (i : ℕ) → i < n → (ops i).at ≤ 2 ^ 14
  pub late : (i : ℕ) → i < n → 1 ≤ (ops i).latency
  pub short : (i : ℕ) → i < n → (ops i).latency ≤ 32
  pub alike : (i j : ℕ) → i < n → j < n → latency_kind (ops i).guarded.op ≡ latency_kind (ops j).guarded.op →
      (ops i).latency ≡ (ops j).latency

-- the operations of nodes
abbrev pub ops_at : List Node → ℕ → TimedOp
ops_at nodes i = (node_at nodes i).timed
