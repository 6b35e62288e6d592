use Rattle.std.proofs.Common.{◌≡◌, length}
use Rattle.std.specs.Prelude.{map, take}
use Rattle.machine_desc.specs.Description.{latency_of}
use Rattle.latency_deps.specs.declared.block.WordOp.{WordOp}
use Rattle.dependences.specs.Graph.{node}
use Rattle.latency_deps.proofs.graph.write_nodes.Given as goal

abbrev pub invariant-loop-k : goal.invariant-loop-k
invariant-loop-k g l = record {
  count : length l.nodes ≡ length l.ops;
  written : take l.k l.nodes ≡ map (λ (o : WordOp). node (latency_of (g.G.Generation.description l.g)) o.timed) (take l.k l.ops);
}
