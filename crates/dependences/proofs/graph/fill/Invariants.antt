use Rattle.std.proofs.Common.{ℕ, length}
use Rattle.serial_order.specs.Table.{HasRoom}
use Rattle.dependences.proofs.Tables.{TableTo}
use Rattle.dependences.proofs.graph.fill.Given as goal

abbrev pub invariant-loop-i : goal.invariant-loop-i
invariant-loop-i l = record {
  table : TableTo l.nodes (length l.nodes) l.i l.d;
  room : (most : ℕ) → HasRoom l.fn.d most → HasRoom l.d most;
}
