use Rattle.std.proofs.Common.{ℕ}
use Rattle.serial_order.specs.Table.{HasRoom}
use Rattle.dependences.proofs.Tables.{PairsTo}
use Rattle.dependences.proofs.graph.fill_pairs.Given as goal

abbrev pub invariant-loop-j : goal.invariant-loop-j
invariant-loop-j l = record {
  pairs : PairsTo l.nodes l.i l.j l.fn.d l.d;
  room : (most : ℕ) → HasRoom l.fn.d most → HasRoom l.d most;
}
