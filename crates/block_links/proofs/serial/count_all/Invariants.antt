use Rattle.std.proofs.Common.{◌≡◌, ℕ, [], get_or, length}
use Rattle.serial_order.specs.Counts.{waiting}
use Rattle.block_links.proofs.Counted.{links_of}
use Rattle.block_links.proofs.serial.count_all.Given as goal

abbrev pub invariant-loop-i : goal.invariant-loop-i
invariant-loop-i l = record {
  size : length l.waits ≡ length l.initial.waits;
  counted : (j : ℕ) → get_or l.waits j 0 ≡ waiting (links_of l.links) [] j l.i;
}
