use Rattle.std.proofs.Common.{◌≡◌, ◌+◌, ◌≤◌, ◌++◌, ℕ, List, get_or, length, take}
use Rattle.std.specs.Prelude.{vec_capacity}
use Rattle.block_links.specs.Idle.{AreIdle}
use Rattle.block_links.specs.Links.{count_to}
use Rattle.block_links.proofs.serial.release.Given as goal

abbrev pub invariant-loop-link : goal.invariant-loop-link
invariant-loop-link l = record {
  size : length l.waits ≡ length l.initial.waits;
  off : (j : ℕ) → get_or l.waits j 0 + count_to (take l.link-index l.links) j ≡ get_or l.initial.waits j 0;
  idle : AreIdle (length l.waits) l.waits l.order.items;
  behind : (more : List ℕ) × (l.order.items ≡ l.fn.order.items ++ more);
  room : vec_capacity l.fn.order ≤ vec_capacity l.order;
}
