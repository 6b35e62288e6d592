use Rattle.std.proofs.Common.{◌≡◌, ◌+◌, ℕ, get_or, length, take}
use Rattle.block_links.specs.Links.{count_to}
use Rattle.block_links.proofs.serial.count_on.Given as goal

abbrev pub invariant-loop-link : goal.invariant-loop-link
invariant-loop-link l = record {
  size : length l.waits ≡ length l.initial.waits;
  counted : (j : ℕ) → get_or l.waits j 0 ≡ get_or l.initial.waits j 0 + count_to (take l.link-index l.links) j;
}
