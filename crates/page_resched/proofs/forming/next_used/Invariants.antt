use Rattle.std.proofs.Common.{◌≡◌, ◌<◌, ◌≤◌, ℕ, get_or}
use Rattle.page_resched.proofs.forming.next_used.Given as goal

abbrev pub invariant-loop-j : goal.invariant-loop-j
invariant-loop-j l = (i : ℕ) → l.m ≤ i → i < l.j → get_or l.cycle (get_or l.listed i 0) 0 ≡ get_or l.cycle (get_or l.listed l.m 0) 0
