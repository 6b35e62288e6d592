use Rattle.std.proofs.Common.{◌≡◌, ◌<◌, ◌+◌, ℕ, false}
use Rattle.dependences.specs.Accesses.{access_at, is_clash}
use Rattle.dependences.proofs.access.some_clash.Given as goal

abbrev pub invariant-loop-p : goal.invariant-loop-p
invariant-loop-p l = (k : ℕ) → k + 1 < l.p → is_clash (access_at l.accesses k) (access_at l.accesses (k + 1)) ≡ false
