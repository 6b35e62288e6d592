use Rattle.std.proofs.Common.{◌≡◌, ◌<◌, ◌+◌, ◌^◌, length, All}
use Rattle.calls.proofs.meanings.block.Given as goal

abbrev pub invariant-loop-op : goal.invariant-loop-op
invariant-loop-op g l =
    record {
      few : length l.listed.items ≡ l.op-index;
      landings : All (λ k. k.at + k.latency < 2 ^ 32) l.listed.items;
    }
