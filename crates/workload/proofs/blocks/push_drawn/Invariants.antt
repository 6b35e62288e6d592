use Rattle.std.proofs.Common.{◌≡◌, ◌*◌, ◌++◌}
use Rattle.workload.specs.Draws.{after}
use Rattle.workload.specs.Words.{drawn_words}
use Rattle.workload.proofs.blocks.push_drawn.Given as goal

-- so many operations have been drawn
abbrev pub invariant-loop-step : goal.invariant-loop-step
invariant-loop-step l =
    record {
      words : l.words.items ≡ l.fn.words.items ++ drawn_words l._step l.fn.draws.x;
      state : l.draws.x ≡ after (5 * l._step) l.fn.draws.x;
    }
