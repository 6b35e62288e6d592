use Rattle.contexts.proofs.Again.{IsBehindTurns}
use Rattle.contexts.proofs.cores.Core.turns.Given as goal

abbrev pub invariant-loop : goal.invariant-loop
invariant-loop l = IsBehindTurns l.fn.self l.self l.c l.times l.counter
