use Rattle.contexts.proofs.Rounds.{IsBehindRounds}
use Rattle.contexts.proofs.cores.Core.rounds.Given as goal

abbrev pub invariant-loop : goal.invariant-loop
invariant-loop l = IsBehindRounds l.fn.self l.self l.times l.counter
