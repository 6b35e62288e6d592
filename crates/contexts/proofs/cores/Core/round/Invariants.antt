use Rattle.contexts.proofs.Rounds.{IsInRound}
use Rattle.contexts.proofs.cores.Core.round.Given as goal

abbrev pub invariant-loop-c : goal.invariant-loop-c
invariant-loop-c l = IsInRound l.fn.self l.self-inside.seats.items l.self-inside.loader l.self-inside.pages l.c-end l.c
