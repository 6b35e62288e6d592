use Rattle.contexts.specs.Standing.{AreBegun}
use Rattle.contexts.proofs.opening.all_seated.Given as goal

abbrev pub invariant-loop-setup : goal.invariant-loop-setup
invariant-loop-setup l =
    (goal.iterator-loop-setup).can_next l.setup-iterator ×
    (goal.iterator-loop-setup).is_finite l.setup-iterator ×
    AreBegun l.yielded l.seats.items l.programs.items
