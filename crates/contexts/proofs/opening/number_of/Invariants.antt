use Rattle.std.proofs.Common.{◌≡◌, ◌<◌, ℕ}
use Rattle.std.specs.Prelude.{slice_get, Some}
use Rattle.page_fault.specs.declared.Loaded.{Loaded}
use Rattle.contexts.specs.Standing.{AreSame}
use Rattle.contexts.proofs.opening.number_of.Given as goal

abbrev pub invariant-loop-n : goal.invariant-loop-n
invariant-loop-n l = (m : ℕ) (q : Loaded) → m < l.n → slice_get l.programs m ≡ Some q → AreSame q l.program → ⊥
