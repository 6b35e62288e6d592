use Rattle.std.proofs.Common.{◌≡◌, ◌<◌, ℕ, map, drop}
use Rattle.std.specs.Prelude.{slice_get, Some}
use Rattle.machine_desc.specs.Value.{description_of}
use Rattle.image_check.specs.Units.{HasUnits}
use Rattle.context_system.specs.Needs.{first_without}
use Rattle.contexts.specs.declared.Setup.{Setup}
use Rattle.contexts.specs.Core.{run_of}
use Rattle.contexts.proofs.opening.first_lacking.Given as goal

abbrev pub invariant-loop-c : goal.invariant-loop-c
invariant-loop-c l = record {
  rest : first_without l.c (map run_of (drop l.c l.setups)) ≡ first_without 0 (map run_of l.setups);
  units : (i : ℕ) (s : Setup) → i < l.c → slice_get l.setups i ≡ Some s → HasUnits s.image (description_of s.chosen);
}
