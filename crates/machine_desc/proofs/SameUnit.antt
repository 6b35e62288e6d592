-- Unit kinds that pass the test of being one are one.
use Rattle.std.proofs.Common.{◌≡◌, true, refl}
use Rattle.std.proofs.lemmas.Bool.{false≢true}
use Rattle.operation.specs.declared.UnitKind.{UnitKind}
use Rattle.operation.specs.declared.UnitKind.TheVariants as unit
use Rattle.machine_desc.specs.Issue.{same_unit}

pub same_unit_is : (u v : UnitKind) → same_unit u v ≡ true → u ≡ v
same_unit_is unit.I unit.I e = refl
same_unit_is unit.M unit.M e = refl
same_unit_is unit.L unit.L e = refl
same_unit_is unit.P unit.P e = refl
same_unit_is unit.B unit.B e = refl
same_unit_is _ _ e = absurd (false≢true e)
