use Rattle.object_format.proofs.Unbroken.{unbroken}
use Rattle.object_format.proofs.KeepsRules.{keeps_rules}
use Rattle.object_format.proofs.ReadWritten.{all_written}
use Rattle.object_format.proofs.laws.written_again.Goals as goal

pub returns : goal.returns
returns c = λ bytes all none. let u = unbroken bytes none in (keeps_rules bytes u all, all_written bytes u all)
