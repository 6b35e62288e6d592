use Rattle.block_table.specs.Padding.{AreZero}
use Rattle.block_table.proofs.padding.first_filled.Given as goal

abbrev pub invariant-loop-address : goal.invariant-loop-address
invariant-loop-address l = AreZero l.words l.begin l.address
