use Rattle.asm_syntax.proofs.KindKept.{kind_kept}
use Rattle.asm_syntax.proofs.laws.kind_kept.Goals as goal

pub returns : goal.returns
returns c = kind_kept
