use Rattle.asm_syntax.proofs.OneStatement.{one_statement}
use Rattle.asm_syntax.proofs.laws.one_statement.Goals as goal

pub returns : goal.returns
returns c = one_statement
