use Rattle.asm_syntax.proofs.OneStatement.{said_is_read}
use Rattle.asm_syntax.proofs.ReadIsSaid.{read_is_said}
use Rattle.asm_syntax.proofs.laws.statement_lines.Goals as goal

pub returns : goal.returns
returns c = λ line st. (read_is_said line st, said_is_read line st)
