use Rattle.std.proofs.Common.{sym, ap, ◌∙◌}
use Rattle.asm_syntax.specs.StatementReading.{statement_behind}
use Rattle.asm_syntax.specs.Views.{begun_of}
use Rattle.asm_syntax.proofs.statements.statement_behind.Goals as goal

pub returns-in-Operation : goal.returns-in-Operation
returns-in-Operation c = c.operation.ensures ∙ ap (λ b. statement_behind (begun_of b)) (sym c.in-Operation.is)
