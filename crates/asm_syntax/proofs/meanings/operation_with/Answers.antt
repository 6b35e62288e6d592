use Rattle.std.proofs.Common.{ap, ◌∙◌}
use Rattle.std.specs.Prelude.{unwrap_or}
use Rattle.operation.specs.Ranges.{is_in_range}
use Rattle.asm_syntax.specs.Views.{operands_of}
use Rattle.asm_syntax.proofs.OperationRanges.{formed_in_range}
use Rattle.asm_syntax.proofs.meanings.operation_with.Goals as goal

pub returns-clause-in_range : goal.returns-clause-in_range
returns-clause-in_range c = λ formed.
    let line = c.args.line.now in
    ap (is_in_range (unwrap_or line.guard 0)) c.with.ensures ∙ formed_in_range line.guard line.mnemonic (operands_of line.operands) formed
