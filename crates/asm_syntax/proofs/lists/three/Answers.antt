use Rattle.std.proofs.Common.{sym, ◌∙◌}
use Rattle.asm_syntax.specs.Views.{line_of, operand_of}
use Rattle.asm_syntax.proofs.Slots.{three_read}
use Rattle.asm_syntax.proofs.lists.three.Goals as goal

pub returns : goal.returns
returns c =
    let x = c.in_ok-first.first in
    let y = c.in_ok-second.second in
    let z = c.in_ok-third.third in
    c.whole.ensures
    ∙ sym (three_read c.args.a c.args.b c.args.c (line_of c.args.line.now) (line_of x.rest.now) (line_of y.rest.now) (line_of z.rest.now)
    (operand_of x.operand) (operand_of y.operand) (operand_of z.operand)
    (sym c.in_ok-first.ensures) (sym c.in_ok-second.ensures) (sym c.in_ok-third.ensures))
