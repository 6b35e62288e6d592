use Rattle.std.proofs.Common.{sym, ◌∙◌}
use Rattle.asm_syntax.specs.Views.{line_of, operand_of}
use Rattle.asm_syntax.proofs.Slots.{four_read}
use Rattle.asm_syntax.proofs.lists.four.Goals as goal

pub returns : goal.returns
returns c =
    let x = c.in_ok-first.first in
    let y = c.in_ok-second.second in
    let z = c.in_ok-third.third in
    let w = c.in_ok-fourth.fourth in
    c.whole.ensures
    ∙ sym (four_read c.args.a c.args.b c.args.c c.args.d (line_of c.args.line.now) (line_of x.rest.now) (line_of y.rest.now) (line_of z.rest.now) (line_of w.rest.now)
    (operand_of x.operand) (operand_of y.operand) (operand_of z.operand) (operand_of w.operand)
    (sym c.in_ok-first.ensures) (sym c.in_ok-second.ensures) (sym c.in_ok-third.ensures) (sym c.in_ok-fourth.ensures))
