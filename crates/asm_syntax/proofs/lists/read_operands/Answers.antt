use Rattle.std.proofs.Common.{ap, ◌∙◌}
use Rattle.asm_syntax.specs.Reading.{operands_in}
use Rattle.asm_syntax.specs.Views.{line_of}
use Rattle.asm_syntax.proofs.Choosing.{two_are, three_are, four_are}
use Rattle.asm_syntax.proofs.lists.read_operands.Goals as goal

pub returns-in-len2 : goal.returns-in-len2
returns-in-len2 c =
    c.two.ensures ∙ ap (λ s. operands_in s (line_of c.args.line.now)) (two_are c.args.slots.now _ _ c.in-len2.len_at_least c.in-len2.len_below)

pub returns-in-len3 : goal.returns-in-len3
returns-in-len3 c =
    c.three.ensures ∙ ap (λ s. operands_in s (line_of c.args.line.now)) (three_are c.args.slots.now _ _ _ c.in-len3.len_at_least c.in-len3.len_below)

pub returns-in-len4 : goal.returns-in-len4
returns-in-len4 c =
    c.four.ensures ∙ ap (λ s. operands_in s (line_of c.args.line.now)) (four_are c.args.slots.now _ _ _ _ c.in-len4.len_at_least c.in-len4.len_below)
