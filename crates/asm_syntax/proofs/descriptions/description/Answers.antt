use Rattle.std.proofs.Common.{sym, ◌∙◌}
use Rattle.asm_syntax.specs.Views.{numbers_of}
use Rattle.asm_syntax.proofs.Described.{described}
use Rattle.asm_syntax.proofs.descriptions.description.Goals as goal

pub returns-clause-in_range : goal.returns-clause-in_range
returns-clause-in_range c =
    described (numbers_of c.args.numbers.now) _ _ _ _ _ (sym c.are_unsigned.ensures ∙ c.if-not-are_unsigned.false) c.at.ensures c.units.ensures c.times.ensures c.busy_times.ensures c.with_busy.ensures.in_range
