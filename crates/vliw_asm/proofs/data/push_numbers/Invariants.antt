use Rattle.std.proofs.Common.{◌≡◌, ◌++◌, map, take}
use Rattle.asm_syntax.specs.Meanings.{byte}
use Rattle.asm_syntax.specs.Views.{numbers_of}
use Rattle.vliw_asm.proofs.data.push_numbers.Given as goal

abbrev pub invariant-loop-lexeme : goal.invariant-loop-lexeme
invariant-loop-lexeme l = l.init.items ≡ l.fn.init.items ++ map byte (numbers_of (take l.lexeme-index l.numbers))
