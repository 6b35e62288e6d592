-- Tests of the lexemes of a line.
use Rattle.std.proofs.Common.{◌≡◌, List, Bool, ◌∙◌}
use Rattle.std.specs.Prelude.{ℤ}
use Rattle.std.specs.List.{list_all}
use Rattle.std.proofs.lemmas.List.Folds.{list_all-map}
use Rattle.asm_syntax.specs.declared.lexemes.Lexeme.{Lexeme as Written}
use Rattle.asm_syntax.specs.Lexemes.{Lexeme}
use Rattle.asm_syntax.specs.StatementReading.{number_of}
use Rattle.asm_syntax.specs.Views.{lexeme_of, line_of, numbers_of}

pub lexemes_all : (p : Lexeme → Bool) (xs : List Written) → list_all p (line_of xs) ≡ list_all (λ x. p (lexeme_of x)) xs
lexemes_all p xs = list_all-map p lexeme_of xs

pub numbers_all : (p : ℤ → Bool) (xs : List Written) → list_all p (numbers_of xs) ≡ list_all (λ x. p (number_of (lexeme_of x))) xs
numbers_all p xs = list_all-map p number_of (line_of xs) ∙ list_all-map (λ x. p (number_of x)) lexeme_of xs
