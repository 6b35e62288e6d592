-- What holds of the language.
use Rattle.std.specs.Prelude.{◌≡◌, ◌↔◌, List, Some}
use Rattle.asm_syntax.specs.Lexemes.{Lexeme}
use Rattle.asm_syntax.specs.Beginnings.{Begun, kind_of}
use Rattle.asm_syntax.specs.Statements.{Statement, head_of, Says}
use Rattle.asm_syntax.specs.StatementReading.{statement_behind, statement_in}

-- a line is read as a statement exactly where it says it
abbrev pub StatementLines : Type 0
StatementLines = (line : List Lexeme) (st : Statement) → (statement_in line ≡ Some st) ↔ Says line st

-- a line says one statement at most
abbrev pub OneStatement : Type 0
OneStatement = (line : List Lexeme) (a b : Statement) → Says line a → Says line b → a ≡ b

-- a statement is of the kind that its line begins
abbrev pub KindKept : Type 0
KindKept = (b : Begun) (st : Statement) → statement_behind b ≡ Some st → head_of st ≡ kind_of b
