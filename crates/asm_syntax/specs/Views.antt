-- What the code's values stand for.
use Rattle.std.specs.Prelude.{ℤ, List, [], ◌∷◌, map, Result, Ok, Err}
use Rattle.asm_syntax.specs.declared.lexemes.Lexeme.{Lexeme as Written}
use Rattle.asm_syntax.specs.declared.lexemes.Lexeme.TheVariants as written
use Rattle.asm_syntax.specs.declared.operands.Operand.{Operand as Found}
use Rattle.asm_syntax.specs.declared.operands.Operand.TheVariants as found
use Rattle.asm_syntax.specs.declared.operands.Read.{Read}
use Rattle.asm_syntax.specs.declared.lists.Operands.{Operands}
use Rattle.asm_syntax.specs.declared.lists.Operands.TheVariants.{One, Two, Three, Four}
use Rattle.asm_syntax.specs.declared.beginnings.Beginning.{Beginning}
use Rattle.asm_syntax.specs.declared.beginnings.Beginning.TheVariants as beginning
use Rattle.asm_syntax.specs.declared.statements.OperationLine.{OperationLine}
use Rattle.asm_syntax.specs.declared.statements.Statement.{Statement as Line}
use Rattle.asm_syntax.specs.declared.statements.Statement.TheVariants as line
use Rattle.asm_syntax.specs.declared.Unbegun.{Unbegun}
use Rattle.asm_syntax.specs.Lexemes.{Lexeme, Word, Number, Mark, Pair}
use Rattle.asm_syntax.specs.Operands.{Operand, General, Predicate, Target, Destination, Immediate, Named}
use Rattle.asm_syntax.specs.Beginnings.{Begun}
use Rattle.asm_syntax.specs.Beginnings as begun
use Rattle.asm_syntax.specs.Statements.{Statement}
use Rattle.asm_syntax.specs.Statements as statement
use Rattle.asm_syntax.specs.StatementReading.{number_of}

-- a lexeme without where its bytes lie
abbrev pub lexeme_of : Written → Lexeme
lexeme_of (written.Word w) = Word w.now
lexeme_of (written.Number z) = Number z
lexeme_of (written.Mark c) = Mark c
lexeme_of written.Pair = Pair

-- the lexemes of a line
abbrev pub line_of : List Written → List Lexeme
line_of xs = map lexeme_of xs

-- the numbers of lexemes that are numbers
abbrev pub numbers_of : List Written → List ℤ
numbers_of xs = map number_of (line_of xs)

-- an operand without where its bytes lie
abbrev pub operand_of : Found → Operand
operand_of (found.General n) = General n
operand_of (found.Predicate n) = Predicate n
operand_of (found.Target n) = Target n
operand_of (found.Destination d) = Destination d
operand_of (found.Immediate z) = Immediate z
operand_of (found.Named w) = Named w.now

-- an operand with what stands behind it
abbrev pub read_of : Read → Operand × List Lexeme
read_of r = (operand_of r.operand, line_of r.rest.now)

-- operands in order
abbrev pub operands_of : Operands → List Operand
operands_of (One a) = operand_of a ∷ []
operands_of (Two a b) = operand_of a ∷ (operand_of b ∷ [])
operands_of (Three a b c) = operand_of a ∷ (operand_of b ∷ (operand_of c ∷ []))
operands_of (Four a b c d) = operand_of a ∷ (operand_of b ∷ (operand_of c ∷ (operand_of d ∷ [])))

-- what a line begins
abbrev pub begun_of : Beginning → Begun
begun_of (beginning.Operation guard m rest) = begun.Operation guard m (line_of rest.now)
begun_of (beginning.Other kind rest) = begun.Other kind (line_of rest.now)

abbrev pub begun_result : Result Beginning Unbegun → Result Begun Unbegun
begun_result (Ok b) = Ok (begun_of b)
begun_result (Err e) = Err e

-- an operation
abbrev pub operation_of : OperationLine → Statement
operation_of o = statement.Operation o.guard o.mnemonic (operands_of o.operands)

-- a statement without where its names and numbers lie
abbrev pub statement_of : Line → Statement
statement_of (line.Desc ns) = statement.Desc (numbers_of ns.now)
statement_of (line.Pages n) = statement.Pages n
statement_of (line.Data name) = statement.Data name.now
statement_of (line.Bytes ns) = statement.Bytes (numbers_of ns.now)
statement_of (line.Word32 n) = statement.Word32 n
statement_of (line.Space n) = statement.Space n
statement_of (line.Block name at) = statement.Block name.now at
statement_of (line.Operation o) = operation_of o
statement_of (line.Stop n) = statement.Stop n
statement_of line.End = statement.End
