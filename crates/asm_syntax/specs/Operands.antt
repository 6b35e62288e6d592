-- The operands of an operation, and how they are written.
--
-- `r1, p2.un, -7, @main` has the operands `General 1`, `Destination p2 Un`, `Number -7` and `Named main`.
use Rattle.std.specs.Prelude.{ℕ, ℤ, Bool, true, List, [], ◌∷◌, ◌++◌, codes}
use Rattle.operation.specs.declared.Dest.{Dest}
use Rattle.operation.specs.Ranges.{is_register, is_target}
use Rattle.asm_syntax.specs.Lexemes.{Lexeme, Word, Number, Mark}
use Rattle.asm_syntax.specs.Spellings as spelled

-- an operand
pub data Operand : Type 0 where
  General : ℕ → Operand
  Predicate : ℕ → Operand
  Target : ℕ → Operand
  Destination : Dest → Operand
  Immediate : ℤ → Operand
  Named : List ℕ → Operand

-- the register that it names is there, or it is a name
abbrev pub is_operand : Operand → Bool
is_operand (General n) = is_register n
is_operand (Predicate n) = is_register n
is_operand (Target n) = is_target n
is_operand (Destination d) = is_register d.p
is_operand (Immediate z) = true
is_operand (Named name) = spelled.is_name name

-- how it is written
abbrev pub operand_lexemes : Operand → List Lexeme
operand_lexemes (General n) = Word (spelled.general n) ∷ []
operand_lexemes (Predicate n) = Word (spelled.predicate n) ∷ []
operand_lexemes (Target n) = Word (spelled.target n) ∷ []
operand_lexemes (Destination d) = Word (spelled.predicate d.p ++ (codes "." ++ spelled.action_name d.action)) ∷ []
operand_lexemes (Immediate z) = Number z ∷ []
operand_lexemes (Named name) = Mark 64 ∷ (Word name ∷ [])

-- the further ones, each behind a comma
abbrev pub further_lexemes : List Operand → List Lexeme
further_lexemes [] = []
further_lexemes (x ∷ xs) = Mark 44 ∷ (operand_lexemes x ++ further_lexemes xs)

-- how they are written, with commas between
abbrev pub operands_lexemes : List Operand → List Lexeme
operands_lexemes [] = []
operands_lexemes (x ∷ xs) = operand_lexemes x ++ further_lexemes xs
