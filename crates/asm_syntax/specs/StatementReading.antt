-- The statement that a line's lexemes write: the table of statements read the other way.
use Rattle.std.specs.Prelude.{ℕ, ℤ, pos, Bool, true, false, nat_eq, nat_le, bytes_eq, List, [], ◌∷◌, map, length, codes, Option, Some, None, option_map, option_and_then, Result, Ok, Err, if◌then◌else◌}
use Rattle.asm_syntax.specs.declared.heads.Head.{Head}
use Rattle.asm_syntax.specs.declared.heads.Head.TheVariants as head
use Rattle.asm_syntax.specs.Lexemes.{Lexeme, Word, Number, Mark}
use Rattle.std.specs.List.{list_all}
use Rattle.list_encoding.specs.Shapes.{slots_of}
use Rattle.asm_syntax.specs.Spellings.{is_name}
use Rattle.asm_syntax.specs.Statements.{Statement, Desc, Pages, Data, Bytes, Word32, Space, Block, Operation, Stop, End, is_described}
use Rattle.asm_syntax.specs.Beginnings.{Begun, begun_by}
use Rattle.asm_syntax.specs.Beginnings as begun
use Rattle.asm_syntax.specs.declared.Unbegun.{Unbegun}
use Rattle.asm_syntax.specs.Reading.{operands_in}

-- what a test lets through
abbrev pub checked : {X : Type 0} → Bool → X → Option X
checked b x = if b then Some x else None

-- a number, and its value
abbrev pub is_number : Lexeme → Bool
is_number (Number z) = true
is_number _ = false

abbrev pub number_of : Lexeme → ℤ
number_of (Number z) = z
number_of _ = pos 0

-- numbers, to the line's end
abbrev pub numbers_in : List Lexeme → Option (List ℤ)
numbers_in line = checked (list_all is_number line) (map number_of line)

-- one number alone
abbrev pub number_in : List Lexeme → Option ℤ
number_in (Number z ∷ []) = Some z
number_in _ = None

-- a name, and what stands behind it
abbrev pub name_in : List Lexeme → Option (List ℕ × List Lexeme)
name_in (Word w ∷ rest) = checked (is_name w) (w, rest)
name_in _ = None

-- nothing
abbrev pub nothing_in : List Lexeme → Option (Unit {0})
nothing_in [] = Some tt
nothing_in _ = None

-- an address, or nothing
abbrev pub address_in : List Lexeme → Option (Option ℤ)
address_in [] = Some None
address_in (Mark c ∷ (Number z ∷ [])) = checked (nat_eq c 64) (Some z)
address_in _ = None

-- a pause, or nothing
abbrev pub pause_in : List Lexeme → Option (Option ℤ)
pause_in [] = Some None
pause_in (Word w ∷ (Number z ∷ [])) = checked (bytes_eq w (codes "pause")) (Some z)
pause_in _ = None

-- a label, and a block, by its name and what stands behind it
abbrev pub data_with : List ℕ × List Lexeme → Option Statement
data_with n = option_map (λ _. Data n.0) (nothing_in n.1)

abbrev pub block_with : List ℕ × List Lexeme → Option Statement
block_with n = option_map (λ at. Block n.0 at) (address_in n.1)

-- the statement of a kind, by what stands behind its word
abbrev pub statement_of : Head → List Lexeme → Option Statement
statement_of head.Desc rest = option_and_then (λ ns. checked (is_described ns) (Desc ns)) (numbers_in rest)
statement_of head.Pages rest = option_map Pages (number_in rest)
statement_of head.Data rest = option_and_then data_with (name_in rest)
statement_of head.Bytes rest = option_and_then (λ ns. checked (nat_le 1 (length ns)) (Bytes ns)) (numbers_in rest)
statement_of head.Word32 rest = option_map Word32 (number_in rest)
statement_of head.Space rest = option_map Space (number_in rest)
statement_of head.Block rest = option_and_then block_with (name_in rest)
statement_of head.Operation rest = None
statement_of head.Stop rest = option_map Stop (pause_in rest)
statement_of head.End rest = option_map (λ _. End) (nothing_in rest)

-- the statement of what is begun
abbrev pub statement_behind : Begun → Option Statement
statement_behind (begun.Operation guard m rest) = option_map (λ xs. Operation guard m xs) (operands_in (slots_of m) rest)
statement_behind (begun.Other kind rest) = statement_of kind rest

abbrev pub statement_begun : Result Begun Unbegun → Option Statement
statement_begun (Ok b) = statement_behind b
statement_begun (Err e) = None

-- the statement of a line
abbrev pub statement_in : List Lexeme → Option Statement
statement_in line = statement_begun (begun_by line)
