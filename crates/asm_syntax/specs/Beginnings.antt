-- What a line begins: which kind of statement, or why none.
--
-- `(p1) addi r2, r0, 5` begins the operation `addi` under p1, behind which stand the lexemes of `r2, r0, 5`.
use Rattle.std.specs.Prelude.{ℕ, nat_eq, bytes_eq, List, [], ◌∷◌, codes, find, Option, Some, None, option_map, Result, Ok, Err, if◌then◌else◌}
use Rattle.list_encoding.specs.declared.opcodes.Mnemonic.{Mnemonic}
use Rattle.list_encoding.specs.Names.{mnemonic_named}
use Rattle.asm_syntax.specs.declared.heads.Head.{Head}
use Rattle.asm_syntax.specs.declared.heads.Head.TheVariants as head
use Rattle.asm_syntax.specs.declared.Unbegun.{Unbegun}
use Rattle.asm_syntax.specs.declared.Unbegun.TheVariants as unbegun
use Rattle.asm_syntax.specs.Lexemes.{Lexeme, Word, Mark, Pair}
use Rattle.asm_syntax.specs.Reading.{guard_named}

-- what a line begins, and the lexemes behind that: an operation by its guard and its mnemonic, or a statement of another kind
pub data Begun : Type 0 where
  Operation : Option ℕ → Mnemonic → List Lexeme → Begun
  Other : Head → List Lexeme → Begun

-- the words of the statements, beside the mnemonics
abbrev pub directives : List (List ℕ × Head)
directives =
    (codes ".desc", head.Desc) ∷ ((codes ".pages", head.Pages) ∷ ((codes ".data", head.Data) ∷ ((codes ".byte", head.Bytes)
    ∷ ((codes ".word", head.Word32) ∷ ((codes ".space", head.Space) ∷ ((codes ".block", head.Block) ∷ ((codes ".end", head.End) ∷ [])))))))

-- the kind whose word it is
abbrev pub directive_named : List ℕ → Option Head
directive_named word = option_map (λ d. d.1) (find (λ d. bytes_eq d.0 word) directives)

-- an operation of a mnemonic, if the word is one
abbrev pub operation_begun : Option ℕ → Option Mnemonic → List Lexeme → Result Begun Unbegun
operation_begun guard (Some m) rest = Ok (Operation guard m rest)
operation_begun guard None rest = Err unbegun.Mnemonic

-- a statement by its word, else an operation
abbrev pub word_begun : Option Head → List ℕ → List Lexeme → Result Begun Unbegun
word_begun (Some kind) word rest = Ok (Other kind rest)
word_begun None word rest = operation_begun None (mnemonic_named word) rest

-- behind a guard stands an operation's name
abbrev pub behind_guard : ℕ → List Lexeme → Result Begun Unbegun
behind_guard n (Word word ∷ rest) = operation_begun (Some n) (mnemonic_named word) rest
behind_guard n _ = Err unbegun.Mnemonic

-- what a predicate and `)` guard
abbrev pub guarded : Option ℕ → ℕ → List Lexeme → Result Begun Unbegun
guarded None mark rest = Err unbegun.Operand
guarded (Some n) mark rest = if nat_eq mark 41 then behind_guard n rest else Err unbegun.Operand

-- behind `(` stands the rest of a guard
abbrev pub in_guard : List Lexeme → Result Begun Unbegun
in_guard (Word p ∷ (Mark c ∷ rest)) = guarded (guard_named p) c rest
in_guard _ = Err unbegun.Operand

-- what a line begins, or why it begins nothing
abbrev pub begun_by : List Lexeme → Result Begun Unbegun
begun_by (Word word ∷ rest) = word_begun (directive_named word) word rest
begun_by (Mark c ∷ rest) = if nat_eq c 40 then in_guard rest else Err unbegun.Mnemonic
begun_by (Pair ∷ rest) = Ok (Other head.Stop rest)
begun_by _ = Err unbegun.Mnemonic

-- the kind of statement
abbrev pub kind_of : Begun → Head
kind_of (Operation guard m rest) = head.Operation
kind_of (Other kind rest) = kind

abbrev pub kind_by : Result Begun Unbegun → Result Head Unbegun
kind_by (Ok b) = Ok (kind_of b)
kind_by (Err e) = Err e

-- which kind of statement a line begins, or why it begins none
abbrev pub beginning : List Lexeme → Result Head Unbegun
beginning line = kind_by (begun_by line)
