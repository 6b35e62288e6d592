-- The statements of the language, and the line that each is written as.
--
-- `;; pause 2` is the statement `Stop (Some 2)`, `(p1) inb r3` is `Operation (Some 1) Inb (General 3)`.
use Rattle.std.specs.Prelude.{ℕ, ◌≡◌, ℤ, Bool, true, ◌&&◌, ◌||◌, nat_eq, nat_le, IsTrue, List, [], ◌∷◌, ◌++◌, map, length, codes, Option, Some, None}
use Rattle.operation.specs.Ranges.{is_register}
use Rattle.list_encoding.specs.declared.opcodes.Mnemonic.{Mnemonic}
use Rattle.list_encoding.specs.Opcodes.{opcode_of}
use Rattle.asm_syntax.specs.Lexemes.{Lexeme, Word, Number, Mark, Pair}
use Rattle.list_encoding.specs.Names.{name_of}
use Rattle.list_encoding.specs.Shapes.{slots_of}
use Rattle.asm_syntax.specs.Spellings.{predicate, is_name}
use Rattle.asm_syntax.specs.Operands.{Operand, operands_lexemes}
use Rattle.asm_syntax.specs.Fitting.{all_fit}
use Rattle.asm_syntax.specs.declared.heads.Head.{Head}
use Rattle.asm_syntax.specs.declared.heads.Head.TheVariants as head

-- a statement
pub data Statement : Type 0 where
  Desc : List ℤ → Statement
  Pages : ℤ → Statement
  Data : List ℕ → Statement
  Bytes : List ℤ → Statement
  Word32 : ℤ → Statement
  Space : ℤ → Statement
  Block : List ℕ → Option ℤ → Statement
  Operation : Option ℕ → Mnemonic → List Operand → Statement
  Stop : Option ℤ → Statement
  End : Statement

-- what kind of statement it is
abbrev pub head_of : Statement → Head
head_of (Desc ns) = head.Desc
head_of (Pages n) = head.Pages
head_of (Data name) = head.Data
head_of (Bytes ns) = head.Bytes
head_of (Word32 n) = head.Word32
head_of (Space n) = head.Space
head_of (Block name at) = head.Block
head_of (Operation p m xs) = head.Operation
head_of (Stop n) = head.Stop
head_of End = head.End

-- numbers, one after another
abbrev pub numbers : List ℤ → List Lexeme
numbers ns = map (λ n. Number n) ns

-- the address of a block, where it is given
abbrev pub address : Option ℤ → List Lexeme
address None = []
address (Some n) = Mark 64 ∷ (Number n ∷ [])

-- the guard, where it is written
abbrev pub guard : Option ℕ → List Lexeme
guard None = []
guard (Some n) = Mark 40 ∷ (Word (predicate n) ∷ (Mark 41 ∷ []))

-- the pause, where it is given
abbrev pub pause : Option ℤ → List Lexeme
pause None = []
pause (Some n) = Word (codes "pause") ∷ (Number n ∷ [])

-- the line of a statement
abbrev pub line_of : Statement → List Lexeme
line_of (Desc ns) = Word (codes ".desc") ∷ numbers ns
line_of (Pages n) = Word (codes ".pages") ∷ (Number n ∷ [])
line_of (Data name) = Word (codes ".data") ∷ (Word name ∷ [])
line_of (Bytes ns) = Word (codes ".byte") ∷ numbers ns
line_of (Word32 n) = Word (codes ".word") ∷ (Number n ∷ [])
line_of (Space n) = Word (codes ".space") ∷ (Number n ∷ [])
line_of (Block name at) = Word (codes ".block") ∷ (Word name ∷ address at)
line_of (Operation p m xs) = guard p ++ (Word (name_of m) ∷ operands_lexemes xs)
line_of (Stop n) = Pair ∷ pause n
line_of End = Word (codes ".end") ∷ []

-- the guard is a predicate
abbrev pub is_guard : Option ℕ → Bool
is_guard None = true
is_guard (Some n) = is_register n

-- a description has fifteen numbers, or nine more with the busy times
abbrev pub is_described : List ℤ → Bool
is_described ns = nat_eq (length ns) 15 || nat_eq (length ns) 24

-- it has the parts that its kind has: a description's numbers, a byte at least, a name, operands in the slots of its mnemonic
abbrev pub is_formed : Statement → Bool
is_formed (Desc ns) = is_described ns
is_formed (Data name) = is_name name
is_formed (Bytes ns) = nat_le 1 (length ns)
is_formed (Block name at) = is_name name
is_formed (Operation p m xs) = is_guard p && (nat_le (opcode_of m) 127 && all_fit (slots_of m) xs)
is_formed _ = true

-- the line is the statement's
pub record Says (line : List Lexeme) (st : Statement) : Type 0 where
  pub written : line ≡ line_of st
  pub formed : IsTrue (is_formed st)
