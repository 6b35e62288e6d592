-- The names, blocks and words of statements. The statements are listed last first, and what they give in order.
use Rattle.std.specs.Prelude.{ℕ, ℤ, suc, Bool, true, false, List, [], ◌∷◌, ◌++◌, length, map, Option, Some, None, option_map, unwrap_or}
use Rattle.operation.specs.declared.Op.{Op}
use Rattle.operation.specs.Places.{unit_kind, unit_number}
use Rattle.list_encoding.specs.Fields.{fields_of}
use Rattle.list_encoding.specs.Written.{word_of}
use Rattle.asm_syntax.specs.Statements.{Statement, Data, Block, Operation, Stop, End}
use Rattle.asm_syntax.specs.Meanings.{operation_with, reference}
use Rattle.vliw_asm.specs.Names.{with_name}
use Rattle.vliw_asm.specs.Data.{natural}

-- ---- names

-- the name that a statement defines
abbrev pub defined_name : Statement → Option (List ℕ)
defined_name (Data name) = Some name
defined_name (Block name at) = Some name
defined_name _ = None

-- the name in a statement, which it defines or refers to
abbrev pub name_in : Statement → Option (List ℕ)
name_in (Operation p m xs) = reference xs
name_in st = defined_name st

-- a name that may be there joins others
abbrev pub with_optional : List (List ℕ) → Option (List ℕ) → List (List ℕ)
with_optional known None = known
with_optional known (Some name) = with_name known name

-- the different names, in order of first appearance
abbrev pub names : List Statement → List (List ℕ)
names [] = []
names (st ∷ before) = with_optional (names before) (name_in st)

-- the names that are defined, in order
abbrev pub defined_names : List Statement → List (List ℕ)
defined_names [] = []
defined_names (st ∷ before) = elim (defined_name st) [ None ↦ defined_names before | Some name ↦ defined_names before ++ name ∷ [] ]

-- ---- words

-- an operation with its guard, which is p0 where none is written
abbrev pub guarded_op : Option ℕ → Op → ℕ × Op
guarded_op p op = (unwrap_or p 0, op)

-- the operations of the MultiOp that is begun
abbrev pub begun : List Statement → List (ℕ × Op)
begun [] = []
begun (Operation p m xs ∷ before) = begun before ++ guarded_op p (operation_with m xs) ∷ []
begun (_ ∷ before) = []

-- the word of an operation at its place, with the unit of its kind
abbrev pub word_at : (head : Bool) (pause : ℕ) → ℕ × Op → ℕ
word_at head pause g = word_of head (unit_number (unit_kind g.1)) pause g.0 (fields_of g.1)

-- the words of a MultiOp: its first operation is its head, and has its pause
abbrev pub multi_op_words : (pause : ℕ) → List (ℕ × Op) → List ℕ
multi_op_words pause [] = []
multi_op_words pause (g ∷ gs) = word_at true pause g ∷ map (word_at false 0) gs

-- the pause of `;;`
abbrev pub pause_of : Option ℤ → ℕ
pause_of None = 0
pause_of (Some n) = natural n

-- the words of the MultiOps that have ended
abbrev pub words : List Statement → List ℕ
words [] = []
words (Stop n ∷ before) = words before ++ multi_op_words (pause_of n) (begun before)
words (_ ∷ before) = words before

-- how many operations there are
abbrev pub operation_count : List Statement → ℕ
operation_count [] = 0
operation_count (Operation p m xs ∷ before) = suc (operation_count before)
operation_count (_ ∷ before) = operation_count before

-- the operations that have a name for a value, by their numbers, with the names
abbrev pub references : List Statement → List (ℕ × List ℕ)
references [] = []
references (Operation p m xs ∷ before) = elim (reference xs) [
  | None ↦ references before
  | Some name ↦ references before ++ (operation_count before, name) ∷ []
]
references (_ ∷ before) = references before

-- ---- blocks

-- a block: its name, its address where it is fixed, and how many operations it has
pub record NamedBlock : Type 0 where
  pub name : List ℕ
  pub at : Option ℕ
  pub count : ℕ

-- the block that began last, so far
abbrev pub begun_block : List Statement → NamedBlock
begun_block [] = record { name = []; at = None; count = 0 }
begun_block (Block name at ∷ before) = record { name = name; at = option_map natural at; count = 0 }
begun_block (Operation p m xs ∷ before) = record (begun_block before) { count = suc (begun_block before).count }
begun_block (_ ∷ before) = begun_block before

-- the blocks that have ended
abbrev pub blocks : List Statement → List NamedBlock
blocks [] = []
blocks (End ∷ before) = blocks before ++ begun_block before ∷ []
blocks (_ ∷ before) = blocks before
