-- Why a line is faulty behind the statements before it, which are listed last first.
use Rattle.std.specs.Prelude.{ℕ, ◌≡◌, ◌⊎◌, Bool, true, false, not, ◌&&◌, ◌||◌, nat_lt, nat_le, bytes_eq, if◌then◌else◌, List, [], ◌∷◌, length, Option, Some, None, Result, Ok, Err}
use Rattle.std.specs.List.{list_any}
use Rattle.asm_syntax.specs.declared.heads.Head.{Head}
use Rattle.asm_syntax.specs.declared.heads.Head.TheVariants as head
use Rattle.asm_syntax.specs.declared.Unbegun.{Unbegun}
use Rattle.asm_syntax.specs.declared.Unbegun.TheVariants as unbegun
use Rattle.asm_syntax.specs.Lexemes.{Lexeme}
use Rattle.asm_syntax.specs.Statements.{Statement, Says, head_of}
use Rattle.asm_syntax.specs.Ranges.{is_ranged}
use Rattle.asm_syntax.specs.Beginnings.{Begun, kind_of, begun_by, beginning}
use Rattle.asm_syntax.specs.StatementReading.{statement_behind}
use Rattle.vliw_asm.specs.declared.stop.Cause.{Cause}
use Rattle.vliw_asm.specs.declared.stop.Cause.TheVariants as cause
use Rattle.vliw_asm.specs.Places.{may_stand}
use Rattle.vliw_asm.specs.Data.{data_bytes}
use Rattle.vliw_asm.specs.Blocks.{defined_name, name_in, names, defined_names, operation_count, begun_block}

-- ---- what a statement that may stand breaks

-- it defines a name that is defined before
abbrev pub is_duplicate : List Statement → Statement → Bool
is_duplicate before st = elim (defined_name st) [ None ↦ false | Some name ↦ list_any (bytes_eq name) (defined_names before) ]

-- it is the 513th operation of its block
abbrev pub is_block_long : List Statement → Head → Bool
is_block_long before head.Operation = nat_le 512 (begun_block before).count
is_block_long before _ = false

-- its name has more than 32 bytes
abbrev pub is_name_long : Statement → Bool
is_name_long st = elim (name_in st) [ None ↦ false | Some name ↦ nat_lt 32 (length name) ]

-- its name is too long, or there are more names, operations or data bytes with it than an object has
abbrev pub is_beyond : List Statement → Statement → Bool
is_beyond before st =
    let all = st ∷ before in
    is_name_long st
    || (nat_lt 262144 (length (names all)) || (nat_lt 131072 (operation_count all) || nat_lt 1048576 (length (data_bytes all))))

-- what a statement that may stand breaks first, if anything
abbrev pub breach : List Statement → Statement → Option Cause
breach before st =
    if not (is_ranged st) then Some cause.Range
    else (if is_duplicate before st then Some cause.Duplicate
    else (if is_block_long before (head_of st) then Some cause.BlockLong
    else (if is_beyond before st then Some cause.Limit
    else None)))

-- ---- by the grammar

-- a line begins a kind of statement that may stand there
pub record Stands (before : List Statement) (line : List Lexeme) (kind : Head) : Type 0 where
  pub begins : beginning line ≡ Ok kind
  pub stands : may_stand before kind ≡ true

-- the line is the statement's, which may stand there and breaks nothing
pub record IsSound (before : List Statement) (line : List Lexeme) (st : Statement) : Type 0 where
  pub says : Says line st
  pub stands : may_stand before (head_of st) ≡ true
  pub whole : breach before st ≡ None

-- the line is faulty for this cause first; a line that is refused for its tokens has none here
abbrev pub IsCause : List Statement → List Lexeme → Cause → Type 0
IsCause before line cause.Token = ⊥
IsCause before line cause.Mnemonic = beginning line ≡ Err unbegun.Mnemonic
IsCause before line cause.Place = (kind : Head) × (beginning line ≡ Ok kind) × (may_stand before kind ≡ false)
IsCause before line cause.Operand =
    (beginning line ≡ Err unbegun.Operand) ⊎ ((kind : Head) × Stands before line kind × ((st : Statement) → Says line st → ⊥))
IsCause before line c = (st : Statement) × Says line st × Stands before line (head_of st) × (breach before st ≡ Some c)

-- ---- as a function

-- why a line begins no statement
abbrev pub cause_of : Unbegun → Cause
cause_of unbegun.Mnemonic = cause.Mnemonic
cause_of unbegun.Operand = cause.Operand

-- what a line says that may stand there, or why it is faulty
abbrev pub unless_broken : List Statement → Option Statement → Result Statement Cause
unless_broken before None = Err cause.Operand
unless_broken before (Some st) = elim (breach before st) [ None ↦ Ok st | Some c ↦ Err c ]

-- by what it begins
abbrev pub read_begun : List Statement → Result Begun Unbegun → Result Statement Cause
read_begun before (Err e) = Err (cause_of e)
read_begun before (Ok b) = if may_stand before (kind_of b) then unless_broken before (statement_behind b) else Err cause.Place

-- the statement of a line behind those before it, or the first cause why it is faulty
unfoldable pub read_line : List Statement → List Lexeme → Result Statement Cause
read_line before line = read_begun before (begun_by line)
