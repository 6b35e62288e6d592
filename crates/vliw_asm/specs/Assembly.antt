-- Which object a text is assembled to, or at which line it is faulty, and why.
use Rattle.std.specs.Prelude.{ℕ, suc, if◌then◌else◌, List, [], ◌∷◌, length, map, Option, Some, None, Result, Ok, Err}
use Rattle.machine_desc.specs.Description.{Description}
use Rattle.tnk_text.specs.declared.TextFault.{TextFault}
use Rattle.tnk_text.specs.declared.TextFault.TheVariants as fault
use Rattle.tnk_text.specs.Tokens.{tokens_in}
use Rattle.object_format.specs.declared.ObjBlock.{ObjBlock}
use Rattle.object_format.specs.Module.{Module}
use Rattle.asm_syntax.specs.Lexemes.{Lexeme, lines_of}
use Rattle.asm_syntax.specs.Ranges.{description_by}
use Rattle.asm_syntax.specs.Statements.{Statement, Desc, Pages}
use Rattle.vliw_asm.specs.declared.stop.Cause.{Cause}
use Rattle.vliw_asm.specs.declared.stop.Cause.TheVariants as cause
use Rattle.vliw_asm.specs.Places.{last, is_inside}
use Rattle.vliw_asm.specs.Names.{number_in}
use Rattle.vliw_asm.specs.Data.{natural, data_bytes, initial_bytes, labels}
use Rattle.vliw_asm.specs.Blocks.{NamedBlock, names, blocks, words, references}
use Rattle.vliw_asm.specs.Causes.{read_line}

-- ---- the object of statements, which are listed last first

-- the description of `.desc`, if there is one
abbrev pub description_in : List Statement → Option Description
description_in [] = None
description_in (Desc ns ∷ before) = Some (description_by ns)
description_in (_ ∷ before) = description_in before

-- the number of `.pages`, or 0
abbrev pub least_pages : List Statement → ℕ
least_pages [] = 0
least_pages (Pages n ∷ before) = natural n
least_pages (_ ∷ before) = least_pages before

-- a block by the number of its name, and so a reference and a label
abbrev pub block_by : (names : List (List ℕ)) → NamedBlock → ObjBlock
block_by names b = record { name = number_in names b.name; at = b.at; count = b.count }

abbrev pub reference_by : (names : List (List ℕ)) → ℕ × List ℕ → ℕ × ℕ
reference_by names r = (r.0, number_in names r.1)

abbrev pub label_by : (names : List (List ℕ)) → List ℕ × ℕ → ℕ × ℕ
label_by names l = (number_in names l.0, l.1)

-- the object of statements with a description
abbrev pub object_of : Description → List Statement → Module
object_of g before = record {
  description = g;
  pages = least_pages before;
  names = names before;
  blocks = map (block_by (names before)) (blocks before);
  words = words before;
  references = map (reference_by (names before)) (references before);
  labels = map (label_by (names before)) (labels before);
  size = length (data_bytes before);
  initial = initial_bytes before;
}

-- ---- the object of a text, or its first fault

-- the statements of lines behind those before them, all listed last first; or the number of the first faulty line and why it is
-- faulty. Empty lines say nothing
abbrev pub read_lines : (before : List Statement) → (number : ℕ) → List (List Lexeme) → Result (List Statement) (ℕ × Cause)
read_lines before number [] = Ok before
read_lines before number ([] ∷ lines) = read_lines before (suc number) lines
read_lines before number ((x ∷ xs) ∷ lines) = elim (read_line before (x ∷ xs)) [
  | Err c ↦ Err (number, c)
  | Ok st ↦ read_lines (st ∷ before) (suc number) lines
]

-- the object of the statements of so many lines; where there is no description, or a block isn't ended, the last line is faulty
abbrev pub object_with : (lines : ℕ) → List Statement → Option Description → Result Module (ℕ × Cause)
object_with lines before None = Err (lines, cause.Place)
object_with lines before (Some g) = if is_inside (last before) then Err (lines, cause.Place) else Ok (object_of g before)

abbrev pub ended : (lines : ℕ) → Result (List Statement) (ℕ × Cause) → Result Module (ℕ × Cause)
ended lines (Err f) = Err f
ended lines (Ok before) = object_with lines before (description_in before)

-- the object of lines, which are counted from 1
abbrev pub assembled_lines : List (List Lexeme) → Result Module (ℕ × Cause)
assembled_lines lines = ended (length lines) (read_lines [] 1 lines)

-- the line of a fault of the tokens
abbrev pub fault_line : TextFault → ℕ
fault_line (fault.BadByte place line) = line
fault_line (fault.NumberRange place line) = line
fault_line fault.NoMemory = 0

-- the object of a text, or the number of its first faulty line and why that is faulty
unfoldable pub assembled : List ℕ → Result Module (ℕ × Cause)
assembled text = elim (tokens_in text) [
  | Err f ↦ Err (fault_line f, cause.Token)
  | Ok ts ↦ assembled_lines (lines_of text ts)
]
