-- How the fault of a script is told.
use Rattle.std.specs.Prelude.{ℕ, List, ◌++◌, codes, decimal}
use Rattle.event_script.specs.declared.faults.ScriptFault.{ScriptFault}
use Rattle.event_script.specs.declared.faults.ScriptFault.TheVariants.{Word, Number, Context, Page, NoMemory}

-- the place of a fault: its line, and with it the value that was given
abbrev pub line_text : ℕ → List ℕ
line_text n = codes " line " ++ decimal n

abbrev pub value_text : (n value : ℕ) → List ℕ
value_text n value = line_text n ++ (codes " value " ++ decimal value)

-- the fault with its place
abbrev pub fault_text : ScriptFault → List ℕ
fault_text (Word n) = codes "Word" ++ line_text n
fault_text (Number n) = codes "Number" ++ line_text n
fault_text (Context n value) = codes "Context" ++ value_text n value
fault_text (Page n value) = codes "Page" ++ value_text n value
fault_text NoMemory = codes "out of memory"
