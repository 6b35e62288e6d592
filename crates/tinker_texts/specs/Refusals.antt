-- How a refused file is told.
use Rattle.std.specs.Prelude.{ℕ, List, ◌++◌, codes, decimal}
use Rattle.std.specs.Fmt.{signed_decimal}
use Rattle.operation.specs.declared.UnitKind.{UnitKind}
use Rattle.operation.specs.declared.UnitKind.TheVariants as unit
use Rattle.machine_desc.specs.declared.reading.MdesFault.{MdesFault}
use Rattle.machine_desc.specs.declared.reading.MdesFault.TheVariants.{Toml, Missing, Unknown, NotNumber, Range, NoMemory}
use Rattle.machine_desc.specs.File.{key}
use Rattle.image_check.specs.declared.rules.Rule.{Rule}
use Rattle.image_check.specs.declared.rules.Rule.TheVariants as rule
use Rattle.image_check.specs.declared.rules.Refusal.{Refusal}

-- a rule by its number and its title
abbrev pub rule_name : Rule → List ℕ
rule_name rule.Magic = codes "F1 Magic"
rule_name rule.Version = codes "F2 Version"
rule_name rule.Limits = codes "F3 Limits"
rule_name rule.Length = codes "F4 Length"
rule_name rule.Description = codes "F5 Description"
rule_name rule.Table = codes "F6 Table"
rule_name rule.PageCross = codes "F7 PageCross"
rule_name rule.Entry = codes "F8 Entry"
rule_name rule.Padding = codes "F9 Padding"
rule_name rule.Opcode = codes "B1 Opcode"
rule_name rule.Unit = codes "B2 Unit"
rule_name rule.Head = codes "B3 Head"
rule_name rule.Width = codes "B4 Width"
rule_name rule.Units = codes "B5 Units"
rule_name rule.SecondBranch = codes "B6 SecondBranch"
rule_name rule.Target = codes "B7 Target"
rule_name rule.Drain = codes "B8 Drain"
rule_name rule.BranchEnd = codes "B9 BranchEnd"
rule_name rule.BranchShadow = codes "B10 BranchShadow"
rule_name rule.Landing = codes "B11 Landing"
rule_name rule.Cycle = codes "B12 Cycle"
rule_name rule.Successor = codes "B13 Successor"

-- the place at which it is broken
abbrev pub place : Rule → (at op : ℕ) → List ℕ
place rule.Magic at op = codes ""
place rule.Version at op = codes ""
place rule.Limits at op = codes " field " ++ decimal at
place rule.Length at op = codes ""
place rule.Description at op = codes " byte " ++ decimal at
place rule.Table at op = codes " row " ++ decimal at
place rule.PageCross at op = codes " row " ++ decimal at
place rule.Entry at op = codes ""
place rule.Padding at op = codes " word " ++ decimal at
place _ at op = codes " block " ++ decimal at ++ codes " op " ++ decimal op

-- the rule and the place
abbrev pub refusal_text : Refusal → List ℕ
refusal_text r = rule_name r.rule ++ place r.rule r.at r.op

-- a file with more bytes than the limit
abbrev pub too_long_text : ℕ → List ℕ
too_long_text limit = codes "TooLong " ++ decimal limit

-- the fault of a description file, with its key and the number that stands there; for want of memory there is no text
abbrev pub mdes_fault_text : MdesFault → List ℕ
mdes_fault_text Toml = codes "Toml"
mdes_fault_text (Missing n) = codes "Missing " ++ key n
mdes_fault_text (Unknown name) = codes "Unknown " ++ name
mdes_fault_text (NotNumber n) = codes "NotNumber " ++ key n
mdes_fault_text (Range n z) = codes "Range " ++ key n ++ codes " " ++ signed_decimal z
mdes_fault_text NoMemory = codes ""

-- the letter of a unit kind
abbrev pub unit_letter : UnitKind → List ℕ
unit_letter unit.I = codes "I"
unit_letter unit.M = codes "M"
unit_letter unit.L = codes "L"
unit_letter unit.P = codes "P"
unit_letter unit.B = codes "B"

-- an image for a generation that has no unit of a kind that the image uses
abbrev pub no_unit_text : UnitKind → List ℕ
no_unit_text k = codes "NoUnit " ++ unit_letter k

-- what is refused where it is a context: its number
abbrev pub context_name : ℕ → List ℕ
context_name i = codes "context " ++ decimal i

-- the one line of a refusal: what is refused, and why
abbrev pub refused_line : (name why : List ℕ) → List ℕ
refused_line name why = codes "refused " ++ (name ++ (codes " " ++ (why ++ codes "\n")))
