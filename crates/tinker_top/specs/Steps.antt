-- How far a command has come. For contracts within the crate.
use Rattle.std.specs.Prelude.{ℕ, ◌≡◌, List, take, Vec, Option, Some, None, Result, Ok, Err}
use Rattle.std.specs.Global.{Global}
use Rattle.std.specs.Option.{ForSome}
use Rattle.tnk_base.specs.declared.host.Asked.{Asked}
use Rattle.tnk_base.specs.Host.{Files, Shown, Stands, HasCause}
use Rattle.machine_desc.specs.declared.Mdes.{Mdes}
use Rattle.machine_desc.specs.Description.{Description}
use Rattle.machine_desc.specs.Value.{description_of}
use Rattle.machine_desc.specs.File.{read_description}
use Rattle.image_format.specs.Image.{Image}
use Rattle.image_check.specs.Units.{first_lacking}
use Rattle.image_check.specs.Rules.{first_broken}
use Rattle.image_check.specs.declared.rules.CheckFault.{CheckFault}
use Rattle.image_check.specs.declared.rules.CheckFault.TheVariants as check
use Rattle.context_system.specs.Context.{Setup as Context}
use Rattle.event_script.specs.declared.reading.Line.{Line}
use Rattle.event_script.specs.Script.{script}
use Rattle.tinker_words.specs.Settings.{Settings}
use Rattle.tinker_texts.specs.Refusals.{refused_line, refusal_text}
use Rattle.tinker_top.specs.declared.steps.Said.{Said}
use Rattle.tinker_top.specs.declared.steps.Keeping.{Keeping}
use Rattle.tinker_top.specs.declared.steps.Stop.{Stop}
use Rattle.tinker_top.specs.declared.steps.Stop.TheVariants.{Refused, Fault, Memory}
use Rattle.tinker_top.specs.Outcome.{Outcome, Kept, HasContent, ends, says, after}
use Rattle.tinker_top.specs.Command.{if_accepted, if_described, if_scripted, if_it_has_units, run_of}
use Rattle.tinker_top.specs.Top.{asked_too}

-- the host was only read: its files and its output stand, and a fault has its cause
pub record Reads (old new : Shown) (Failed : Type 0) : Type 0 where
  pub stands : Stands old new
  pub cause : HasCause old.faults new.faults Failed

-- the file that a command keeps is this one
pub record IsKeeping (keeping : Keeping) (k : Kept) : Type 0 where
  pub name : keeping.name.now ≡ k.name
  pub content : HasContent k.content keeping.bytes.items

-- and so with the one that it may keep
abbrev pub MayKeep : Option Keeping → Option Kept → Type 0
MayKeep None None = Unit {0}
MayKeep (Some keeping) (Some k) = IsKeeping keeping k
MayKeep _ _ = ⊥

-- what a command ends with is this outcome
pub record IsEnding (said : Said) (o : Outcome) : Type 0 where
  pub kept : Option Kept
  pub keeps : MayKeep said.kept kept
  pub same : o ≡ ends kept 0 said.text.items

-- the outcome is some calls, which were made, and then the rest
pub record Leads (o rest : Outcome) (old new : Shown) : Type 0 where
  pub calls : List Asked
  pub same : o ≡ after calls rest
  pub made : new.asked ≡ asked_too calls old.asked

-- some of the fetches were made, the first of them
pub record Begins (o : Outcome) (old new : Shown) : Type 0 where
  pub count : ℕ
  pub made : new.asked ≡ asked_too (take count o.steps) old.asked

-- a command has come to its end but for the keep and the put, or it was stopped on its way
abbrev pub ComesTo : Outcome → Result Said Stop → Shown → Shown → Type 0
ComesTo o (Ok said) old new = (rest : Outcome) × IsEnding said rest × Leads o rest old new
ComesTo o (Err (Refused line)) old new = Leads o (says 1 line.items) old new
ComesTo o (Err Fault) old new = Begins o old new
ComesTo o (Err Memory) old new = Begins o old new

abbrev pub HasCome : (Files → Outcome) → Result Said Stop → Shown → Shown → Type 0
HasCome outcome result old new = ForSome old.files (λ files. ComesTo (outcome files) result old new)

-- a step of a command has given a value, with which any rest of the command goes on, or it stops the command
abbrev pub GivesTo : {V X : Type 0} → (view : V → X) (step : (X → Outcome) → Outcome) → Result V Stop → Shown → Shown → Type 0
GivesTo view step (Ok v) old new = (next : _) → Leads (step next) (next (view v)) old new
GivesTo view step (Err (Refused line)) old new = (next : _) → Leads (step next) (says 1 line.items) old new
GivesTo view step (Err Fault) old new = (next : _) → Begins (step next) old new
GivesTo view step (Err Memory) old new = (next : _) → Begins (step next) old new

abbrev pub HasGiven : {V X : Type 0} → (view : V → X) (step : Files → (X → Outcome) → Outcome) → Result V Stop → Shown → Shown → Type 0
HasGiven view step result old new = ForSome old.files (λ files. GivesTo view (step files) result old new)

-- a step without a call has given a value, or it refuses a file
abbrev pub IsDecided : {V X : Type 0} → (view : V → X) (step : (X → Outcome) → Outcome) → Result V Stop → Type 0
IsDecided view step (Ok v) = (next : _) → step next ≡ next (view v)
IsDecided view step (Err (Refused line)) = (next : _) → step next ≡ says 1 line.items
IsDecided view step (Err Fault) = ⊥
IsDecided view step (Err Memory) = Unit {0}

-- a command stops at a file that is no accepted image: the file is refused for the broken rule, or memory was wanting
abbrev pub IsStopFor : (name : List ℕ) → CheckFault → Stop → Type 0
IsStopFor name (check.Refused why) (Refused line) = line.items ≡ refused_line name (refusal_text why)
IsStopFor name fault Memory = Unit {0}
IsStopFor name fault stop = ⊥

-- a file is accepted, and its image is the view of a value, or it is refused for the first rule that it breaks
abbrev pub IsJudged : {V : Type 0} → (view : V → Image) (name bytes : List ℕ) → Result V Stop → Type 0
IsJudged view name bytes = IsDecided view (λ next. if_accepted name next bytes (first_broken bytes))

-- a file has a description, or it is refused for its first fault
abbrev pub IsDescribed : (name bytes : List ℕ) → Result Mdes Stop → Type 0
IsDescribed name bytes = IsDecided description_of (λ next. if_described name next (read_description bytes))

-- an image is in the form for a generation, or it is refused for the first unit kind that the generation lacks
abbrev pub IsMoved : (name out : List ℕ) → Image → Description → Result Said Stop → Type 0
IsMoved name out image g (Ok said) = IsEnding said (if_it_has_units name out image g (first_lacking image g))
IsMoved name out image g (Err (Refused line)) = if_it_has_units name out image g (first_lacking image g) ≡ says 1 line.items
IsMoved name out image g (Err Fault) = ⊥
IsMoved name out image g (Err Memory) = Unit {0}

-- a command that makes no call before its end has come to that, or memory was wanting
abbrev pub IsMade : Outcome → Result Said Stop → Type 0
IsMade o (Ok said) = IsEnding said o
IsMade o (Err (Refused line)) = ⊥
IsMade o (Err Fault) = ⊥
IsMade o (Err Memory) = Unit {0}

-- a script has these lines, or it is refused for its first fault
abbrev pub IsScripted : (name : List ℕ) → (pages bytes : List ℕ) → Result (Vec Line Global) Stop → Type 0
IsScripted name pages bytes = IsDecided (λ lines. lines.items) (λ next. if_scripted name next (script pages bytes))

-- the contexts' report is this text, or they are refused
abbrev pub IsRun : Settings → List Context → List Line → Result (Vec ℕ Global) Stop → Type 0
IsRun s contexts lines (Ok text) = run_of s contexts lines ≡ says 0 text.items
IsRun s contexts lines (Err (Refused line)) = run_of s contexts lines ≡ says 1 line.items
IsRun s contexts lines (Err Fault) = ⊥
IsRun s contexts lines (Err Memory) = Unit {0}
