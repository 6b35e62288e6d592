-- What the words of the command line ask for.
use Rattle.std.specs.Prelude.{ℕ, ◌%◌, Bool, ◌&&◌, nat_eq, nat_le, List, [], ◌∷◌, length, codes, bytes_eq, Option, Some, None, option_map, if◌then◌else◌}
use Rattle.std.specs.List.{list_all}
use Rattle.tnk_text.specs.Digits.{decimal_in}
use Rattle.tinker_words.specs.declared.settings.Number.TheVariants.{Frames, Saved, Bound, Limit}
use Rattle.tinker_words.specs.declared.settings.Kind.{Kind}
use Rattle.tinker_words.specs.declared.settings.Kind.TheVariants.{Counted, Script, Dump}
use Rattle.tinker_words.specs.Settings.{Settings, unset, is_name, settings}

-- a program whose meaning is asked for: its image, the file of its input, if it has one, and the settings
pub record Setup : Type 0 where
  pub image : List ℕ
  pub input : Option (List ℕ)
  pub settings : Settings

-- the generation for which a command works: the image's own, one that is built in, or that of a description file
pub data Target : Type 0 where
  Own : Target
  T1 : Target
  T2 : Target
  T3 : Target
  File : (name : List ℕ) → Target

-- a context by what names it: its image, the generation as which it runs, and the file of its input, if it has one
pub record NamedContext : Type 0 where
  pub image : List ℕ
  pub target : Target
  pub input : Option (List ℕ)

-- an image that is generated: the number from which it is drawn, how many blocks it has, and how many operations each of them
pub record Workload : Type 0 where
  pub number : ℕ
  pub blocks : ℕ
  pub ops : ℕ

-- the commands
pub data Command : Type 0 where
  Help : Command
  Version : Command
  Check : (image : List ℕ) → Command
  Meaning : Setup → Command
  Run : Settings → (contexts : List NamedContext) → Command
  Resched : (image : List ℕ) → Target → (out : List ℕ) → Command
  Gen : Workload → (out : List ℕ) → Command

-- the settings of `meaning`
abbrev pub meaning_kinds : List Kind
meaning_kinds = Counted Bound ∷ (Counted Limit ∷ (Dump ∷ []))

-- those of `run`: three more
abbrev pub run_kinds : List Kind
run_kinds = Counted Frames ∷ (Counted Saved ∷ (Script ∷ meaning_kinds))

-- the file of the input, and none for `-`
abbrev pub input_named : List ℕ → Option (List ℕ)
input_named word = if bytes_eq word (codes "-") then None else Some word

-- a command whose word stands alone; none for other words, here and below
abbrev pub alone : Command → List (List ℕ) → Option Command
alone command [] = Some command
alone command _ = None

-- `IMAGE`
abbrev pub check_words : List (List ℕ) → Option Command
check_words (image ∷ []) = if is_name image then Some (Check image) else None
check_words _ = None

-- `IMAGE INPUT`
abbrev pub meaning_words : Settings → List (List ℕ) → Option Command
meaning_words s (image ∷ (input ∷ [])) =
    if is_name image && is_name input
    then Some (Meaning (record { image = image; input = input_named input; settings = s })) else None
meaning_words s _ = None

-- the generation that a word names
abbrev pub target_named : List ℕ → Target
target_named word =
    if bytes_eq word (codes "own") then Own else
    (if bytes_eq word (codes "t1") then T1 else
    (if bytes_eq word (codes "t2") then T2 else
    (if bytes_eq word (codes "t3") then T3 else File word)))

-- the context that three words name
abbrev pub context_named : (image generation input : List ℕ) → NamedContext
context_named image generation input = record { image = image; target = target_named generation; input = input_named input }

-- each three words name a context
abbrev pub contexts_named : List (List ℕ) → List NamedContext
contexts_named (image ∷ (generation ∷ (input ∷ words))) = context_named image generation input ∷ contexts_named words
contexts_named _ = []

-- so many words as name 1 to 8 contexts
abbrev pub is_count : ℕ → Bool
is_count words = nat_eq (words % 3) 0 && (nat_le 3 words && nat_le words 24)

-- they do
abbrev pub name_contexts : List (List ℕ) → Bool
name_contexts words = list_all is_name words && is_count (length words)

-- `IMAGE GENERATION INPUT`, 1 to 8 times
abbrev pub run_words : Settings → List (List ℕ) → Option Command
run_words s words = if name_contexts words then Some (Run s (contexts_named words)) else None

-- `IMAGE GENERATION OUT`
abbrev pub resched_words : List (List ℕ) → Option Command
resched_words (image ∷ (generation ∷ (out ∷ []))) =
    if is_name image && (is_name generation && is_name out) then Some (Resched image (target_named generation) out) else None
resched_words _ = None

-- the number that a word writes, where it is in a range
abbrev pub ranged : (least most : ℕ) → List ℕ → Option ℕ
ranged least most word = elim (decimal_in word) [
  | None ↦ None
  | Some v ↦ if nat_le least v && nat_le v most then Some v else None
]

-- what three words name
abbrev pub workload_named : (number blocks ops : List ℕ) → Option Workload
workload_named number blocks ops = elim (ranged 0 4294967295 number) [
  | None ↦ None
  | Some n ↦ elim (ranged 1 256 blocks) [
    | None ↦ None
    | Some b ↦ option_map (λ o. record { number = n; blocks = b; ops = o }) (ranged 1 500 ops)
  ]
]

-- `NUMBER BLOCKS OPS OUT`
abbrev pub gen_words : List (List ℕ) → Option Command
gen_words (number ∷ (blocks ∷ (ops ∷ (out ∷ [])))) =
    if is_name out then option_map (λ w. Gen w out) (workload_named number blocks ops) else None
gen_words _ = None

-- the settings, of those that a command has, and then the other words
abbrev pub behind_settings : List Kind → (Settings → List (List ℕ) → Option Command) → List (List ℕ) → Option Command
behind_settings kinds others words = elim (settings kinds unset words) [ None ↦ None | Some r ↦ others r.0 r.1 ]

-- the command that the words name, and none where they have no form
abbrev pub command_of : List (List ℕ) → Option Command
command_of (verb ∷ words) =
    if bytes_eq verb (codes "check") then check_words words else
    (if bytes_eq verb (codes "meaning") then behind_settings meaning_kinds meaning_words words else
    (if bytes_eq verb (codes "run") then behind_settings run_kinds run_words words else
    (if bytes_eq verb (codes "resched") then resched_words words else
    (if bytes_eq verb (codes "gen") then gen_words words else
    (if bytes_eq verb (codes "--help") then alone Help words else
    (if bytes_eq verb (codes "--version") then alone Version words else None))))))
command_of [] = None
