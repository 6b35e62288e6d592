-- The settings of a command: the words `NAME=VALUE` that stand before its other words.
use Rattle.std.specs.Prelude.{ℕ, Bool, true, false, not, ◌&&◌, ◌||◌, nat_le, List, [], ◌∷◌, length, take, drop, codes, bytes_eq, Option, Some, None, option_map, is_some, find, if◌then◌else◌}
use Rattle.tnk_text.specs.Digits.{decimal_in}
use Rattle.tinker_words.specs.declared.settings.Number.{Number}
use Rattle.tinker_words.specs.declared.settings.Number.TheVariants.{Frames, Saved, Bound, Limit}
use Rattle.tinker_words.specs.declared.settings.Kind.{Kind}
use Rattle.tinker_words.specs.declared.settings.Kind.TheVariants.{Counted, Script, Dump}

-- what was given: how many frames there are for pages, how many evicted pages may be saved, the most blocks that a program
-- may run, the most bytes that it may put out, the file of a script, and that the memory is shown
pub record Settings : Type 0 where
  pub frames : Option ℕ
  pub saved : Option ℕ
  pub bound : Option ℕ
  pub limit : Option ℕ
  pub script : Option (List ℕ)
  pub dump : Bool

-- nothing is given
abbrev pub unset : Settings
unset = record { frames = None; saved = None; bound = None; limit = None; script = None; dump = false }

-- a row of the table of numbers: the name, the least and the greatest value, and the value where none is given
pub record Row : Type 0 where
  pub name : List ℕ
  pub least : ℕ
  pub most : ℕ
  pub usual : ℕ

-- the table
abbrev pub row : Number → Row
row Frames = record { name = codes "frames="; least = 1; most = 1024; usual = 16 }
row Saved = record { name = codes "saved="; least = 0; most = 1024; usual = 16 }
row Bound = record { name = codes "bound="; least = 1; most = 1000000; usual = 100000 }
row Limit = record { name = codes "limit="; least = 1; most = 1048576; usual = 65536 }

-- the name of a setting, its `=` included
abbrev pub name_of : Kind → List ℕ
name_of (Counted n) = (row n).name
name_of Script = codes "script="
name_of Dump = codes "dump="

-- the text begins with the prefix
abbrev pub begins : List ℕ → List ℕ → Bool
begins prefix text = bytes_eq (take (length prefix) text) prefix

-- the setting that a word names, of those that a command has
abbrev pub setting_in : List Kind → List ℕ → Option Kind
setting_in kinds word = find (λ k. begins (name_of k) word) kinds

-- the number that was given
abbrev pub given : Settings → Number → Option ℕ
given s Frames = s.frames
given s Saved = s.saved
given s Bound = s.bound
given s Limit = s.limit

-- the given number, or the usual one
abbrev pub given_or : ℕ → Option ℕ → ℕ
given_or usual None = usual
given_or usual (Some v) = v

abbrev pub number : Settings → Number → ℕ
number s n = given_or (row n).usual (given s n)

-- the settings with a number
abbrev pub with_number : Settings → Number → ℕ → Settings
with_number s Frames v = record s { frames = Some v }
with_number s Saved v = record s { saved = Some v }
with_number s Bound v = record s { bound = Some v }
with_number s Limit v = record s { limit = Some v }

-- a number that is in its range, and wasn't given before
abbrev pub first_number : Row → Option ℕ → Option ℕ → Option ℕ
first_number r None (Some v) = if nat_le r.least v && nat_le v r.most then Some v else None
first_number r _ v = None

-- the settings with one more of this value; none where the value is faulty, or the setting was given before
abbrev pub with_counted : Settings → Number → List ℕ → Option Settings
with_counted s n value = option_map (with_number s n) (first_number (row n) (given s n) (decimal_in value))

-- a word that names a file isn't empty
abbrev pub is_name : List ℕ → Bool
is_name [] = false
is_name _ = true

abbrev pub with_script : Settings → List ℕ → Option Settings
with_script s name = if is_some s.script || not (is_name name) then None else Some (record s { script = Some name })

abbrev pub with_dump : Settings → List ℕ → Option Settings
with_dump s value = if s.dump || not (bytes_eq value (codes "yes")) then None else Some (record s { dump = true })

abbrev pub with_setting : Settings → Kind → List ℕ → Option Settings
with_setting s (Counted n) value = with_counted s n value
with_setting s Script value = with_script s value
with_setting s Dump value = with_dump s value

-- the settings that the words begin with, behind some others, and the words behind them; none where one is faulty
abbrev pub settings : List Kind → Settings → List (List ℕ) → Option (Settings × List (List ℕ))
settings kinds s [] = Some (s, [])
settings kinds s (word ∷ words) =
    elim (setting_in kinds word) [
      | None ↦ Some (s, word ∷ words)
      | Some k ↦ elim (with_setting s k (drop (length (name_of k)) word)) [ None ↦ None | Some s' ↦ settings kinds s' words ]
    ]
