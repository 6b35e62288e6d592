-- How the program's own rows and settings stand for those of Settings.antt. For contracts within the crate.
use Rattle.std.specs.Prelude.{ℕ, ◌≤◌, option_map}
use Rattle.std.specs.Option.{ForSome}
use Rattle.tinker_words.specs.declared.settings.Row as parsed_row
use Rattle.tinker_words.specs.declared.settings.Settings.TheInside as parsed
use Rattle.tinker_words.specs.declared.settings.Number.TheVariants.{Frames, Saved, Bound, Limit}
use Rattle.tinker_words.specs.Settings.{Settings, Row, row}

abbrev pub shown_row : parsed_row.Row → Row
shown_row r = record { name = r.name.now; least = r.least; most = r.most; usual = r.usual }

abbrev pub given_settings : parsed.Inside → Settings
given_settings s = record { frames = s.frames; saved = s.saved; bound = s.bound; limit = s.limit; script = option_map (λ name. name.now) s.script; dump = s.dump }

-- a number is in the range of a row
pub record IsInRange (r : Row) (v : ℕ) : Type 0 where
  pub least : r.least ≤ v
  pub most : v ≤ r.most

-- each number that is given is in the range of its row
pub record AreWithin (s : parsed.Inside) : Type 0 where
  pub frames : ForSome s.frames (IsInRange (row Frames))
  pub saved : ForSome s.saved (IsInRange (row Saved))
  pub bound : ForSome s.bound (IsInRange (row Bound))
  pub limit : ForSome s.limit (IsInRange (row Limit))

-- so many blocks of so many operations as `gen` makes
pub record IsSized (blocks ops : ℕ) : Type 0 where
  pub blocks_least : 1 ≤ blocks
  pub blocks_most : blocks ≤ 256
  pub ops_least : 1 ≤ ops
  pub ops_most : ops ≤ 500
