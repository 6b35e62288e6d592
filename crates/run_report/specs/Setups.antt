-- The contexts that are given to be run, and what their run answers.
use Rattle.std.specs.Prelude.{ℕ, ◌≡◌, ◌≤◌, List, length, map, All, Vec, Some, None, Result, Ok, Err}
use Rattle.std.specs.Global.{Global}
use Rattle.machine_desc.specs.Value.{description_of}
use Rattle.image_format.specs.Image.{page_count}
use Rattle.image_resched.specs.Laws.{Forms}
use Rattle.context_system.specs.Context.{Setup as Context}
use Rattle.context_system.specs.Needs.{first_without}
use Rattle.contexts.specs.declared.Setup.{Setup as Given}
use Rattle.contexts.specs.declared.cores.OpenFault.{OpenFault}
use Rattle.contexts.specs.declared.cores.OpenFault.TheVariants.{NoUnit, NoMemory}
use Rattle.event_script.specs.declared.reading.Line.{Line}
use Rattle.tinker_words.specs.declared.settings.Number.TheVariants.{Bound}
use Rattle.tinker_words.specs.Settings.{Settings, number}
use Rattle.run_report.specs.Run.{runs_as, report}

-- a context as it is given, where `forms` gives images in other generations
abbrev pub as_given : Forms → Given → Context
as_given forms x = record {
  image = x.image;
  generation = description_of x.chosen;
  formed = forms x.image (description_of x.chosen);
  input = x.input.items;
  limit = x.limit;
  bound = x.bound;
}

-- all of them
abbrev pub all_given : Forms → Vec Given Global → List Context
all_given forms setups = map (as_given forms) setups.items

-- a context as it is given has the bound of the settings, at least 1
pub record HasBound (s : Settings) (x : Given) : Type 0 where
  pub same : x.bound ≡ number s Bound
  pub some : 1 ≤ x.bound

-- the numbers of pages of the images of contexts as they are given
abbrev pub page_counts : List Given → List ℕ
page_counts setups = map (λ s. page_count s.image) setups

-- contexts as they are given, 1 to 8
pub record AreGiven (s : Settings) (setups : List Given) : Type 0 where
  pub some : 1 ≤ length setups
  pub few : length setups ≤ 8
  pub bounds : All (HasBound s) setups

-- Where each context finds its units, this is their report; else the first that lacks one is told, with the kind.
abbrev pub IsReport : Settings → List Context → List Line → Result (Vec ℕ Global) OpenFault → Type 0
IsReport s contexts lines (Ok text) = (first_without 0 (map runs_as contexts) ≡ None) × (text.items ≡ report s lines contexts)
IsReport s contexts lines (Err (NoUnit c kind)) = first_without 0 (map runs_as contexts) ≡ Some (c, kind)
IsReport s contexts lines (Err NoMemory) = Unit {0}
