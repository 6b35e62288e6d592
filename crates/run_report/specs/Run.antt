-- What the contexts of a run come to.
use Rattle.std.specs.Prelude.{ℕ, suc, ◌*◌, ◌++◌, Bool, List, [], ◌∷◌, length}
use Rattle.machine_desc.specs.Description.{Description}
use Rattle.timed_meaning.specs.Program.{Meaning, mean}
use Rattle.timed_meaning.specs.Cycles.{cycles}
use Rattle.image_format.specs.Image.{Image}
use Rattle.image_check.specs.Blocks.{program_in}
use Rattle.image_resched.specs.Laws.{Forms}
use Rattle.block_steps.specs.Steps.{counted}
use Rattle.paging.specs.Pages.{Paging}
use Rattle.context_system.specs.Context.{Setup, running}
use Rattle.context_system.specs.Needs.{Run}
use Rattle.context_system.specs.System.{System, first, play, rounds}
use Rattle.tinker_words.specs.declared.settings.Number.TheVariants.{Frames, Saved, Bound, Limit}
use Rattle.tinker_words.specs.Settings.{Settings, number}
use Rattle.tinker_texts.specs.Report.{part, cycles_line, pages_line}
use Rattle.event_script.specs.declared.reading.Line.{Line}
use Rattle.run_report.specs.Script.{behind_script, looks}

-- what a context is given by the settings, an image, a generation and an input, where `forms` gives images in other generations
abbrev pub context_of : Forms → Settings → Image → Description → (input : List ℕ) → Setup
context_of forms s image g input = record {
  image = image;
  generation = g;
  formed = forms image g;
  input = input;
  limit = number s Limit;
  bound = number s Bound;
}

-- what a context runs
abbrev pub runs_as : Setup → Run
runs_as x = record { image = x.image; generation = x.generation }

-- a meaning as the part of a context's number
abbrev pub meant_part : ℕ → (dump : Bool) → Meaning → List ℕ
meant_part i dump m = part i dump m.end m.blocks m.output m.memory

-- a context's part: what its image's program means under the image's own description
unfoldable pub context_part : ℕ → (dump : Bool) → Setup → List ℕ
context_part i dump x = meant_part i dump (mean (program_in x.image) x.input x.limit x.bound)

-- the cycles that a context takes, as its program runs in its generation
unfoldable pub context_cycles : ℕ → Setup → List ℕ
context_cycles i x = cycles_line i (counted 0 (cycles (running x) x.input x.limit x.bound))

-- a text of each, from the number i on
abbrev pub texts_from : {X : Type 0} → (ℕ → X → List ℕ) → ℕ → List X → List ℕ
texts_from text i [] = []
texts_from text i (x ∷ xs) = text i x ++ texts_from text (suc i) xs

-- the counts of pages
abbrev pub counts_line : Paging → List ℕ
counts_line p = pages_line p.loaded p.rescheduled p.restored p.pages.evicted

-- the contexts at their starts
abbrev pub begun : Settings → List Setup → System
begun s setups = first setups (number s Frames) (number s Saved)

-- the contexts and their pages when a script was played, and then turns have gone round until all have ended: in 512 rounds a block
-- has ended
unfoldable pub played : Settings → List Line → List Setup → System
played s lines setups = play (behind_script (begun s setups) lines) (rounds (length setups) (512 * number s Bound))

-- the report
abbrev pub report : Settings → List Line → List Setup → List ℕ
report s lines setups =
    looks (begun s setups) lines
    ++ (texts_from (λ i x. context_part i s.dump x) 0 setups
    ++ (texts_from context_cycles 0 setups ++ counts_line (played s lines setups).paging))
