-- What the contexts of a core show, for contracts within the crate.
use Rattle.std.specs.Prelude.{ℕ, ◌≡◌, Bool, List, [], ◌∷◌, length, map, slice_get, All, Some, None}
use Rattle.image_format.specs.Image.{page_count}
use Rattle.page_fault.specs.declared.Loaded.{Loaded}
use Rattle.contexts.specs.Core.{Seat, Contexts}
use Rattle.event_script.specs.declared.reading.Line.{Line}
use Rattle.event_script.specs.declared.reading.Line.TheVariants.{Look}
use Rattle.event_script.specs.Script.{IsFor}
use Rattle.tinker_texts.specs.Report.{part, cycles_line}
use Rattle.tinker_texts.specs.Looks.{look_line, ended_line}

-- a context that has ended, as its part of the report, and its cycles
abbrev pub seat_part : (dump : Bool) → ℕ → Seat → List ℕ
seat_part dump i seat = elim seat.end [
  | None ↦ []
  | Some e ↦ part i dump e seat.blocks seat.moment.state.output seat.moment.state.memory
]

abbrev pub seat_cycles : ℕ → Seat → List ℕ
seat_cycles i seat = cycles_line i seat.moment.cycles

-- a context as it is looked at
abbrev pub seat_look : ℕ → Seat → List ℕ
seat_look c seat = elim seat.end [
  | None ↦ look_line c seat.entry seat.moment.clock (length seat.moment.state.output) seat.moment.state.general
  | Some e ↦ ended_line c
]

-- what a line of a script puts out, by the contexts of a core
abbrev pub shown_of : List Seat → Line → List ℕ
shown_of seats (Look c) = elim (slice_get seats c) [ None ↦ [] | Some seat ↦ seat_look c seat ]
shown_of seats _ = []

-- lines are about the contexts of a core, and pages of their programs
abbrev pub AreFor : Contexts → List Line → Type 0
AreFor core lines = (length core.loading.programs ≡ length core.seats) × All (IsFor (map (λ (p : Loaded). page_count p.image) core.loading.programs)) lines
