-- What a script does to contexts, and what its looks show.
use Rattle.std.specs.Prelude.{ℕ, List, [], ◌∷◌, ◌++◌, length, replicate, slice_get, Some, None}
use Rattle.tnk_base.specs.declared.Key.{Key}
use Rattle.context_system.specs.declared.Event.{Event}
use Rattle.context_system.specs.declared.Event.TheVariants as event
use Rattle.context_system.specs.Context.{Context}
use Rattle.context_system.specs.System.{System, key_of, play}
use Rattle.event_script.specs.declared.reading.Line.{Line}
use Rattle.event_script.specs.declared.reading.Line.TheVariants.{Turn, Evict, Drop, Prefetch, Look}
use Rattle.tinker_texts.specs.Looks.{look_line, ended_line}

-- the key of the page p of context c's program
abbrev pub key_in : List Context → (c p : ℕ) → Key
key_in xs c p = elim (slice_get xs c) [ None ↦ record { program = c; page = p } | Some x ↦ key_of xs x.setup p ]

-- the events of a line
abbrev pub events_of : List Context → Line → List Event
events_of xs (Turn c n) = replicate n (event.Turn c)
events_of xs (Evict c p) = event.Evict (key_in xs c p) ∷ []
events_of xs (Drop c p) = event.Drop (key_in xs c p) ∷ []
events_of xs (Prefetch c p) = event.Prefetch (key_in xs c p) ∷ []
events_of xs (Look c) = []

-- the contexts and their pages behind a line
abbrev pub behind_line : System → Line → System
behind_line s line = play s (events_of s.contexts line)

-- and behind all lines, one after another
abbrev pub behind_script : System → List Line → System
behind_script s [] = s
behind_script s (line ∷ lines) = behind_script (behind_line s line) lines

-- the line of a look at a context
abbrev pub look_at : ℕ → Context → List ℕ
look_at c x = elim x.end [
  | None ↦ look_line c x.entry x.moment.clock (length x.moment.state.output) x.moment.state.general
  | Some e ↦ ended_line c
]

-- what a line puts out: a look does
abbrev pub shown_by : System → Line → List ℕ
shown_by s (Look c) = elim (slice_get s.contexts c) [ None ↦ [] | Some x ↦ look_at c x ]
shown_by s _ = []

-- what all lines put out
abbrev pub looks : System → List Line → List ℕ
looks s [] = []
looks s (line ∷ lines) = shown_by s line ++ looks (behind_line s line) lines
