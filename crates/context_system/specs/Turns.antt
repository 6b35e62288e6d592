-- What holds of turns: each context does what it does alone, and comes on.
use Rattle.std.specs.Prelude.{ℕ, ◌≡◌, ◌<◌, ◌+◌, zero, suc, nat_eq, if◌then◌else◌, List, [], ◌∷◌, replicate, slice_get, IsSome, ◌⊎◌, Some, None, option_map}
use Rattle.timed_meaning.specs.Program.{Block, block_at}
use Rattle.context_system.specs.declared.Event.{Event}
use Rattle.context_system.specs.declared.Event.TheVariants.{Turn}
use Rattle.context_system.specs.Context.{Setup, Context, running, turn}
use Rattle.context_system.specs.System.{System, first, step, play}

-- so many turns of a context alone
abbrev pub turns : ℕ → Context → Context
turns zero x = x
turns (suc n) x = turns n (turn x)

-- how many turns of a context an event has, and a list of events
abbrev pub turns_in : ℕ → Event → ℕ
turns_in c (Turn d) = if nat_eq d c then 1 else 0
turns_in c _ = 0

abbrev pub turns_among : ℕ → List Event → ℕ
turns_among c [] = 0
turns_among c (e ∷ es) = turns_in c e + turns_among c es

-- each context is where its own turns have brought it: those of the others and the page events change nothing of it
abbrev pub OnlyItsTurnsCount : Type 0
OnlyItsTurnsCount =
    (s : System) (events : List Event) (c : ℕ) →
    slice_get (play s events).contexts c ≡ option_map (turns (turns_among c events)) (slice_get s.contexts c)

-- it is what it has alone, in whatever frames, after as many of its turns
abbrev pub DoesAsAlone : Type 0
DoesAsAlone =
    (setups : List Setup) (frames saved frames' saved' : ℕ) (events : List Event) (c : ℕ) (s : Setup) →
    slice_get setups c ≡ Some s →
    slice_get (play (first setups frames saved) events).contexts c
    ≡ slice_get (play (first (s ∷ []) frames' saved') (replicate (turns_among c events) (Turn 0))).contexts 0

-- a context has come on: it has ended, or one more of its blocks has, or it stands later in its block
abbrev pub HasComeOn : Context → Context → Type 0
HasComeOn x y =
    IsSome y.end ⊎ ((y.blocks ≡ x.blocks + 1)
    ⊎ ((y.blocks ≡ x.blocks) × (y.entry ≡ x.entry) × (x.moment.clock < y.moment.clock)))

-- each turn of a context that hasn't ended brings it on, where a block stands at its entry
abbrev pub TurnsBringOn : Type 0
TurnsBringOn =
    (x : Context) (b : Block) → x.end ≡ None → block_at (running x.setup) x.entry ≡ Some b → HasComeOn x (turn x)

-- a turn of a context that has ended changes nothing, of the pages neither
abbrev pub EndedStandStill : Type 0
EndedStandStill = (s : System) (c : ℕ) (x : Context) → slice_get s.contexts c ≡ Some x → IsSome x.end → step s (Turn c) ≡ s
