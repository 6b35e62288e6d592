-- Whatever events come, each context has the meaning of its image's program.
use Rattle.std.specs.Prelude.{ℕ, ◌≡◌, ◌<◌, ◌≤◌, ◌*◌, List, length, ◌++◌, slice_get, IsSome, Some, None, All}
use Rattle.operation.specs.declared.End.{End}
use Rattle.image_format.specs.Image.{Image}
use Rattle.timed_meaning.specs.Program.{Block, Meaning, block_at, mean, after}
use Rattle.timed_meaning.specs.Cycles.{cycles}
use Rattle.block_steps.specs.Steps.{counted}
use Rattle.image_check.specs.Blocks.{program_in}
use Rattle.image_check.specs.Accepted.{IsAccepted}
use Rattle.image_check.specs.Laws.{IsInOtherTimings}
use Rattle.image_resched.specs.Rescheduled.{IsRescheduled}
use Rattle.image_resched.specs.Laws.{IsMovable}
use Rattle.context_system.specs.declared.Event.{Event}
use Rattle.context_system.specs.Context.{Setup, Context, running}
use Rattle.context_system.specs.System.{first, play, rounds}
use Rattle.context_system.specs.Turns.{turns_among}

-- a setup of an accepted image in a generation that has its units, and of a bound that is at least 1
pub record IsReady (s : Setup) : Type 0 where
  pub movable : IsMovable s.image s.generation
  pub formed : IsRescheduled s.image s.generation s.formed
  pub bound : 0 < s.bound

-- a setup of an accepted image whose program runs in whatever other timings of its blocks that agree with the image's own
pub record IsInTimings (s : Setup) : Type 0 where
  pub accepted : IsAccepted s.image
  pub timings : IsInOtherTimings s.image (running s)
  pub bound : 0 < s.bound

-- what a context has come to by an end
abbrev pub come_to : Context → End → Meaning
come_to x e = record { end = e; blocks = x.blocks; output = x.moment.state.output; memory = x.moment.state.memory }

-- A context has the meaning of its image's program under the image's own description: where it has ended, it has that
-- end, number of blocks, output and memory; where it stands between two blocks, that state and entry.
pub record IsAsMeant (s : Setup) (x : Context) : Type 0 where
  pub ended : (e : End) → x.end ≡ Some e → come_to x e ≡ mean (program_in s.image) s.input s.limit s.bound
  pub between : x.end ≡ None → x.moment.clock ≡ 0 →
      after (program_in s.image) s.input s.limit x.blocks ≡ Some (x.moment.state, x.entry)

-- of some setups each context and its setup are so, whatever events came, in whatever frames
abbrev pub AlwaysAre : (Setup → Context → Type 0) → List Setup → Type 0
AlwaysAre So setups =
    (frames saved : ℕ) (events : List Event) (c : ℕ) (s : Setup) (x : Context) → slice_get setups c ≡ Some s →
    slice_get (play (first setups frames saved) events).contexts c ≡ Some x → So s x

-- Whatever accepted images the contexts run, as whatever described generations that have their units, and in whatever order
-- turns, first touches, evictions, drops, prefetches and reloads come, each context is as its image means.
abbrev pub ContextsAreAsMeant : Type 0
ContextsAreAsMeant = (setups : List Setup) → All IsReady setups → AlwaysAre IsAsMeant setups

-- this rests on the timings of the blocks alone, and not on how they were found
abbrev pub TimingsAreAsMeant : Type 0
TimingsAreAsMeant = (setups : List Setup) → All IsInTimings setups → AlwaysAre IsAsMeant setups

-- A context has taken the cycles of its program as it runs, in the form's times: where it has ended those of the whole run,
-- else those of the blocks that have ended. The count stays at 2 ^ 64 - 1 once there.
pub record TakesItsCycles (s : Setup) (x : Context) : Type 0 where
  pub ended : (e : End) → x.end ≡ Some e → x.moment.cycles ≡ counted 0 (cycles (running s) s.input s.limit s.bound)
  pub going : x.end ≡ None → x.moment.cycles ≡ counted 0 (cycles (running s) s.input s.limit x.blocks)

-- each context of ready setups does, whatever events came
abbrev pub CyclesAreCounted : Type 0
CyclesAreCounted = (setups : List Setup) → All IsReady setups → AlwaysAre TakesItsCycles setups

-- a context that hasn't ended stands in a block of its program
abbrev pub StandsInABlock : Setup → Context → Type 0
StandsInABlock s x = x.end ≡ None → (b : Block) × (block_at (running s) x.entry ≡ Some b)

abbrev pub ContextsStandInBlocks : Type 0
ContextsStandInBlocks = (setups : List Setup) → All IsReady setups → AlwaysAre StandsInABlock setups

-- a context that has had 512 turns for each block of its bound has ended: a block has at most as many MultiOps
abbrev pub ContextsEnd : Type 0
ContextsEnd =
    (setups : List Setup) → All IsReady setups →
    (frames saved : ℕ) (events : List Event) (c : ℕ) (s : Setup) (x : Context) → slice_get setups c ≡ Some s →
    slice_get (play (first setups frames saved) events).contexts c ≡ Some x →
    512 * s.bound ≤ turns_among c events → IsSome x.end

-- so whatever came, all contexts have ended when turns have gone round as often as the greatest bound wants
abbrev pub AllEnd : Type 0
AllEnd =
    (setups : List Setup) → All IsReady setups →
    (frames saved : ℕ) (events : List Event) (bound : ℕ) → All (λ s. s.bound ≤ bound) setups →
    let end = play (first setups frames saved) (events ++ rounds (length setups) (512 * bound)) in
    All (λ x. IsSome x.end) end.contexts

-- each accepted image can run so, in each generation that has its units
abbrev pub EachCanRun : Type 0
EachCanRun = (s : Setup) → IsMovable s.image s.generation → 0 < s.bound → (formed : Image) × IsReady (record s { formed = formed })
