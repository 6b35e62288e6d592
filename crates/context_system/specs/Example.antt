-- An image that runs in its own generation and in another, worked out by hand.
use Rattle.std.specs.Prelude.{ℕ, ◌≡◌, List, [], ◌∷◌, ◌++◌, replicate, slice_get, option_map, Some}
use Rattle.operation.specs.declared.End.TheVariants.{Halted}
use Rattle.machine_desc.specs.Description.{Description}
use Rattle.machine_desc.specs.BuiltIn.{t1, t2}
use Rattle.image_format.specs.Image.{Image}
use Rattle.paging.specs.Example.{HasCounts}
use Rattle.context_system.specs.declared.Event.TheVariants.{Turn, Evict}
use Rattle.context_system.specs.Context.{Setup}
use Rattle.context_system.specs.System.{System, first, play, rounds}
use Rattle.context_system.specs.Meant.{IsReady}

-- an image that has the block of these three words alone
abbrev pub image_of : Description → List ℕ → Image
image_of g words = record {
  description = g;
  entry = 0;
  rows = record { entry = 0; count = 3 } ∷ [];
  memory = 0;
  init = [];
  words = words ++ replicate 509 0;
}

-- `addi r1, r0, 65`, `outb r1` and `halt r0`, each in a MultiOp of its own, for the generation t1
abbrev pub image : Image
image = image_of t1 (0x8008_8020_0000_0041 ∷ (0x901C_8001_0000_0000 ∷ (0xA02A_0000_0000_0000 ∷ [])))

-- as t2 the `halt`, which takes two cycles there, issues beside the `addi`
abbrev pub image_in_t2 : Image
image_in_t2 = image_of t2 (0x8008_8020_0000_0041 ∷ (0x202A_0000_0000_0000 ∷ (0x901C_8001_0000_0000 ∷ [])))

-- a run of the image in a generation, in which it has this form
abbrev pub run_as : Description → Image → Setup
run_as g formed = record { image = image; generation = g; formed = formed; input = []; limit = 8; bound = 4 }

-- the premises of the laws can be met: it can run as t1 and as t2
pub record PremisesCanBeMet : Type 0 where
  pub own : IsReady (run_as t1 image)
  pub other : IsReady (run_as t2 image_in_t2)

-- both runs beside each other, as turns go round, in one frame and with so many saved pages
abbrev pub beside : ℕ → System
beside saved = play (first (run_as t1 image ∷ (run_as t2 image_in_t2 ∷ [])) 1 saved) (rounds 2 3)

-- the first run alone: its page is evicted in the middle of its block, and comes back
abbrev pub alone : System
alone = play (first (run_as t1 image ∷ []) 1 1) (Turn 0 ∷ (Evict (record { program = 0; page = 0 }) ∷ (Turn 0 ∷ (Turn 0 ∷ []))))

-- the context c has halted with 0 after so many cycles, and has put out an A
pub record HasHalted (s : System) (c cycles : ℕ) : Type 0 where
  pub ended : option_map (λ x. x.end) (slice_get s.contexts c) ≡ Some (Some (Halted 0))
  pub output : option_map (λ x. x.moment.state.output) (slice_get s.contexts c) ≡ Some (65 ∷ [])
  pub took : option_map (λ x. x.moment.cycles) (slice_get s.contexts c) ≡ Some cycles

-- loads, reschedulings, restores and evictions: with one saved page each eviction drops the page that is needed next; with two
-- it is restored; and the page that was evicted in the middle of a block is restored
pub record AreWorked : Type 0 where
  pub first : HasHalted (beside 1) 0 3
  pub second : HasHalted (beside 1) 1 2
  pub one_saved : HasCounts (beside 1).paging 5 2 0 4
  pub two_saved : HasCounts (beside 2).paging 5 1 3 4
  pub third : HasHalted alone 0 3
  pub evicted : HasCounts alone.paging 2 0 1 1
