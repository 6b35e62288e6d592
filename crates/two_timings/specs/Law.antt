-- Timings that agree with one serial order do the same, and a block's own times agree with each of its serial orders.
use Rattle.std.specs.Prelude.{ℕ, ◌≡◌, List, slice_get, Some}
use Rattle.std.specs.List.{AllZip}
use Rattle.operation.specs.declared.Guarded.{Guarded}
use Rattle.timed_meaning.specs.Block.{Start, Ending, Ended, Trapped, block}
use Rattle.timed_meaning.specs.Program.{Block, Program, mean, after}
use Rattle.two_timings.specs.Timing.{Timing, IsTiming, IsOrderOf, LandApart, Agrees, HasOneBranch, timed_ops}
use Rattle.two_timings.specs.Before.{IsSerialOrder}

-- both end with equal state and answer, or both trap at the same operation, with equal trap, output and memory. The lists
-- have the operations' numbers, by which one operation is known at two places. At a trap registers aren't compared
abbrev pub EndsAlike : List ℕ → List ℕ → Ending → Ending → Type 0
EndsAlike a b (Ended s x) (Ended s' x') = (s ≡ s') × (x ≡ x')
EndsAlike a b (Trapped t k out mem) (Trapped t' k' out' mem') =
    (t ≡ t') × ((op : ℕ) × (slice_get a k ≡ Some op) × (slice_get b k' ≡ Some op)) × (out ≡ out') × (mem ≡ mem')
EndsAlike a b (Ended s x) (Trapped t k out mem) = ⊥
EndsAlike a b (Trapped t k out mem) (Ended s x) = ⊥

-- a timing of the operations of a serial order that agrees with it
pub record IsTimingOf (ops : ℕ → Guarded) (order : List ℕ) (t : Timing) : Type 0 where
  -- issue cycles never fall in the list, and nothing lands in the cycle in which it issues
  pub timing : IsTiming t
  -- it lists the operations of the order, each once
  pub complete : IsOrderOf order t.listed
  -- its times and its list agree with the order
  pub agrees : Agrees ops t order

-- two timings of one block's operations that agree with one serial order
pub record AgreeWithOne (ops : ℕ → Guarded) (order : List ℕ) (a b : Timing) : Type 0 where
  -- of two branches the later listed one decides where control goes, and agreement leaves open which that is
  pub branch : HasOneBranch ops order
  -- both have these operations, and agree with the order
  pub first : IsTimingOf ops order a
  pub second : IsTimingOf ops order b

-- two timings that agree with one serial order end alike, from every state, input, next entry and output limit
abbrev pub TimingsThatAgreeDoTheSame : Type 0
TimingsThatAgreeDoTheSame =
    (ops : ℕ → Guarded) (order : List ℕ) (a b : Timing) → AgreeWithOne ops order a b →
    (c : Start) → EndsAlike a.listed b.listed (block c (timed_ops ops a)) (block c (timed_ops ops b))

-- blocks alike but for the times and the places of their operations, and for the cycle in which they end
pub record AreAlikeBlocks (a b : Block) : Type 0 where
  -- control comes in at one entry, and falls through to one entry
  pub entry : a.entry ≡ b.entry
  pub next : a.next ≡ b.next
  -- their operations are two timings that agree with one serial order
  pub ops : ℕ → Guarded
  pub order : List ℕ
  pub first : Timing
  pub second : Timing
  pub agree : AgreeWithOne ops order first second
  pub first_ops : a.ops ≡ timed_ops ops first
  pub second_ops : b.ops ≡ timed_ops ops second

-- programs alike but for the times of their blocks
pub record AreAlikeButForTimes (p q : Program) : Type 0 where
  -- both begin at one entry, with one memory
  pub entry : p.entry ≡ q.entry
  pub memory : p.memory ≡ q.memory
  pub init : p.init ≡ q.init
  -- their tables have as many blocks, which are alike row by row
  pub blocks : AllZip AreAlikeBlocks p.blocks q.blocks

-- such programs have one meaning, and the same state and entry after each number of blocks, for every input and limit
abbrev pub ProgramsMeanTheSame : Type 0
ProgramsMeanTheSame =
    (p q : Program) → AreAlikeButForTimes p q → (input : List ℕ) (limit n : ℕ) →
    (mean p input limit n ≡ mean q input limit n) × (after p input limit n ≡ after q input limit n)

-- a block's own times agree with each of its serial orders
abbrev pub OwnTimesAgree : Type 0
OwnTimesAgree =
    (ops : ℕ → Guarded) (t : Timing) (order : List ℕ) →
    -- of two writes of one place that land together neither is before the other, and an order has them either way round
    LandApart ops t →
    -- what is before an operation stands earlier
    IsSerialOrder ops t order →
    Agrees ops t order
