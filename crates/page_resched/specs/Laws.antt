-- What holds of blocks and pages in form.
use Rattle.std.specs.Prelude.{ℕ, ◌≡◌, ◌<◌, List, length, map, slice_index, None}
use Rattle.machine_desc.specs.Description.{Description, IsDescription}
use Rattle.list_encoding.specs.Times.{word_pace, issue_cycles, block_end}
use Rattle.serial_order.specs.SerialOrder.{IsOrder}
use Rattle.two_timings.specs.Timing.{timed_ops}
use Rattle.two_timings.specs.Law.{IsTimingOf}
use Rattle.latency_deps.specs.Timing.{ops_of}
use Rattle.latency_deps.specs.Rules.{first_broken}
use Rattle.latency_deps.specs.Block.{Block, IsGood, block_in}
use Rattle.latency_deps.specs.Delays.{before_in}
use Rattle.latency_deps.specs.Page.{Page, IsPage}
use Rattle.list_sched.specs.Schedule.{IsProblem}
use Rattle.page_resched.specs.Block.{problem, HasUnits, timing_in}
use Rattle.page_resched.specs.Form.{AreInForm, HasPageUnits, IsFormOfPage}

-- a good block, and a generation that has its units
pub record IsMovable (b : Block) (g : Description) : Type 0 where
  pub good : IsGood b
  pub machine : IsDescription g
  pub units : HasUnits g b

-- such a block can be scheduled
abbrev pub BlocksAreProblems : Type 0
BlocksAreProblems = (b : Block) (g : Description) → IsMovable b g → IsProblem (problem g b)

-- the new words are as many, and their times are the schedule's
pub record HasTimes (g : Description) (b : Block) (new : List ℕ) (f : AreInForm g b new) : Type 0 where
  pub as_many : length new ≡ length b.words
  pub cycles : issue_cycles (map word_pace new) ≡ map f.schedule.cycle f.listed
  pub end : block_end (map word_pace new) ≡ f.schedule.end

abbrev pub FormsHaveTimes : Type 0
FormsHaveTimes = (b : Block) (g : Description) (new : List ℕ) → IsMovable b g → (f : AreInForm g b new) → HasTimes g b new f

-- the schedule, under the latencies of the generation, agrees with each serial order of the block
abbrev pub SchedulesAgree : Type 0
SchedulesAgree =
    (b : Block) (g : Description) (new : List ℕ) → IsMovable b g → (f : AreInForm g b new) →
    (order : List ℕ) → IsOrder (before_in b) (length b.words) order →
    IsTimingOf (ops_of b.words) order (timing_in g f.schedule f.listed)

-- the operations of the new words, with their times, are those of the schedule
abbrev pub FormsAreScheduled : Type 0
FormsAreScheduled =
    (b : Block) (g : Description) (new : List ℕ) → IsMovable b g → (f : AreInForm g b new) →
    (block_in g new).ops ≡ timed_ops (ops_of b.words) (timing_in g f.schedule f.listed)

-- the new words break no rule, under the new description and among the rows of the old
abbrev pub FormsKeepTheRules : Type 0
FormsKeepTheRules =
    (b : Block) (g : Description) (new : List ℕ) (m : IsMovable b g) → AreInForm g b new → first_broken g m.good.rows new ≡ None

-- operation m of the new words is the operation listed at m, each operation of the block is one of them, and of two the one
-- comes before the other as it did
pub record IsSameRelation (b : Block) (g : Description) (new listed : List ℕ) : Type 0 where
  pub inside : (m : ℕ) → m < length new → slice_index listed m < length b.words
  pub each : (i : ℕ) → i < length b.words → (m : ℕ) × (m < length new) × (slice_index listed m ≡ i)
  pub same : (m : ℕ) → m < length new → ops_of new m ≡ ops_of b.words (slice_index listed m)
  pub before : (m k : ℕ) → m < length new → k < length new →
      before_in (block_in g new) m k ≡ before_in b (slice_index listed m) (slice_index listed k)

abbrev pub FormsKeepBefore : Type 0
FormsKeepBefore =
    (b : Block) (g : Description) (new : List ℕ) → IsMovable b g → (f : AreInForm g b new) → IsSameRelation b g new f.listed

-- a block has one form at most
abbrev pub OneForm : Type 0
OneForm = (b : Block) (g : Description) (new new' : List ℕ) → IsMovable b g → AreInForm g b new → AreInForm g b new' → new ≡ new'

-- and each has one
abbrev pub EachBlockHasAForm : Type 0
EachBlockHasAForm = (b : Block) (g : Description) → IsMovable b g → (new : List ℕ) × AreInForm g b new

-- a page, and a generation that has the units of its blocks
pub record IsMovablePage (p : Page) (g : Description) : Type 0 where
  pub page : IsPage p
  pub machine : IsDescription g
  pub units : HasPageUnits g p

-- a page that was made for a description has one form at most
abbrev pub OnePageForm : Type 0
OnePageForm =
    (p : Page) (own g : Description) (new new' : List ℕ) → IsMovablePage p g →
    IsFormOfPage own g p new → IsFormOfPage own g p new' → new ≡ new'

-- and each has one
abbrev pub EachPageHasAForm : Type 0
EachPageHasAForm = (p : Page) (own g : Description) → IsMovablePage p g → (new : List ℕ) × IsFormOfPage own g p new
