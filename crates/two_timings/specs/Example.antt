-- A block in two timings: an output of the value that a register had before a sum goes there.
use Rattle.std.specs.Prelude.{ℕ, zero, suc, ◌-◌, List, [], ◌∷◌, refl}
use Rattle.operation.specs.declared.Guarded.{Guarded}
use Rattle.operation.specs.declared.Op.TheVariants as op
use Rattle.operation.specs.declared.AluKind.TheVariants.{Add}
use Rattle.two_timings.specs.Timing.{Timing, LandApart}
use Rattle.two_timings.specs.Before.{IsSerialOrder}
use Rattle.two_timings.specs.Law.{AgreeWithOne}

-- addi r1, r0, 65, and outb r1
abbrev pub ops : ℕ → Guarded
ops zero = record { guard = 0; op = op.AluImm Add 1 0 65; in_range = refl }
ops (suc k) = record { guard = 0; op = op.Outb 1; in_range = refl }

-- the sum takes two cycles, and the output issues a cycle after it
abbrev pub too_early : Timing
too_early = record { listed = 0 ∷ (1 ∷ []); at = λ k. k; latency = λ kind. 2 }

-- the sum takes one cycle, and the output issues a cycle before it
abbrev pub in_turn : Timing
in_turn = record { listed = 1 ∷ (0 ∷ []); at = λ k. 1 - k; latency = λ kind. 1 }

-- the output first
abbrev pub order : List ℕ
order = 1 ∷ (0 ∷ [])

-- both agree with this order, and it is the first one's serial order: the laws' premises can be met
pub record MeetsThePremises : Type 0 where
  pub agree : AgreeWithOne ops order too_early in_turn
  pub apart : LandApart ops too_early
  pub serial : IsSerialOrder ops too_early order
