-- What the steps of the planner come to. For contracts within the crate.
use Rattle.std.specs.Prelude.{ℕ, ◌≡◌, ◌+◌, ◌≤◌, ◌⊎◌, List, length, slice_index, ℤ, pos, ◌+ℤ◌, ◌≤ℤ◌}
use Rattle.std.specs.List.{All, Contains}
use Rattle.operation.specs.declared.UnitKind.{UnitKind}
use Rattle.operation.specs.declared.UnitKind.TheVariants as unit
use Rattle.block_links.specs.declared.links.Link.{Link}

-- the height of an operation by its links: the greatest of its latency and, for each link, its delay and the height behind it
pub record IsHeight (delay : Link → ℤ) (links : List Link) (latency : ℕ) (h : ℕ → ℕ) (n : ℕ) : Type 0 where
  pub own : latency ≤ n
  pub above : All (λ (l : Link). (delay l +ℤ pos (h l.to)) ≤ℤ pos n) links
  pub one : (n ≡ latency) ⊎ ((l : Link) × Contains links l × (pos n ≡ delay l +ℤ pos (h l.to)))

-- an operation that issues in a cycle holds those back to which its links lead: the least cycles of these are now the greater
-- of what they were and the cycle with the delay
pub record IsHeldBack (delay : Link → ℤ) (links : List Link) (cycle : ℕ) (old new : List ℕ) : Type 0 where
  pub size : length new ≡ length old
  pub kept : (j : ℕ) → slice_index old j ≤ slice_index new j
  pub above : All (λ (l : Link). (delay l +ℤ pos cycle) ≤ℤ pos (slice_index new l.to)) links
  pub one : (j : ℕ) → (slice_index new j ≡ slice_index old j) ⊎
      ((l : Link) × Contains links l × (l.to ≡ j) × (pos (slice_index new j) ≡ delay l +ℤ pos cycle))

-- from which cycle on room is looked for: from the least that the delays allow, where the branch lands at the end or later
pub record IsStart (u : UnitKind) (latency bound end from : ℕ) : Type 0 where
  pub allowed : bound ≤ from
  pub last : u ≡ unit.B → end ≤ from + latency
  pub least : (c : ℕ) → bound ≤ c → (u ≡ unit.B → end ≤ c + latency) → from ≤ c
