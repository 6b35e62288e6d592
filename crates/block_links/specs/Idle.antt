-- Who waits for none. For contracts within the crate.
use Rattle.std.specs.Prelude.{ℕ, ◌≡◌, ◌<◌, ◌↔◌, List, slice_index}
use Rattle.serial_order.specs.Lists.{Among, EachOnce}

-- of the first n operations the list has those that wait for none, each once
pub record AreIdle (n : ℕ) (waits order : List ℕ) : Type 0 where
  pub once : EachOnce order
  pub all : (j : ℕ) → Among j order ↔ ((j < n) × (slice_index waits j ≡ 0))
