-- What holds of links and of what they cover.
use Rattle.std.specs.Prelude.{ℕ, ◌≡◌, ◌<◌, Bool, is_some, Option, IsSome, ℤ}
use Rattle.serial_order.specs.SerialOrder.{first_stuck}
use Rattle.block_links.specs.Cover.{Spans, Covers}

-- where links span what comes before what, the same operations are stuck
abbrev pub ChainsKeepTheStuck : Type 0
ChainsKeepTheStuck =
    (n : ℕ) (linked before : ℕ → ℕ → Bool) → Spans n linked before → first_stuck linked n ≡ first_stuck before n

-- links whose delays cover all delays between n operations span these
abbrev pub CoversSpan : Type 0
CoversSpan =
    (n : ℕ) (along delay : ℕ → ℕ → Option ℤ) →
    ((i j : ℕ) → IsSome (delay i j) → (i < n) × (j < n)) → Covers along delay →
    Spans n (λ i j. is_some (along i j)) (λ i j. is_some (delay i j))
