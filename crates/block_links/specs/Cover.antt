-- What it is that some pairs of operations cover others: which comes before which, and the delays, follow along paths.
use Rattle.std.specs.Prelude.{ℕ, ◌≡◌, ◌<◌, Bool, IsTrue, Option, Some, ℤ, ◌+ℤ◌, ◌≤ℤ◌}

-- one or more links, each from where the one before it leads
pub data Chain (linked : ℕ → ℕ → Bool) (i : ℕ) : ℕ → Type 0 where
  One : (j : ℕ) → IsTrue (linked i j) → Chain linked i j
  Then : (k j : ℕ) → Chain linked i k → IsTrue (linked k j) → Chain linked i j

-- of n operations one comes before another exactly where a chain of links leads to it, and where it is linked to it at all
pub record Spans (n : ℕ) (linked before : ℕ → ℕ → Bool) : Type 0 where
  pub inside : (i j : ℕ) → IsTrue (linked i j) → (i < n) × (j < n)
  pub sound : (i j : ℕ) → IsTrue (linked i j) → IsTrue (before i j)
  pub reached : (i j : ℕ) → i < n → j < n → IsTrue (before i j) → Chain linked i j

-- one or more links, and the sum of their delays
pub data Way (delay : ℕ → ℕ → Option ℤ) (i : ℕ) : ℕ → ℤ → Type 0 where
  One : (j : ℕ) (d : ℤ) → delay i j ≡ Some d → Way delay i j d
  Then : (k j : ℕ) (sum d : ℤ) → Way delay i k sum → delay k j ≡ Some d → Way delay i j (sum +ℤ d)

-- the delays of links cover all delays: none is above the pair's own, and for each pair some way adds up to at least its own
pub record Covers (along delay : ℕ → ℕ → Option ℤ) : Type 0 where
  pub sound : (i j : ℕ) (d : ℤ) → along i j ≡ Some d → (e : ℤ) × (delay i j ≡ Some e) × (d ≤ℤ e)
  pub reached : (i j : ℕ) (e : ℤ) → delay i j ≡ Some e → (sum : ℤ) × Way along i j sum × (e ≤ℤ sum)
