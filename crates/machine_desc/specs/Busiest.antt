-- The longest busy time of a description.
use Rattle.std.specs.Prelude.{ℕ, ◌≡◌, ◌≤◌, max, List, fold}
use Rattle.operation.specs.declared.LatKind.{LatKind}
use Rattle.machine_desc.specs.Description.{Description, busy_of}

-- no busy time is longer than the number, and that of a kind is the number
pub record IsLongestBusy (g : Description) (n : ℕ) : Type 0 where
  pub bound : (k : LatKind) → busy_of g k ≤ n
  pub reached : (k : LatKind) × (busy_of g k ≡ n)

-- the longest busy time among those of some kinds; 0 where there is none
abbrev pub longest_among : Description → List LatKind → ℕ
longest_among g kinds = fold (λ most k. max most (busy_of g k)) 0 kinds
