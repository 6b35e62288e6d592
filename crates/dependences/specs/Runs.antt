-- Of an access the run that it stands in, and the run before that at its place. For contracts within the crate.
use Rattle.std.specs.Prelude.{ℕ, ◌≡◌, ◌+◌, ◌<◌, ◌≤◌, ◌↔◌, IsTrue, List, length}
use Rattle.dependences.specs.declared.access.Access.{Access}
use Rattle.dependences.specs.declared.linking.Runs.{Runs}
use Rattle.dependences.specs.Accesses.{access_at, are_alike}
use Rattle.dependences.specs.Linked.{AreNeighbours}

-- the places never fall
abbrev pub ArePlacesInTurn : List Access → Type 0
ArePlacesInTurn list = (p q : ℕ) → p < q → q < length list → (access_at list p).place ≤ (access_at list q).place

-- the accesses at p and at q are alike, and to one place
pub record AreTogether (list : List Access) (p q : ℕ) : Type 0 where
  pub place : (access_at list p).place ≡ (access_at list q).place
  pub alike : IsTrue (are_alike (access_at list p).usage (access_at list q).usage)

-- the run of the access at q begins at `own`, and the run before it, if any at its place, at `before`
pub record AreRunsAt (list : List Access) (q : ℕ) (r : Runs) : Type 0 where
  pub forward : r.before ≤ r.own
  pub order : r.own ≤ q
  pub own : (k : ℕ) → r.own ≤ k → k < q → AreTogether list k q
  pub start : (k : ℕ) → k + 1 ≡ r.own → AreTogether list k q → ⊥
  pub before : (p : ℕ) → AreNeighbours list p q ↔ ((r.before ≤ p) × (p < r.own))
