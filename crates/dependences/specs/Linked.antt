-- The links of a block's operations.
use Rattle.std.specs.Prelude.{ℕ, ◌≡◌, ◌≢◌, ◌<◌, ◌≤◌, ◌↔◌, Bool, IsTrue, IsFalse, nat_lt, ◌&&◌, if◌then◌else◌, List, length, Option, None, ℤ, pos}
use Rattle.std.specs.List.{Contains}
use Rattle.operation.specs.declared.LatKind.{LatKind}
use Rattle.operation.specs.Places.{can_trap, is_inb, latency_kind}
use Rattle.timed_meaning.specs.declared.TimedOp.{TimedOp}
use Rattle.block_links.specs.declared.links.Dependence.{Dependence}
use Rattle.block_links.specs.declared.links.Dependence.TheVariants.{Flow, Anti, Output, Given}
use Rattle.block_links.specs.declared.links.Link.{Link}
use Rattle.block_links.specs.declared.links.Links.{Links}
use Rattle.block_links.specs.Links.{AreLinks, row}
use Rattle.dependences.specs.declared.access.Usage.{Usage}
use Rattle.dependences.specs.declared.access.Usage.TheVariants.{Read, Write}
use Rattle.dependences.specs.declared.access.Access.{Access}
use Rattle.dependences.specs.Before.{comes_before, delay_between}
use Rattle.dependences.specs.Accesses.{access_at, are_alike, are_stores}

-- what the first access and the second one make of their operations
abbrev pub dependence_of : Usage → Usage → Dependence
dependence_of (Write a) Read = Flow
dependence_of (Write a) (Write b) = Output
dependence_of Read _ = Anti

-- the accesses from p on and before q are alike with that at p
abbrev pub AreRun : List Access → (p q : ℕ) → Type 0
AreRun list p q = (k : ℕ) → p < k → k < q → IsTrue (are_alike (access_at list p).usage (access_at list k).usage)

-- the accesses at p and at q are to one place, not alike, and in between some alike with the first stand before some alike
-- with the second: they are in neighbouring runs
pub record AreNeighbours (list : List Access) (p q : ℕ) : Type 0 where
  pub order : p < q
  pub inside : q < length list
  pub place : (access_at list p).place ≡ (access_at list q).place
  pub unlike : IsFalse (are_alike (access_at list p).usage (access_at list q).usage)
  pub second : ℕ
  pub behind : p < second
  pub within : second ≤ q
  pub first_run : AreRun list p second
  pub second_run : (k : ℕ) → second ≤ k → k < q → IsTrue (are_alike (access_at list k).usage (access_at list q).usage)

-- j is the next operation behind i of those that pass the test, among which i is
pub record IsNext (test : ℕ → Bool) (n i j : ℕ) : Type 0 where
  pub order : i < j
  pub inside : j < n
  pub first : IsTrue (test i)
  pub second : IsTrue (test j)
  pub none : (k : ℕ) → i < k → k < j → IsFalse (test k)

abbrev pub traps_at : (ℕ → TimedOp) → ℕ → Bool
traps_at ops k = can_trap (ops k).guarded.op

abbrev pub is_inb_at : (ℕ → TimedOp) → ℕ → Bool
is_inb_at ops k = is_inb (ops k).guarded.op

-- why there is a link: two operations have accesses in neighbouring runs, not both stores; or they are next to each other of
-- those that can trap, or that take a byte of the input
pub data IsLink (ops : ℕ → TimedOp) (n : ℕ) (list : List Access) (i j : ℕ) : Dependence → Type 0 where
  Near : (p q : ℕ) → AreNeighbours list p q → IsFalse (are_stores (access_at list p).usage (access_at list q).usage) →
      (access_at list p).number ≡ i → (access_at list q).number ≡ j → i ≢ j →
      IsLink ops n list i j (dependence_of (access_at list p).usage (access_at list q).usage)
  Trap : IsNext (traps_at ops) n i j → IsLink ops n list i j (Given (pos 0))
  Input : IsNext (is_inb_at ops) n i j → IsLink ops n list i j (Given (pos 0))

-- the links of n operations by their accesses: just those
pub record AreLinked (ops : ℕ → TimedOp) (n : ℕ) (list : List Access) (l : Links) : Type 0 where
  pub links : AreLinks l n
  pub just : (i : ℕ) (k : Link) → i < n → Contains (row l i) k ↔ IsLink ops n list i k.to k.dependence

-- i comes before j
abbrev pub before_among : (ℕ → TimedOp) → ℕ → ℕ → Bool
before_among ops i j = comes_before i j (ops i) (ops j)

-- the latency of an operation under those of a generation
abbrev pub latency_among : (LatKind → ℕ) → (ℕ → TimedOp) → ℕ → ℕ
latency_among latency ops i = latency (latency_kind (ops i).guarded.op)

-- the delay of i before j, of n operations
abbrev pub delay_among : (LatKind → ℕ) → (ℕ → TimedOp) → (n i j : ℕ) → Option ℤ
delay_among latency ops n i j = if nat_lt i n && nat_lt j n then delay_between latency i j (ops i) (ops j) else None
