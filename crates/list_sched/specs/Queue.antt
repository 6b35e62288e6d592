-- Which operations go next. For contracts within the crate.
use Rattle.std.specs.Prelude.{ℕ, ◌≡◌, ◌+◌, ◌<◌, ◌≤◌, ◌⊎◌, ◌&&◌, not, nat_eq, nat_lt, Bool, List, length, slice_index}
use Rattle.std.specs.List.{All, count_by}
use Rattle.std.specs.declared.cmp.Ordering.{Ordering}
use Rattle.std.specs.declared.cmp.Reverse.{Reverse}
use Rattle.std.specs.Ordering.{nat_cmp, ordering_then}
use Rattle.std.specs.BinaryHeap.{IsHeap}
use Rattle.operation.specs.declared.UnitKind.{UnitKind}
use Rattle.operation.specs.declared.UnitKind.TheVariants as unit
use Rattle.operation.specs.declared.LatKind.{LatKind}
use Rattle.machine_desc.specs.Issue.{same_unit}
use Rattle.serial_order.specs.Counts.{one_where}
use Rattle.list_sched.specs.Given.{unit_in}

-- an entry of the queue: the height of an operation and its number
abbrev pub Entry : Type 0
Entry = ℕ × Reverse ℕ

abbrev pub entry_cmp : Entry → Entry → Ordering
entry_cmp a b = ordering_then (nat_cmp a.0 b.0) (nat_cmp b.1.0 a.1.0)

-- how many entries an operation has
abbrev pub entries_of : List Entry → ℕ → ℕ
entries_of queue j = count_by (λ (e : Entry). nat_eq e.1.0 j) queue

-- a queue by heights of operations that have one entry at most
pub record IsQueue (heights : List ℕ) (queue : List Entry) : Type 0 where
  pub ordered : IsHeap entry_cmp queue
  pub high : All (λ (e : Entry). (e.1.0 < length heights) × (e.0 ≡ slice_index heights e.1.0)) queue
  pub once : (j : ℕ) → entries_of queue j ≤ 1

-- one more entry, or one less
abbrev pub IsMore : List Entry → ℕ → List Entry → Type 0
IsMore old i new = (j : ℕ) → entries_of new j ≡ entries_of old j + one_where (nat_eq i j)

abbrev pub is_branch : List (UnitKind × LatKind) → ℕ → Bool
is_branch kinds j = same_unit (unit_in kinds j) unit.B

-- an operation that waits for none and isn't the branch
abbrev pub can_go : List (UnitKind × LatKind) → List ℕ → ℕ → Bool
can_go kinds waits j = nat_eq (slice_index waits j) 0 && not (is_branch kinds j)

-- one that waited, and doesn't any more
abbrev pub is_freed : List (UnitKind × LatKind) → (old new : List ℕ) → ℕ → Bool
is_freed kinds old new j = nat_lt 0 (slice_index old j) && can_go kinds new j

-- those that are freed get entries
abbrev pub AreFreed : List (UnitKind × LatKind) → (waits waits' : List ℕ) → (queue queue' : List Entry) → Type 0
AreFreed kinds waits waits' queue queue' =
    (j : ℕ) → j < length waits → entries_of queue' j ≡ entries_of queue j + one_where (is_freed kinds waits waits' j)

-- operation i goes before operation k
abbrev pub Beats : List ℕ → ℕ → ℕ → Type 0
Beats heights i k = (slice_index heights k < slice_index heights i) ⊎ ((slice_index heights k ≡ slice_index heights i) × (i ≤ k))

-- the first of the queue, which it leaves
pub record IsFirst (heights : List ℕ) (old new : List Entry) (i : ℕ) : Type 0 where
  pub more : IsMore new i old
  pub first : (k : ℕ) → 0 < entries_of old k → Beats heights i k

-- or the branch, where the queue is empty
pub record IsBranchLeft (kinds : List (UnitKind × LatKind)) (old new : List Entry) (i : ℕ) : Type 0 where
  pub empty : (j : ℕ) → entries_of old j ≡ 0
  pub same : new ≡ old
  pub inside : i < length kinds
  pub branch : unit_in kinds i ≡ unit.B
