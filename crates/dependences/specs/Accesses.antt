-- The accesses of a block's operations: what each reads and writes, and when.
use Rattle.std.specs.Prelude.{ℕ, zero, suc, ◌≡◌, ◌+◌, ◌*◌, ◌<◌, ◌≤◌, ◌⊎◌, ◌↔◌, Bool, true, false, not, ◌&&◌, nat_eq, List, [], ◌++◌, length, map, filter, slice_index_or}
use Rattle.std.specs.List.{Contains}
use Rattle.operation.specs.declared.Place.{Place}
use Rattle.operation.specs.Places.{is_constant, destinations}
use Rattle.timed_meaning.specs.declared.TimedOp.{TimedOp}
use Rattle.dependences.specs.declared.footprint.Role.TheVariants as role
use Rattle.dependences.specs.declared.access.Usage.{Usage}
use Rattle.dependences.specs.declared.access.Usage.TheVariants.{Read, Write}
use Rattle.dependences.specs.declared.access.Access.{Access}
use Rattle.dependences.specs.Before.{lands_at}
use Rattle.dependences.specs.Footprint.{place_number, read_places, role_at}

-- of some places, those that are no constants
abbrev pub kept : List Place → List Place
kept = filter (λ x. not (is_constant x))

-- operation i reads a place
abbrev pub read_of : ℕ → TimedOp → Place → Access
read_of i o x = record { place = place_number x; time = o.at * 2 + 1; number = i; usage = Read }

-- operation i writes a place
abbrev pub write_of : ℕ → TimedOp → Place → Access
write_of i o x = record { place = place_number x; time = lands_at o * 2; number = i; usage = Write (role_at o.guarded.op x) }

-- all that operation i reads and writes
abbrev pub accesses_of : ℕ → TimedOp → List Access
accesses_of i o = map (read_of i o) (kept (read_places o.guarded)) ++ map (write_of i o) (kept (destinations o.guarded.op))

-- all that the first n operations do
unfoldable pub all_accesses : (ℕ → TimedOp) → ℕ → List Access
all_accesses ops zero = []
all_accesses ops (suc i) = all_accesses ops i ++ accesses_of i (ops i)

-- by place, then by time, then by number
abbrev pub IsInTurn : Access → Access → Type 0
IsInTurn a b = (a.place < b.place) ⊎ ((a.place ≡ b.place) × ((a.time < b.time) ⊎ ((a.time ≡ b.time) × (a.number ≤ b.number))))

-- the access at a place of the list
abbrev pub access_at : List Access → ℕ → Access
access_at list p = slice_index_or list p (record { place = 0; time = 0; number = 0; usage = Read })

-- the accesses of n operations, in turn. An operation reads at most six places and writes at most two
pub record AreAccesses (ops : ℕ → TimedOp) (n : ℕ) (list : List Access) : Type 0 where
  pub few : length list ≤ 8 * n
  pub all : (a : Access) → Contains list a ↔ Contains (all_accesses ops n) a
  pub in_turn : (p q : ℕ) → p < q → q < length list → IsInTurn (access_at list p) (access_at list q)

-- both read, or both are wired in one family: of two such accesses to one place either can be the first
abbrev pub are_alike : Usage → Usage → Bool
are_alike Read Read = true
are_alike (Write role.One) (Write role.One) = true
are_alike (Write role.Zero) (Write role.Zero) = true
are_alike _ _ = false

-- both write to the memory
abbrev pub are_stores : Usage → Usage → Bool
are_stores (Write role.Store) (Write role.Store) = true
are_stores _ _ = false

-- both write, not both to the memory, and not alike
abbrev pub write_apart : Usage → Usage → Bool
write_apart (Write a) (Write b) = not (are_stores (Write a) (Write b)) && not (are_alike (Write a) (Write b))
write_apart _ _ = false

-- two operations write one register, predicate or target, not as one wired family, and land in one cycle
abbrev pub is_clash : Access → Access → Bool
is_clash a b =
    nat_eq a.place b.place && (nat_eq a.time b.time && (not (nat_eq a.number b.number) && write_apart a.usage b.usage))

-- no two accesses that stand next to each other clash
abbrev pub NoneClash : List Access → Type 0
NoneClash list = (p : ℕ) → p + 1 < length list → is_clash (access_at list p) (access_at list (p + 1)) ≡ false
