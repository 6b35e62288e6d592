-- Timed writes, and the value that a place has at a time.
use Rattle.std.specs.Prelude.{ℕ, zero, ◌≡◌, ◌≤◌, Bool, false, cond, not, nat_eq, nat_le, nat_lt, List, [], ◌∷◌, length, slice_index, slice_index_or, map, filter, if◌then◌else◌, Option, Some, None}
use Rattle.std.specs.List.{range_with_len}
use Rattle.operation.specs.declared.Place.TheVariants.{General, Predicate, Target, Memory}
use Rattle.operation.specs.Places.{same_place}
use Rattle.timed_meaning.specs.declared.Cell.{Cell}
use Rattle.timed_meaning.specs.declared.Cell.TheVariants.{At, Byte}
use Rattle.timed_meaning.specs.declared.Write.{Write}

-- what a program sees of the machine
pub record State : Type 0 where
  pub general : List ℕ
  pub predicates : List Bool
  pub targets : List ℕ
  pub memory : List ℕ
  pub output : List ℕ
  pub position : ℕ

-- whether two cells are one
abbrev pub same_cell : Cell → Cell → Bool
same_cell (At x) (At y) = same_place x y
same_cell (Byte a) (Byte b) = nat_eq a b
same_cell _ _ = false

-- a predicate's value is 1 where it is true
abbrev pub bit : Bool → ℕ
bit b = cond b 1 0

-- whether a predicate's value is true
abbrev pub is_set : ℕ → Bool
is_set n = not (nat_eq n 0)

-- the value at the block's entry
abbrev pub entry_value : State → Cell → ℕ
entry_value s (At (General n)) = slice_index s.general n
entry_value s (At (Predicate n)) = bit (slice_index_or s.predicates n false)
entry_value s (At (Target n)) = slice_index s.targets n
entry_value s (At Memory) = 0
entry_value s (Byte a) = slice_index s.memory a

-- of two writes the one that lands last, and of two that land together the first one here, which is listed later
abbrev pub later : Write → Option Write → Option Write
later w None = Some w
later w (Some v) = Some (if nat_lt w.lands v.lands then v else w)

-- the write to a cell that lands last. A list of writes has the latest listed first
abbrev pub last_write : Cell → List Write → Option Write
last_write x [] = None
last_write x (w ∷ ws) = if same_cell x w.cell then later w (last_write x ws) else last_write x ws

-- the value of a write, or the old one
abbrev pub written_or : ℕ → Option Write → ℕ
written_or old None = old
written_or old (Some w) = w.value

-- the value of a cell when all these writes have landed: that of the last write to it, and else that at the block's entry
abbrev pub value_after : State → List Write → Cell → ℕ
value_after s ws (At (General zero)) = 0
value_after s ws (At (Predicate zero)) = 1
value_after s ws x = written_or (entry_value s x) (last_write x ws)

-- the writes that have landed by a cycle
abbrev pub landed : ℕ → List Write → List Write
landed t ws = filter (λ w. nat_le w.lands t) ws

-- the value of a cell at a cycle, looking back through the writes
abbrev pub value_at : State → List Write → ℕ → Cell → ℕ
value_at s ws t x = value_after s (landed t ws) x

-- the bytes of memory when all these writes have landed
abbrev pub memory_after : State → List Write → List ℕ
memory_after s ws = map (λ a. value_after s ws (Byte a)) (range_with_len 0 (length s.memory))

-- the writes that land after a cycle
abbrev pub pending : ℕ → List Write → List Write
pending t ws = filter (λ w. nat_lt t w.lands) ws

-- a value may be looked up from the value at an earlier cycle and the writes that were pending then
abbrev pub LooksBackFromEarlier : Type 0
LooksBackFromEarlier =
    (old : ℕ) (x : Cell) (ws : List Write) (s t : ℕ) → s ≤ t →
    written_or old (last_write x (landed t ws)) ≡ written_or (written_or old (last_write x (landed s ws))) (last_write x (landed t (pending s ws)))
