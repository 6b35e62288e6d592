-- For contracts within the crate. The delay wheel, as the definitions see it.
use Rattle.std.specs.Prelude.{ℕ, zero, suc, ◌+◌, ◌%◌, List, [], ◌∷◌, ◌++◌, ◌≤◌, All, map, slice_index_or, slice_set, vec_capacity}
use Rattle.timed_meaning.specs.declared.Cell.{Cell}
use Rattle.timed_meaning.specs.declared.Write.{Write}
use Rattle.timed_meaning.specs.Values.{State}
use Rattle.timed_meaning.specs.Block.{landing}
use Rattle.cycle_sim.specs.declared.registers.Landing.{Landing}
use Rattle.cycle_sim.specs.declared.wheel.Wheel.{Wheel}
use Rattle.cycle_sim.specs.Registers.{values_of, all_set}

-- the slots as lists
abbrev pub slots_of : Wheel → List (List Landing)
slots_of w = map (λ slot. slot.items) w.slots.items

-- each slot has the room for the writes of a block
abbrev pub HasRoom : Wheel → Type 0
HasRoom w = All (λ slot. 2048 ≤ vec_capacity slot) w.slots.items

-- the values that a slot's landings give, the latest first
abbrev pub values_in : List Landing → List (Cell × ℕ)
values_in [] = []
values_in (x ∷ xs) = values_in xs ++ values_of x

-- the slot of a cycle
abbrev pub slot_at : List (List Landing) → ℕ → List Landing
slot_at slots cycle = slice_index_or slots (cycle % 32) []

-- the writes that land in the n cycles behind one, the last to land first
abbrev pub flight_within : List (List Landing) → ℕ → ℕ → List Write
flight_within slots t zero = []
flight_within slots t (suc n) = landing (t + suc n) (values_in (slot_at slots (t + suc n))) ++ flight_within slots t n

-- the writes in flight at a cycle
unfoldable pub flight_of : List (List Landing) → ℕ → List Write
flight_of slots t = flight_within slots t 32

-- the state when the slots of the n cycles behind one have been emptied into it, in turn
abbrev pub emptied_into : List (List Landing) → ℕ → ℕ → State → State
emptied_into slots t zero s = s
emptied_into slots t (suc n) s = all_set (values_in (slot_at slots (t + suc n))) (emptied_into slots t n s)

-- the slots then
abbrev pub emptied : List (List Landing) → ℕ → ℕ → List (List Landing)
emptied slots t zero = slots
emptied slots t (suc n) = slice_set (emptied slots t n) ((t + suc n) % 32) []
