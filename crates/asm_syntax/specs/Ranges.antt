-- The ranges of the numbers of a statement.
use Rattle.std.specs.Prelude.{ℕ, ℤ, nat_abs, Bool, true, ◌&&◌, nat_eq, List, [], ◌∷◌, map, length, drop, slice_get, Option, Some, None, option_map, unwrap_or, if◌then◌else◌}
use Rattle.std.specs.List.{list_all, range_with_len}
use Rattle.machine_desc.specs.Description.{Description}
use Rattle.machine_desc.specs.Numbers.{description, ones, is_in_range}
use Rattle.list_encoding.specs.declared.shapes.Slot.{Slot}
use Rattle.list_encoding.specs.declared.shapes.Slot.TheVariants.{V, N}
use Rattle.list_encoding.specs.Shapes.{slots_of}
use Rattle.asm_syntax.specs.Operands.{Operand, Immediate}
use Rattle.asm_syntax.specs.Numbers.{is_number, is_byte, is_word, is_half}
use Rattle.asm_syntax.specs.Statements.{Statement, Desc, Pages, Bytes, Word32, Space, Block, Operation, Stop}

-- ---- descriptions

-- the number at a place, without its sign; 0 where there is none
abbrev pub number_at : List ℤ → ℕ → ℕ
number_at ns k = unwrap_or (option_map nat_abs (slice_get ns k)) 0

-- so many numbers from a place on
abbrev pub numbers_from : (first count : ℕ) → List ℤ → List ℕ
numbers_from first count ns = map (number_at ns) (range_with_len first count)

-- the busy times: the last nine of twenty-four numbers, and 1 where there are fifteen
abbrev pub busy_times_of : List ℤ → List ℕ
busy_times_of ns = if nat_eq (length ns) 15 then ones else numbers_from 15 9 ns

-- the description of fifteen or twenty-four numbers: width, unit counts, latencies and busy times
abbrev pub description_by : List ℤ → Description
description_by ns = description (number_at ns 0) (numbers_from 1 5 ns) (numbers_from 6 9 ns) (busy_times_of ns)

-- each is a byte, and in its range
abbrev pub is_description : List ℤ → Bool
is_description ns =
    list_all (is_number 0 255) ns && is_in_range (number_at ns 0) (numbers_from 1 5 ns) (numbers_from 6 9 ns) (busy_times_of ns)

-- ---- statements

-- an optional number
abbrev pub is_given : (low high : ℕ) → Option ℤ → Bool
is_given low high None = true
is_given low high (Some n) = is_number low high n

-- the number in a slot of 32 or 16 bits
abbrev pub is_in_slot : Slot → Operand → Bool
is_in_slot V (Immediate z) = is_word z
is_in_slot N (Immediate z) = is_half z
is_in_slot _ _ = true

-- the number in the first slot, if there is one
abbrev pub is_in_first : List Slot → Operand → Bool
is_in_first [] x = true
is_in_first (slot ∷ slots) x = is_in_slot slot x

-- the numbers among operands, one in each slot
abbrev pub are_in_slots : List Slot → List Operand → Bool
are_in_slots slots [] = true
are_in_slots slots (x ∷ xs) = is_in_first slots x && are_in_slots (drop 1 slots) xs

-- all numbers of a statement are in their ranges
abbrev pub is_ranged : Statement → Bool
is_ranged (Desc ns) = is_description ns
is_ranged (Pages n) = is_number 1 256 n
is_ranged (Bytes ns) = list_all is_byte ns
is_ranged (Word32 n) = is_word n
is_ranged (Space n) = is_number 0 1048576 n
is_ranged (Block name at) = is_given 0 131071 at
is_ranged (Operation p m xs) = are_in_slots (slots_of m) xs
is_ranged (Stop n) = is_given 0 31 n
is_ranged _ = true
