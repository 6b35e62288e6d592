-- The text of a look at a context.
use Rattle.std.specs.Prelude.{ℕ, List, [], ◌++◌, codes, decimal, nat_eq, slice_index, if◌then◌else◌}
use Rattle.std.specs.List.{flat_map, range_with_len}

-- a register by its number and its value; nothing for 0
abbrev pub register_text : (number value : ℕ) → List ℕ
register_text number value = if nat_eq value 0 then [] else codes " r" ++ decimal number ++ codes " " ++ decimal value

-- the registers whose values aren't 0, by their numbers
abbrev pub registers_text : List ℕ → List ℕ
registers_text values = flat_map (λ r. register_text r (slice_index values r)) (range_with_len 0 32)

-- where a context stands: the entry of its block and the clock there, and how many bytes it has put out so far
unfoldable pub standing_text : (number entry clock size : ℕ) → List ℕ
standing_text number entry clock size =
    codes "look " ++ decimal number ++ codes " block " ++ decimal entry ++ codes " clock " ++ decimal clock ++ codes " output " ++ decimal size

-- the line of a context that has not ended, with its registers
abbrev pub look_line : (number entry clock size : ℕ) → List ℕ → List ℕ
look_line number entry clock size values = standing_text number entry clock size ++ (registers_text values ++ codes "\n")

-- that of one that has
unfoldable pub ended_line : (number : ℕ) → List ℕ
ended_line number = codes "look " ++ decimal number ++ codes " ended\n"
