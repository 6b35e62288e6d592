-- Ranges of numbers.
use Rattle.std.specs.Prelude.{ℕ, ℤ, pos, neg_ℤ, int_le, Bool, ◌&&◌}

-- from low to high
abbrev pub is_within : (low high : ℤ) → ℤ → Bool
is_within low high z = int_le low z && int_le z high

-- a number that isn't below 0, from low to high
abbrev pub is_number : (low high : ℕ) → ℤ → Bool
is_number low high z = is_within (pos low) (pos high) z

-- a number from as much below 0 as low to high
abbrev pub is_signed : (low high : ℕ) → ℤ → Bool
is_signed low high z = is_within (neg_ℤ (pos low)) (pos high) z

-- eight bits, with a sign or without
abbrev pub is_byte : ℤ → Bool
is_byte z = is_signed 128 255 z

-- thirty-two bits, with a sign or without
abbrev pub is_word : ℤ → Bool
is_word z = is_signed 2147483648 4294967295 z

-- sixteen bits, with a sign
abbrev pub is_half : ℤ → Bool
is_half z = is_signed 32768 32767 z
