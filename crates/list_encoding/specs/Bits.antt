-- The bits of a number.
use Rattle.std.specs.Prelude.{ℕ, ◌/◌, ◌%◌, ◌^◌}

-- so many bits of a number, from the bit `low` on
abbrev pub bits : (low count n : ℕ) → ℕ
bits low count n = n / 2 ^ low % 2 ^ count
