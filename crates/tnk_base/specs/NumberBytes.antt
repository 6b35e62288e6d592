-- Bytes that were read as a number are written again.
use Rattle.std.specs.Prelude.{ℕ, ◌≡◌, ◌<◌, ◌≤◌, List, length, take, All}
use Rattle.byteorder.specs.Endian.{big_number, big_bytes}

-- the number in the first n bytes, written in n bytes, is those bytes; numbers are big-endian
abbrev pub WrittenAgain : Type 0
WrittenAgain = (n : ℕ) (bytes : List ℕ) → n ≤ length bytes → All (λ b. b < 256) bytes → big_bytes n (big_number n bytes) ≡ take n bytes
