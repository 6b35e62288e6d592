-- Arithmetic on 32 bits. A number below 2 ^ 32 stands for its bits.
use Rattle.std.specs.Prelude.{ℕ, ◌+◌, ◌-◌, ◌*◌, ◌/◌, ◌%◌, ◌^◌, Bool, not, nat_eq, nat_lt, nat_le, ℤ, bit_and, bit_or, bit_xor, int_lt, int_le, int_rem}
use Rattle.std.specs.Int.{w8, w16, w32, cast_signed, cast_unsigned, int_min, int_max, int_shr, int_wrapping_div}
use Rattle.operation.specs.declared.AluKind.{AluKind}
use Rattle.operation.specs.declared.AluKind.TheVariants.{Add, Sub, And, Or, Xor, Shl, Shr, Sar, Min, Max}
use Rattle.operation.specs.declared.Test.{Test}
use Rattle.operation.specs.declared.Test.TheVariants.{Ceq, Cne, Clt, Cle, Cltu, Cleu}
use Rattle.operation.specs.declared.Size.{Size}
use Rattle.operation.specs.declared.Size.TheVariants.{Word, Half, HalfU, Byte, ByteU}

-- the low 32 bits
abbrev pub wrap : ℕ → ℕ
wrap n = n % 2 ^ 32

-- the signed number that the bits stand for
abbrev pub signed : ℕ → ℤ
signed n = cast_signed w32 n

-- the bits of a signed number
abbrev pub unsigned : ℤ → ℕ
unsigned z = cast_unsigned w32 z

-- what a register operation makes of its operands; shift counts are the low five bits
abbrev pub alu : AluKind → ℕ → ℕ → ℕ
alu Add a b = wrap (a + b)
alu Sub a b = wrap (a + (2 ^ 32 - b))
alu And a b = bit_and a b
alu Or a b = bit_or a b
alu Xor a b = bit_xor a b
alu Shl a b = wrap (a * 2 ^ (b % 32))
alu Shr a b = a / 2 ^ (b % 32)
alu Sar a b = unsigned (int_shr (signed a) (b % 32))
alu Min a b = unsigned (int_min (signed a) (signed b))
alu Max a b = unsigned (int_max (signed a) (signed b))

-- the signed quotient toward zero; MIN / -1 wraps to MIN
abbrev pub quotient : ℕ → ℕ → ℕ
quotient a b = unsigned (int_wrapping_div w32 (signed a) (signed b))

-- the remainder of that division, with the dividend's sign
abbrev pub remainder : ℕ → ℕ → ℕ
remainder a b = unsigned (int_rem (signed a) (signed b))

-- whether a test holds of two operands; clt and cle compare signed numbers
abbrev pub compare : Test → ℕ → ℕ → Bool
compare Ceq a b = nat_eq a b
compare Cne a b = not (nat_eq a b)
compare Clt a b = int_lt (signed a) (signed b)
compare Cle a b = int_le (signed a) (signed b)
compare Cltu a b = nat_lt a b
compare Cleu a b = nat_le a b

-- how many bytes a load or a store moves
abbrev pub bytes_of : Size → ℕ
bytes_of Word = 4
bytes_of Half = 2
bytes_of HalfU = 2
bytes_of Byte = 1
bytes_of ByteU = 1

-- what a load makes of the number in memory: Half and Byte extend its sign
abbrev pub extended : Size → ℕ → ℕ
extended Word n = n
extended Half n = unsigned (cast_signed w16 n)
extended HalfU n = n
extended Byte n = unsigned (cast_signed w8 n)
extended ByteU n = n
