-- The opcode of each operation, a number of seven bits.
use Rattle.std.specs.Prelude.{ℕ, ◌+◌}
use Rattle.operation.specs.declared.AluKind.{AluKind}
use Rattle.operation.specs.declared.AluKind.TheVariants.{Add, Sub, And, Or, Xor, Shl, Shr, Sar, Min, Max}
use Rattle.operation.specs.declared.Test.{Test}
use Rattle.operation.specs.declared.Test.TheVariants.{Ceq, Cne, Clt, Cle, Cltu, Cleu}
use Rattle.operation.specs.declared.Size.{Size}
use Rattle.operation.specs.declared.Size.TheVariants.{Word, Half, HalfU, Byte, ByteU}
use Rattle.list_encoding.specs.declared.opcodes.Mnemonic.{Mnemonic}
use Rattle.list_encoding.specs.declared.opcodes.Mnemonic.TheVariants as mnemonic

-- the place of an arithmetic in its run of opcodes
abbrev pub alu_number : AluKind → ℕ
alu_number Add = 0
alu_number Sub = 1
alu_number And = 2
alu_number Or = 3
alu_number Xor = 4
alu_number Shl = 5
alu_number Shr = 6
alu_number Sar = 7
alu_number Min = 8
alu_number Max = 9

-- the place of a test in its run of opcodes
abbrev pub test_number : Test → ℕ
test_number Ceq = 0
test_number Cne = 1
test_number Clt = 2
test_number Cle = 3
test_number Cltu = 4
test_number Cleu = 5

-- the opcode of a load
abbrev pub load_opcode : Size → ℕ
load_opcode Word = 48
load_opcode Half = 49
load_opcode HalfU = 50
load_opcode Byte = 51
load_opcode ByteU = 52

-- the opcode of a store; for a size that no store has 128, which is no opcode
abbrev pub store_opcode : Size → ℕ
store_opcode Word = 53
store_opcode Half = 54
store_opcode Byte = 55
store_opcode HalfU = 128
store_opcode ByteU = 128

-- the opcode of each operation
abbrev pub opcode_of : Mnemonic → ℕ
opcode_of (mnemonic.Alu kind) = 1 + alu_number kind
opcode_of (mnemonic.AluImm kind) = 17 + alu_number kind
opcode_of mnemonic.Pbr = 33
opcode_of mnemonic.Mvb = 34
opcode_of mnemonic.Mvr = 35
opcode_of mnemonic.Mul = 40
opcode_of mnemonic.Div = 41
opcode_of mnemonic.Rem = 42
opcode_of (mnemonic.Load size) = load_opcode size
opcode_of (mnemonic.Store size) = store_opcode size
opcode_of mnemonic.Inb = 56
opcode_of mnemonic.Outb = 57
opcode_of (mnemonic.Cmp test) = 64 + test_number test
opcode_of (mnemonic.CmpImm test) = 72 + test_number test
opcode_of mnemonic.Bru = 80
opcode_of mnemonic.Brct = 81
opcode_of mnemonic.Brcf = 82
opcode_of mnemonic.Brl = 83
opcode_of mnemonic.Halt = 84
