-- The name of each operation.
use Rattle.std.specs.Prelude.{ℕ, List, [], ◌++◌, codes, bytes_eq, find, Option}
use Rattle.operation.specs.declared.AluKind.{AluKind}
use Rattle.operation.specs.declared.AluKind.TheVariants.{Add, Sub, And, Or, Xor, Shl, Shr, Sar, Min, Max}
use Rattle.operation.specs.declared.Test.{Test}
use Rattle.operation.specs.declared.Test.TheVariants.{Ceq, Cne, Clt, Cle, Cltu, Cleu}
use Rattle.operation.specs.declared.Size.{Size}
use Rattle.operation.specs.declared.Size.TheVariants.{Word, Half, HalfU, Byte, ByteU}
use Rattle.list_encoding.specs.declared.opcodes.Mnemonic.{Mnemonic}
use Rattle.list_encoding.specs.declared.opcodes.Mnemonic.TheVariants as mnemonic
use Rattle.list_encoding.specs.Reading.{mnemonics}

-- an arithmetic on two registers
abbrev pub alu_name : AluKind → List ℕ
alu_name Add = codes "add"
alu_name Sub = codes "sub"
alu_name And = codes "and"
alu_name Or = codes "or"
alu_name Xor = codes "xor"
alu_name Shl = codes "shl"
alu_name Shr = codes "shr"
alu_name Sar = codes "sar"
alu_name Min = codes "min"
alu_name Max = codes "max"

-- a compare of two registers
abbrev pub test_name : Test → List ℕ
test_name Ceq = codes "ceq"
test_name Cne = codes "cne"
test_name Clt = codes "clt"
test_name Cle = codes "cle"
test_name Cltu = codes "cltu"
test_name Cleu = codes "cleu"

-- a load
abbrev pub load_name : Size → List ℕ
load_name Word = codes "ldw"
load_name Half = codes "ldh"
load_name HalfU = codes "ldhu"
load_name Byte = codes "ldb"
load_name ByteU = codes "ldbu"

-- a store; a size that no store has has no name
abbrev pub store_name : Size → List ℕ
store_name Word = codes "stw"
store_name Half = codes "sth"
store_name Byte = codes "stb"
store_name HalfU = []
store_name ByteU = []

-- the name of each operation; that with an immediate operand has an `i` behind it
abbrev pub name_of : Mnemonic → List ℕ
name_of (mnemonic.Alu kind) = alu_name kind
name_of (mnemonic.AluImm kind) = alu_name kind ++ codes "i"
name_of mnemonic.Pbr = codes "pbr"
name_of mnemonic.Mvb = codes "mvb"
name_of mnemonic.Mvr = codes "mvr"
name_of mnemonic.Mul = codes "mul"
name_of mnemonic.Div = codes "div"
name_of mnemonic.Rem = codes "rem"
name_of (mnemonic.Load size) = load_name size
name_of (mnemonic.Store size) = store_name size
name_of mnemonic.Inb = codes "inb"
name_of mnemonic.Outb = codes "outb"
name_of (mnemonic.Cmp test) = test_name test
name_of (mnemonic.CmpImm test) = test_name test ++ codes "i"
name_of mnemonic.Bru = codes "bru"
name_of mnemonic.Brct = codes "brct"
name_of mnemonic.Brcf = codes "brcf"
name_of mnemonic.Brl = codes "brl"
name_of mnemonic.Halt = codes "halt"

-- the operation of a name, if it is one's
abbrev pub mnemonic_named : List ℕ → Option Mnemonic
mnemonic_named word = find (λ m. bytes_eq (name_of m) word) mnemonics
