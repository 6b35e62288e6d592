-- Which operands each operation is written with.
use Rattle.std.specs.Prelude.{List, [], ◌∷◌}
use Rattle.list_encoding.specs.declared.opcodes.Mnemonic.{Mnemonic}
use Rattle.list_encoding.specs.declared.opcodes.Mnemonic.TheVariants as mnemonic
use Rattle.list_encoding.specs.declared.shapes.Slot.{Slot}
use Rattle.list_encoding.specs.declared.shapes.Slot.TheVariants.{R, P, B, V, D, N}

-- the operands of each operation, in order: R is a general register, P a predicate, B a branch target, V a number or the name
-- of an address, D a compare's destination, N a number of sixteen bits
abbrev pub slots_of : Mnemonic → List Slot
slots_of (mnemonic.Alu kind) = R ∷ (R ∷ (R ∷ []))
slots_of (mnemonic.AluImm kind) = R ∷ (R ∷ (V ∷ []))
slots_of mnemonic.Pbr = B ∷ (V ∷ [])
slots_of mnemonic.Mvb = B ∷ (R ∷ [])
slots_of mnemonic.Mvr = R ∷ (B ∷ [])
slots_of mnemonic.Mul = R ∷ (R ∷ (R ∷ []))
slots_of mnemonic.Div = R ∷ (R ∷ (R ∷ []))
slots_of mnemonic.Rem = R ∷ (R ∷ (R ∷ []))
slots_of (mnemonic.Load size) = R ∷ (R ∷ (V ∷ []))
slots_of (mnemonic.Store size) = R ∷ (R ∷ (V ∷ []))
slots_of mnemonic.Inb = R ∷ []
slots_of mnemonic.Outb = R ∷ []
slots_of (mnemonic.Cmp test) = D ∷ (D ∷ (R ∷ (R ∷ [])))
slots_of (mnemonic.CmpImm test) = D ∷ (D ∷ (R ∷ (N ∷ [])))
slots_of mnemonic.Bru = B ∷ []
slots_of mnemonic.Brct = B ∷ (P ∷ [])
slots_of mnemonic.Brcf = B ∷ (P ∷ [])
slots_of mnemonic.Brl = B ∷ (B ∷ [])
slots_of mnemonic.Halt = R ∷ []
