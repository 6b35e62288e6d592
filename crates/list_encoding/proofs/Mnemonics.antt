-- An opcode names one operation.
use Rattle.std.proofs.Common.{◌≡◌, ℕ, ◌<◌, List, [], ◌∷◌, Bool, true, false, cond, Some, refl, sym, ap, ◌∙◌, arith}
use Rattle.std.specs.Prelude.{find, nat_eq}
use Rattle.list_encoding.proofs.Choices.{equal}
use Rattle.operation.specs.declared.AluKind.{AluKind}
use Rattle.operation.specs.declared.AluKind.TheVariants.{Add, Sub, And, Or, Xor, Shl, Shr, Sar, Min, Max}
use Rattle.operation.specs.declared.Test.{Test}
use Rattle.operation.specs.declared.Test.TheVariants.{Ceq, Cne, Clt, Cle, Cltu, Cleu}
use Rattle.operation.specs.declared.Size.{Size}
use Rattle.operation.specs.declared.Size.TheVariants.{Word, Half, HalfU, Byte, ByteU}
use Rattle.list_encoding.specs.declared.opcodes.Mnemonic.{Mnemonic}
use Rattle.list_encoding.specs.declared.opcodes.Mnemonic.TheVariants.{Alu, AluImm, Pbr, Mvb, Mvr, Mul, Div, Rem, Load, Store, Inb, Outb, Cmp, CmpImm, Bru, Brct, Brcf, Brl, Halt}
use Rattle.list_encoding.specs.Opcodes.{opcode_of}
use Rattle.list_encoding.specs.Reading.{mnemonic_at, mnemonics}

named_alu : (k : AluKind) → mnemonic_at (opcode_of (Alu k)) ≡ Some (Alu k)
unfolding mnemonic_at
named_alu Add = refl
named_alu Sub = refl
named_alu And = refl
named_alu Or = refl
named_alu Xor = refl
named_alu Shl = refl
named_alu Shr = refl
named_alu Sar = refl
named_alu Min = refl
named_alu Max = refl

named_alu_imm : (k : AluKind) → mnemonic_at (opcode_of (AluImm k)) ≡ Some (AluImm k)
unfolding mnemonic_at
named_alu_imm Add = refl
named_alu_imm Sub = refl
named_alu_imm And = refl
named_alu_imm Or = refl
named_alu_imm Xor = refl
named_alu_imm Shl = refl
named_alu_imm Shr = refl
named_alu_imm Sar = refl
named_alu_imm Min = refl
named_alu_imm Max = refl

named_load : (size : Size) → mnemonic_at (opcode_of (Load size)) ≡ Some (Load size)
unfolding mnemonic_at
named_load Word = refl
named_load Half = refl
named_load HalfU = refl
named_load Byte = refl
named_load ByteU = refl

named_store : (size : Size) → opcode_of (Store size) < 128 → mnemonic_at (opcode_of (Store size)) ≡ Some (Store size)
unfolding mnemonic_at
named_store Word h = refl
named_store Half h = refl
named_store Byte h = refl
named_store HalfU h = absurd (let k : ⊥ = omega arith in k)
named_store ByteU h = absurd (let k : ⊥ = omega arith in k)

named_cmp : (test : Test) → mnemonic_at (opcode_of (Cmp test)) ≡ Some (Cmp test)
unfolding mnemonic_at
named_cmp Ceq = refl
named_cmp Cne = refl
named_cmp Clt = refl
named_cmp Cle = refl
named_cmp Cltu = refl
named_cmp Cleu = refl

named_cmp_imm : (test : Test) → mnemonic_at (opcode_of (CmpImm test)) ≡ Some (CmpImm test)
unfolding mnemonic_at
named_cmp_imm Ceq = refl
named_cmp_imm Cne = refl
named_cmp_imm Clt = refl
named_cmp_imm Cle = refl
named_cmp_imm Cltu = refl
named_cmp_imm Cleu = refl

pub by_opcode : (m : Mnemonic) → opcode_of m < 128 → mnemonic_at (opcode_of m) ≡ Some m
unfolding mnemonic_at
by_opcode (Alu k) h = named_alu k
by_opcode (AluImm k) h = named_alu_imm k
by_opcode Pbr h = refl
by_opcode Mvb h = refl
by_opcode Mvr h = refl
by_opcode Mul h = refl
by_opcode Div h = refl
by_opcode Rem h = refl
by_opcode (Load size) h = named_load size
by_opcode (Store size) h = named_store size h
by_opcode Inb h = refl
by_opcode Outb h = refl
by_opcode (Cmp test) h = named_cmp test
by_opcode (CmpImm test) h = named_cmp_imm test
by_opcode Bru h = refl
by_opcode Brct h = refl
by_opcode Brcf h = refl
by_opcode Brl h = refl
by_opcode Halt h = refl

some_same : {X : Type 0} (x y : X) → Some x ≡ Some y → x ≡ y
some_same x y h = cc

-- an opcode names one operation
pub same_mnemonic : (a b : Mnemonic) → opcode_of a < 128 → opcode_of a ≡ opcode_of b → a ≡ b
same_mnemonic a b few h =
    let also : opcode_of b < 128 = omega arith in
    some_same a b (sym (by_opcode a few) ∙ ap mnemonic_at h ∙ by_opcode b also)

-- what is found passes the test
passes : {X : Type 0} (p : X → Bool) (xs : List X) (x : X) → find p xs ≡ Some x → p x ≡ true
passes p [] x h = absurd (let k : ⊥ = cc in k)
passes p (y ∷ ys) x h = go (p y) refl (passes p ys x) h
  where
    go : (b : Bool) → p y ≡ b → (find p ys ≡ Some x → p x ≡ true) → cond b (Some y) (find p ys) ≡ Some x → p x ≡ true
    go true e later found = let same : y ≡ x = cc in ap p (sym same) ∙ e
    go false e later found = later found

-- the opcode of what an opcode names is that opcode
pub named_has_opcode : (opcode : ℕ) (m : Mnemonic) → mnemonic_at opcode ≡ Some m → opcode_of m ≡ opcode
unfolding mnemonic_at
named_has_opcode opcode m h = equal (opcode_of m) opcode (passes (λ n. nat_eq (opcode_of n) opcode) mnemonics m h)
