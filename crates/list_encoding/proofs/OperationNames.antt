-- The names of operations, both ways.
use Rattle.std.proofs.Common.{◌≡◌, ℕ, Bool, true, false, cond, List, [], ◌∷◌, Some, None, refl, sym, ap, ◌∙◌}
use Rattle.std.specs.Prelude.{nat_le, nat_eq, bytes_eq, find, Option}
use Rattle.std.specs.List.{list_all}
use Rattle.std.proofs.lemmas.Bool.{and_parts}
use Rattle.std.proofs.lemmas.Slice.Eq.{bytes_eq-Decides}
use Rattle.operation.specs.declared.AluKind.{AluKind}
use Rattle.operation.specs.declared.AluKind.TheVariants.{Add, Sub, And, Or, Xor, Shl, Shr, Sar, Min, Max}
use Rattle.operation.specs.declared.Test.{Test}
use Rattle.operation.specs.declared.Test.TheVariants.{Ceq, Cne, Clt, Cle, Cltu, Cleu}
use Rattle.operation.specs.declared.Size.{Size}
use Rattle.operation.specs.declared.Size.TheVariants.{Word, Half, HalfU, Byte, ByteU}
use Rattle.list_encoding.specs.declared.opcodes.Mnemonic.{Mnemonic}
use Rattle.list_encoding.specs.declared.opcodes.Mnemonic.TheVariants.{Alu, AluImm, Pbr, Mvb, Mvr, Mul, Div, Rem, Load, Store, Inb, Outb, Cmp, CmpImm, Bru, Brct, Brcf, Brl, Halt}
use Rattle.list_encoding.specs.Opcodes.{opcode_of}
use Rattle.list_encoding.specs.Reading.{mnemonics}
use Rattle.list_encoding.specs.Names.{name_of, mnemonic_named}
use Rattle.list_encoding.specs.Lettered.{lettered, named_by_letter}

-- ---- a name is found

alu_named : (k : AluKind) → mnemonic_named (name_of (Alu k)) ≡ Some (Alu k)
alu_named Add = refl
alu_named Sub = refl
alu_named And = refl
alu_named Or = refl
alu_named Xor = refl
alu_named Shl = refl
alu_named Shr = refl
alu_named Sar = refl
alu_named Min = refl
alu_named Max = refl

alu_imm_named : (k : AluKind) → mnemonic_named (name_of (AluImm k)) ≡ Some (AluImm k)
alu_imm_named Add = refl
alu_imm_named Sub = refl
alu_imm_named And = refl
alu_imm_named Or = refl
alu_imm_named Xor = refl
alu_imm_named Shl = refl
alu_imm_named Shr = refl
alu_imm_named Sar = refl
alu_imm_named Min = refl
alu_imm_named Max = refl

load_named : (size : Size) → mnemonic_named (name_of (Load size)) ≡ Some (Load size)
load_named Word = refl
load_named Half = refl
load_named HalfU = refl
load_named Byte = refl
load_named ByteU = refl

store_named : (size : Size) → nat_le (opcode_of (Store size)) 127 ≡ true → mnemonic_named (name_of (Store size)) ≡ Some (Store size)
store_named Word h = refl
store_named Half h = refl
store_named Byte h = refl
store_named HalfU h = absurd (let k : ⊥ = cc in k)
store_named ByteU h = absurd (let k : ⊥ = cc in k)

cmp_named : (test : Test) → mnemonic_named (name_of (Cmp test)) ≡ Some (Cmp test)
cmp_named Ceq = refl
cmp_named Cne = refl
cmp_named Clt = refl
cmp_named Cle = refl
cmp_named Cltu = refl
cmp_named Cleu = refl

cmp_imm_named : (test : Test) → mnemonic_named (name_of (CmpImm test)) ≡ Some (CmpImm test)
cmp_imm_named Ceq = refl
cmp_imm_named Cne = refl
cmp_imm_named Clt = refl
cmp_imm_named Cle = refl
cmp_imm_named Cltu = refl
cmp_imm_named Cleu = refl

-- each operation that has an opcode is found by its name
pub by_name : (m : Mnemonic) → nat_le (opcode_of m) 127 ≡ true → mnemonic_named (name_of m) ≡ Some m
by_name (Alu k) h = alu_named k
by_name (AluImm k) h = alu_imm_named k
by_name Pbr h = refl
by_name Mvb h = refl
by_name Mvr h = refl
by_name Mul h = refl
by_name Div h = refl
by_name Rem h = refl
by_name (Load size) h = load_named size
by_name (Store size) h = store_named size h
by_name Inb h = refl
by_name Outb h = refl
by_name (Cmp test) h = cmp_named test
by_name (CmpImm test) h = cmp_imm_named test
by_name Bru h = refl
by_name Brct h = refl
by_name Brcf h = refl
by_name Brl h = refl
by_name Halt h = refl

-- ---- what is found has the name

some_same : {X : Type 0} (x y : X) → Some x ≡ Some y → x ≡ y
some_same x y h = cc

-- what is found passes the search's test, and any test that all pass
pub found_passes : {X : Type 0} (p q : X → Bool) (xs : List X) (x : X) → list_all q xs ≡ true → find p xs ≡ Some x → (p x ≡ true) × (q x ≡ true)
found_passes p q [] x all h = absurd (let k : ⊥ = cc in k)
found_passes p q (y ∷ ys) x all h = go (p y) refl (found_passes p q ys x (and_parts (q y) (list_all q ys) all).1) h
  where
    go : (b : Bool) → p y ≡ b → (find p ys ≡ Some x → (p x ≡ true) × (q x ≡ true)) → cond b (Some y) (find p ys) ≡ Some x → (p x ≡ true) × (q x ≡ true)
    go true e later g = let same = some_same y x g in (ap p (sym same) ∙ e, ap q (sym same) ∙ (and_parts (q y) (list_all q ys) all).0)
    go false e later g = later g

all_have_opcodes : list_all (λ m. nat_le (opcode_of m) 127) mnemonics ≡ true
all_have_opcodes = refl

-- an operation with the name, which has an opcode
pub record Named (word : List ℕ) (m : Mnemonic) : Type 0 where
  pub name : name_of m ≡ word
  pub opcode : nat_le (opcode_of m) 127 ≡ true

pub named : (word : List ℕ) (m : Mnemonic) → mnemonic_named word ≡ Some m → Named word m
named word m h =
    let p = found_passes (λ k. bytes_eq (name_of k) word) (λ k. nat_le (opcode_of k) 127) mnemonics m all_have_opcodes h in
    record { name = (bytes_eq-Decides (name_of m) word).0 p.0; opcode = p.1 }

-- ---- a name is found by its letter

alu_lettered : (k : AluKind) → named_by_letter (name_of (Alu k)) ≡ Some (Alu k)
alu_lettered Add = refl
alu_lettered Sub = refl
alu_lettered And = refl
alu_lettered Or = refl
alu_lettered Xor = refl
alu_lettered Shl = refl
alu_lettered Shr = refl
alu_lettered Sar = refl
alu_lettered Min = refl
alu_lettered Max = refl

alu_imm_lettered : (k : AluKind) → named_by_letter (name_of (AluImm k)) ≡ Some (AluImm k)
alu_imm_lettered Add = refl
alu_imm_lettered Sub = refl
alu_imm_lettered And = refl
alu_imm_lettered Or = refl
alu_imm_lettered Xor = refl
alu_imm_lettered Shl = refl
alu_imm_lettered Shr = refl
alu_imm_lettered Sar = refl
alu_imm_lettered Min = refl
alu_imm_lettered Max = refl

load_lettered : (size : Size) → named_by_letter (name_of (Load size)) ≡ Some (Load size)
load_lettered Word = refl
load_lettered Half = refl
load_lettered HalfU = refl
load_lettered Byte = refl
load_lettered ByteU = refl

store_lettered : (size : Size) → nat_le (opcode_of (Store size)) 127 ≡ true → named_by_letter (name_of (Store size)) ≡ Some (Store size)
store_lettered Word h = refl
store_lettered Half h = refl
store_lettered Byte h = refl
store_lettered HalfU h = absurd (let k : ⊥ = cc in k)
store_lettered ByteU h = absurd (let k : ⊥ = cc in k)

cmp_lettered : (test : Test) → named_by_letter (name_of (Cmp test)) ≡ Some (Cmp test)
cmp_lettered Ceq = refl
cmp_lettered Cne = refl
cmp_lettered Clt = refl
cmp_lettered Cle = refl
cmp_lettered Cltu = refl
cmp_lettered Cleu = refl

cmp_imm_lettered : (test : Test) → named_by_letter (name_of (CmpImm test)) ≡ Some (CmpImm test)
cmp_imm_lettered Ceq = refl
cmp_imm_lettered Cne = refl
cmp_imm_lettered Clt = refl
cmp_imm_lettered Cle = refl
cmp_imm_lettered Cltu = refl
cmp_imm_lettered Cleu = refl

-- each operation that has an opcode is found by the first letter of its name
by_first_letter : (m : Mnemonic) → nat_le (opcode_of m) 127 ≡ true → named_by_letter (name_of m) ≡ Some m
by_first_letter (Alu k) h = alu_lettered k
by_first_letter (AluImm k) h = alu_imm_lettered k
by_first_letter Pbr h = refl
by_first_letter Mvb h = refl
by_first_letter Mvr h = refl
by_first_letter Mul h = refl
by_first_letter Div h = refl
by_first_letter Rem h = refl
by_first_letter (Load size) h = load_lettered size
by_first_letter (Store size) h = store_lettered size h
by_first_letter Inb h = refl
by_first_letter Outb h = refl
by_first_letter (Cmp test) h = cmp_lettered test
by_first_letter (CmpImm test) h = cmp_imm_lettered test
by_first_letter Bru h = refl
by_first_letter Brct h = refl
by_first_letter Brcf h = refl
by_first_letter Brl h = refl
by_first_letter Halt h = refl

-- ---- the search by the letter is the search

abbrev coded : List Mnemonic → Bool
coded ms = list_all (λ m. nat_le (opcode_of m) 127) ms

either : (b : Bool) (ms ns : List Mnemonic) → coded ms ≡ true → coded ns ≡ true → coded (cond b ms ns) ≡ true
either true ms ns h k = h
either false ms ns h k = k

-- all operations of a letter have opcodes
all_coded : (letter : ℕ) → coded (lettered letter) ≡ true
all_coded letter = either (nat_eq letter 97) _ _ refl (either (nat_eq letter 98) _ _ refl (either (nat_eq letter 99) _ _ refl (either (nat_eq letter 100) _ _ refl (either (nat_eq letter 104) _ _ refl (either (nat_eq letter 105) _ _ refl (either (nat_eq letter 108) _ _ refl (either (nat_eq letter 109) _ _ refl (either (nat_eq letter 111) _ _ refl (either (nat_eq letter 112) _ _ refl (either (nat_eq letter 114) _ _ refl (either (nat_eq letter 115) _ _ refl (either (nat_eq letter 120) _ _ refl refl))))))))))))

lettered_named : (word : List ℕ) (m : Mnemonic) → named_by_letter word ≡ Some m → Named word m
lettered_named [] m h = absurd (let k : ⊥ = cc in k)
lettered_named (letter ∷ rest) m h =
    let p = found_passes (λ k. bytes_eq (name_of k) (letter ∷ rest)) (λ k. nat_le (opcode_of k) 127) (lettered letter) m (all_coded letter) h in
    record { name = (bytes_eq-Decides (name_of m) (letter ∷ rest)).0 p.0; opcode = p.1 }

pub by_letter : (word : List ℕ) → named_by_letter word ≡ mnemonic_named word
by_letter word = go (mnemonic_named word) (named_by_letter word) refl refl
  where
    go : (a b : Option Mnemonic) → mnemonic_named word ≡ a → named_by_letter word ≡ b → b ≡ a
    go (Some m) b e f = let n = named word m e in sym f ∙ ap named_by_letter (sym n.name) ∙ by_first_letter m n.opcode
    go None None e f = refl
    go None (Some m) e f =
        let n = lettered_named word m f in
        sym (by_name m n.opcode) ∙ ap mnemonic_named n.name ∙ e
