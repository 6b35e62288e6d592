-- Lines and statements: what a line says is read in it.
use Rattle.std.proofs.Common.{◌≡◌, ℕ, ◌≤◌, true, ◌&&◌, List, [], ◌∷◌, Some, None, refl, sym, ap, ◌∙◌, length, lit≤, arith}
use Rattle.std.specs.Prelude.{nat_le, Option, option_map}
use Rattle.std.proofs.lemmas.Bool.{and_parts}
use Rattle.operation.specs.declared.AluKind.{AluKind}
use Rattle.operation.specs.declared.AluKind.TheVariants.{Add, Sub, And, Or, Xor, Shl, Shr, Sar, Min, Max}
use Rattle.operation.specs.declared.Test.{Test}
use Rattle.operation.specs.declared.Test.TheVariants.{Ceq, Cne, Clt, Cle, Cltu, Cleu}
use Rattle.operation.specs.declared.Size.{Size}
use Rattle.operation.specs.declared.Size.TheVariants as size
use Rattle.list_encoding.specs.declared.opcodes.Mnemonic.{Mnemonic}
use Rattle.list_encoding.specs.declared.opcodes.Mnemonic.TheVariants.{Alu, AluImm, Pbr, Mvb, Mvr, Mul, Div, Rem, Load, Store, Inb, Outb, Cmp, CmpImm, Bru, Brct, Brcf, Brl, Halt}
use Rattle.list_encoding.specs.declared.shapes.Slot.{Slot}
use Rattle.list_encoding.specs.Opcodes.{opcode_of}
use Rattle.list_encoding.specs.Names.{name_of, mnemonic_named}
use Rattle.list_encoding.specs.Shapes.{slots_of}
use Rattle.list_encoding.proofs.OperationNames.{by_name}
use Rattle.asm_syntax.specs.Lexemes.{Lexeme, Word}
use Rattle.asm_syntax.specs.Spellings.{predicate}
use Rattle.asm_syntax.specs.Operands.{Operand, Predicate, operands_lexemes}
use Rattle.asm_syntax.specs.Fitting.{all_fit}
use Rattle.asm_syntax.specs.Reading.{predicate_of, operands_in}
use Rattle.asm_syntax.specs.Beginnings.{directive_named, operation_begun, word_begun, guarded}
use Rattle.asm_syntax.specs.Statements.{Statement, Desc, Pages, Data, Bytes, Word32, Space, Block, Operation, Stop, End, line_of, is_guard, Says}
use Rattle.asm_syntax.specs.StatementReading.{statement_begun, statement_in}
use Rattle.asm_syntax.proofs.Words.{written_word_read}
use Rattle.asm_syntax.proofs.Lines.{filled}
use Rattle.asm_syntax.proofs.StatementLines.{line_read}

-- ---- no operation's name is a statement's word

alu_plain : (k : AluKind) → directive_named (name_of (Alu k)) ≡ None
alu_plain Add = refl
alu_plain Sub = refl
alu_plain And = refl
alu_plain Or = refl
alu_plain Xor = refl
alu_plain Shl = refl
alu_plain Shr = refl
alu_plain Sar = refl
alu_plain Min = refl
alu_plain Max = refl

alu_imm_plain : (k : AluKind) → directive_named (name_of (AluImm k)) ≡ None
alu_imm_plain Add = refl
alu_imm_plain Sub = refl
alu_imm_plain And = refl
alu_imm_plain Or = refl
alu_imm_plain Xor = refl
alu_imm_plain Shl = refl
alu_imm_plain Shr = refl
alu_imm_plain Sar = refl
alu_imm_plain Min = refl
alu_imm_plain Max = refl

cmp_plain : (k : Test) → directive_named (name_of (Cmp k)) ≡ None
cmp_plain Ceq = refl
cmp_plain Cne = refl
cmp_plain Clt = refl
cmp_plain Cle = refl
cmp_plain Cltu = refl
cmp_plain Cleu = refl

cmp_imm_plain : (k : Test) → directive_named (name_of (CmpImm k)) ≡ None
cmp_imm_plain Ceq = refl
cmp_imm_plain Cne = refl
cmp_imm_plain Clt = refl
cmp_imm_plain Cle = refl
cmp_imm_plain Cltu = refl
cmp_imm_plain Cleu = refl

load_plain : (k : Size) → directive_named (name_of (Load k)) ≡ None
load_plain size.Word = refl
load_plain size.Half = refl
load_plain size.HalfU = refl
load_plain size.Byte = refl
load_plain size.ByteU = refl

store_plain : (k : Size) → directive_named (name_of (Store k)) ≡ None
store_plain size.Word = refl
store_plain size.Half = refl
store_plain size.HalfU = refl
store_plain size.Byte = refl
store_plain size.ByteU = refl

plain : (m : Mnemonic) → directive_named (name_of m) ≡ None
plain (Alu k) = alu_plain k
plain (AluImm k) = alu_imm_plain k
plain Pbr = refl
plain Mvb = refl
plain Mvr = refl
plain Mul = refl
plain Div = refl
plain Rem = refl
plain (Load k) = load_plain k
plain (Store k) = store_plain k
plain Inb = refl
plain Outb = refl
plain (Cmp k) = cmp_plain k
plain (CmpImm k) = cmp_imm_plain k
plain Bru = refl
plain Brct = refl
plain Brcf = refl
plain Brl = refl
plain Halt = refl

-- ---- the operands of an operation

-- each operation has a slot at least
has_slot : (m : Mnemonic) → 1 ≤ length (slots_of m)
has_slot (Alu k) = lit≤ tt
has_slot (AluImm k) = lit≤ tt
has_slot Pbr = lit≤ tt
has_slot Mvb = lit≤ tt
has_slot Mvr = lit≤ tt
has_slot Mul = lit≤ tt
has_slot Div = lit≤ tt
has_slot Rem = lit≤ tt
has_slot (Load size) = lit≤ tt
has_slot (Store size) = lit≤ tt
has_slot Inb = lit≤ tt
has_slot Outb = lit≤ tt
has_slot (Cmp test) = lit≤ tt
has_slot (CmpImm test) = lit≤ tt
has_slot Bru = lit≤ tt
has_slot Brct = lit≤ tt
has_slot Brcf = lit≤ tt
has_slot Brl = lit≤ tt
has_slot Halt = lit≤ tt

filled_some : (slots : List Slot) (xs : List Operand) → 1 ≤ length slots → all_fit slots xs ≡ true → operands_in slots (operands_lexemes xs) ≡ Some xs
filled_some [] xs some h = absurd (omega arith)
filled_some (slot ∷ slots) xs some h = filled slot slots xs h

operands_of_slots : (m : Mnemonic) (xs : List Operand) → all_fit (slots_of m) xs ≡ true → operands_in (slots_of m) (operands_lexemes xs) ≡ Some xs
operands_of_slots m xs h = filled_some (slots_of m) xs (has_slot m) h

-- ---- an operation's line is read as it

begun_again : (p : Option ℕ) (m : Mnemonic) (xs : List Operand) → nat_le (opcode_of m) 127 ≡ true → all_fit (slots_of m) xs ≡ true →
    statement_begun (operation_begun p (mnemonic_named (name_of m)) (operands_lexemes xs)) ≡ Some (Operation p m xs)
begun_again p m xs coded fitting =
    ap (λ o. statement_begun (operation_begun p o (operands_lexemes xs))) (by_name m coded)
    ∙ ap (option_map (λ ys. Operation p m ys)) (operands_of_slots m xs fitting)

operation_read : (p : Option ℕ) (m : Mnemonic) (xs : List Operand) → is_guard p ≡ true → nat_le (opcode_of m) 127 ≡ true → all_fit (slots_of m) xs ≡ true →
    statement_in (line_of (Operation p m xs)) ≡ Some (Operation p m xs)
operation_read None m xs there coded fitting =
    ap (λ o. statement_begun (word_begun o (name_of m) (operands_lexemes xs))) (plain m) ∙ begun_again None m xs coded fitting
operation_read (Some n) m xs there coded fitting =
    ap (λ o. statement_begun (guarded o 41 (Word (name_of m) ∷ operands_lexemes xs))) (ap predicate_of (written_word_read (Predicate n) (predicate n) there refl))
    ∙ begun_again (Some n) m xs coded fitting

pub said_is_read : (line : List Lexeme) (st : Statement) → Says line st → statement_in line ≡ Some st
said_is_read line (Operation p m xs) s =
    let f = and_parts (is_guard p) (nat_le (opcode_of m) 127 && all_fit (slots_of m) xs) s.formed in
    let g = and_parts (nat_le (opcode_of m) 127) (all_fit (slots_of m) xs) f.1 in
    ap statement_in s.written ∙ operation_read p m xs f.0 g.0 g.1
said_is_read line (Desc ns) s = ap statement_in s.written ∙ line_read (Desc ns) s.formed refl
said_is_read line (Pages n) s = ap statement_in s.written ∙ line_read (Pages n) s.formed refl
said_is_read line (Data name) s = ap statement_in s.written ∙ line_read (Data name) s.formed refl
said_is_read line (Bytes ns) s = ap statement_in s.written ∙ line_read (Bytes ns) s.formed refl
said_is_read line (Word32 n) s = ap statement_in s.written ∙ line_read (Word32 n) s.formed refl
said_is_read line (Space n) s = ap statement_in s.written ∙ line_read (Space n) s.formed refl
said_is_read line (Block name at) s = ap statement_in s.written ∙ line_read (Block name at) s.formed refl
said_is_read line (Stop n) s = ap statement_in s.written ∙ line_read (Stop n) s.formed refl
said_is_read line End s = ap statement_in s.written ∙ line_read End s.formed refl

some_same : {X : Type 0} (x y : X) → Some x ≡ Some y → x ≡ y
some_same x y h = cc

-- so a line says one statement at most
pub one_statement : (line : List Lexeme) (a b : Statement) → Says line a → Says line b → a ≡ b
one_statement line a b s t = some_same a b (sym (said_is_read line a s) ∙ said_is_read line b t)
