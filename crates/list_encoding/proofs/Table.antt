-- The table of fields, both ways.
use Rattle.std.proofs.Common.{◌≡◌, ℕ, ◌^◌, ◌<◌, true, ◌&&◌, Some, refl, sym, ap, ◌∙◌, arith}
use Rattle.std.specs.Prelude.{ℤ, nat_lt}
use Rattle.std.specs.Int.{cast_signed, w16}
use Rattle.operation.specs.declared.Size.{Size}
use Rattle.operation.specs.declared.Size.TheVariants.{Word, Half, Byte, HalfU, ByteU}
use Rattle.operation.specs.declared.Action.{Action}
use Rattle.operation.specs.declared.Test.{Test}
use Rattle.operation.specs.declared.Dest.{Dest}
use Rattle.operation.specs.declared.Op.{Op}
use Rattle.operation.specs.declared.Op.TheVariants as op
use Rattle.operation.specs.Ranges.{is_register, is_target, is_op_in_range}
use Rattle.list_encoding.specs.declared.opcodes.Mnemonic.{Mnemonic}
use Rattle.list_encoding.specs.declared.opcodes.Mnemonic.TheVariants as mnemonic
use Rattle.list_encoding.specs.Bits.{bits}
use Rattle.list_encoding.specs.Opcodes.{opcode_of}
use Rattle.list_encoding.specs.Fields.{action_number, sixteen_bits, compare_tail, row, fields_of}
use Rattle.list_encoding.specs.Operands.{action_at, is_unused, second_operand, first_action, second_action, is_compare_tail, first_of, second_of, fit_with, made_with, operation_in}
use Rattle.list_encoding.proofs.Choices.{and_first, and_second, and_both, chosen, at_most, below, equal, is_at_most, is_below, is_equal}
use Rattle.list_encoding.proofs.Tails.{tail_of, Parts, parts, of_parts, action_below, action_of_number, number_of_action, bits_of_signed, signed_of_bits}

-- fields that hold what an operation doesn't use are those of the operation

unused_d : (m : Mnemonic) (d s tail : ℕ) → is_unused d ≡ true → row m 0 s tail ≡ row m d s tail
unused_d m d s tail h = ap (λ n. row m n s tail) (sym (equal d 0 h))

unused_s : (m : Mnemonic) (d s tail : ℕ) → is_unused s ≡ true → row m d 0 tail ≡ row m d s tail
unused_s m d s tail h = ap (λ n. row m d n tail) (sym (equal s 0 h))

unused_tail : (m : Mnemonic) (d s tail : ℕ) → is_unused tail ≡ true → row m d s 0 ≡ row m d s tail
unused_tail m d s tail h = ap (λ n. row m d s n) (sym (equal tail 0 h))

-- a compare's tail is made of its parts
compare_of_parts : (d tail second : ℕ) → tail < 2 ^ 32 → is_compare_tail tail ≡ true → second ≡ second_operand tail →
    compare_tail second (first_of d tail) (second_of tail) ≡ tail
compare_of_parts d tail second few h same =
    let rest = nat_lt (second_action tail) 6 && is_unused (bits 0 5 tail) in
    let others = and_second (nat_lt (first_action tail) 6) rest h in
    let first = number_of_action (first_action tail) (below (first_action tail) 6 (and_first (nat_lt (first_action tail) 6) rest h)) in
    let other = number_of_action (second_action tail) (below (second_action tail) 6 (and_first (nat_lt (second_action tail) 6) (is_unused (bits 0 5 tail)) others)) in
    let low = equal (bits 0 5 tail) 0 (and_second (nat_lt (second_action tail) 6) (is_unused (bits 0 5 tail)) others) in
    ap (λ n. tail_of n (bits 11 5 tail) (action_number (action_at (first_action tail))) (action_number (action_at (second_action tail)))) same
    ∙ ap (λ n. tail_of (second_operand tail) (bits 11 5 tail) n (action_number (action_at (second_action tail)))) first
    ∙ ap (λ n. tail_of (second_operand tail) (bits 11 5 tail) (first_action tail) n) other
    ∙ of_parts tail few low

-- the fields of the operation that fields hold are these fields
pub fields_of_made : (m : Mnemonic) (d s tail : ℕ) → tail < 2 ^ 32 → fit_with m d s tail ≡ true → fields_of (made_with m d s tail) ≡ row m d s tail
fields_of_made (mnemonic.Alu kind) d s tail few h = refl
fields_of_made (mnemonic.AluImm kind) d s tail few h = refl
fields_of_made mnemonic.Pbr d s tail few h = unused_s mnemonic.Pbr d s tail (and_second (is_target d) (is_unused s) h)
fields_of_made mnemonic.Mvb d s tail few h = unused_tail mnemonic.Mvb d s tail (and_second (is_target d) (is_unused tail) h)
fields_of_made mnemonic.Mvr d s tail few h = unused_tail mnemonic.Mvr d s tail (and_second (is_target s) (is_unused tail) h)
fields_of_made mnemonic.Mul d s tail few h = refl
fields_of_made mnemonic.Div d s tail few h = refl
fields_of_made mnemonic.Rem d s tail few h = refl
fields_of_made (mnemonic.Load size) d s tail few h = refl
fields_of_made (mnemonic.Store size) d s tail few h = refl
fields_of_made mnemonic.Inb d s tail few h =
    unused_s mnemonic.Inb d s 0 (and_first (is_unused s) (is_unused tail) h) ∙ unused_tail mnemonic.Inb d s tail (and_second (is_unused s) (is_unused tail) h)
fields_of_made mnemonic.Outb d s tail few h =
    unused_d mnemonic.Outb d s 0 (and_first (is_unused d) (is_unused tail) h) ∙ unused_tail mnemonic.Outb d s tail (and_second (is_unused d) (is_unused tail) h)
fields_of_made (mnemonic.Cmp test) d s tail few h =
    ap (row (mnemonic.Cmp test) d s) (compare_of_parts d tail (second_operand tail) few (and_first (is_compare_tail tail) (is_register (second_operand tail)) h) refl)
fields_of_made (mnemonic.CmpImm test) d s tail few h =
    ap (row (mnemonic.CmpImm test) d s) (compare_of_parts d tail (sixteen_bits (cast_signed w16 (second_operand tail))) few h (bits_of_signed (second_operand tail) (omega arith)))
fields_of_made mnemonic.Bru d s tail few h =
    unused_d mnemonic.Bru d s 0 (and_first (is_unused d) (is_target s && is_unused tail) h)
    ∙ unused_tail mnemonic.Bru d s tail (and_second (is_target s) (is_unused tail) (and_second (is_unused d) (is_target s && is_unused tail) h))
fields_of_made mnemonic.Brct d s tail few h = unused_tail mnemonic.Brct d s tail (and_second (is_target s) (is_unused tail) h)
fields_of_made mnemonic.Brcf d s tail few h = unused_tail mnemonic.Brcf d s tail (and_second (is_target s) (is_unused tail) h)
fields_of_made mnemonic.Brl d s tail few h =
    unused_tail mnemonic.Brl d s tail (and_second (is_target s) (is_unused tail) (and_second (is_target d) (is_target s && is_unused tail) h))
fields_of_made mnemonic.Halt d s tail few h =
    unused_d mnemonic.Halt d s 0 (and_first (is_unused d) (is_unused tail) h) ∙ unused_tail mnemonic.Halt d s tail (and_second (is_unused d) (is_unused tail) h)

-- an opcode of seven bits names a store only of a size that stores have
stored : (size : Size) → opcode_of (mnemonic.Store size) < 128 → (d s tail : ℕ) → is_register d ≡ true → is_register s ≡ true → is_op_in_range (op.Store size d s tail) ≡ true
stored Word h d s tail p q = and_both (is_register d) (is_register s) p q
stored Half h d s tail p q = and_both (is_register d) (is_register s) p q
stored Byte h d s tail p q = and_both (is_register d) (is_register s) p q
stored HalfU h d s tail p q = absurd (let k : ⊥ = omega arith in k)
stored ByteU h d s tail p q = absurd (let k : ⊥ = omega arith in k)

-- the operation that fields hold has its numbers in range
pub made_in_range : (m : Mnemonic) (d s tail : ℕ) → opcode_of m < 128 → is_register d ≡ true → is_register s ≡ true → fit_with m d s tail ≡ true → is_op_in_range (made_with m d s tail) ≡ true
made_in_range (mnemonic.Alu kind) d s tail named p q h = and_both (is_register d && is_register s) (is_register tail) (and_both (is_register d) (is_register s) p q) h
made_in_range (mnemonic.AluImm kind) d s tail named p q h = and_both (is_register d) (is_register s) p q
made_in_range mnemonic.Pbr d s tail named p q h = and_first (is_target d) (is_unused s) h
made_in_range mnemonic.Mvb d s tail named p q h = and_both (is_target d) (is_register s) (and_first (is_target d) (is_unused tail) h) q
made_in_range mnemonic.Mvr d s tail named p q h = and_both (is_register d) (is_target s) p (and_first (is_target s) (is_unused tail) h)
made_in_range mnemonic.Mul d s tail named p q h = and_both (is_register d && is_register s) (is_register tail) (and_both (is_register d) (is_register s) p q) h
made_in_range mnemonic.Div d s tail named p q h = and_both (is_register d && is_register s) (is_register tail) (and_both (is_register d) (is_register s) p q) h
made_in_range mnemonic.Rem d s tail named p q h = and_both (is_register d && is_register s) (is_register tail) (and_both (is_register d) (is_register s) p q) h
made_in_range (mnemonic.Load size) d s tail named p q h = and_both (is_register d) (is_register s) p q
made_in_range (mnemonic.Store size) d s tail named p q h = stored size named d s tail p q
made_in_range mnemonic.Inb d s tail named p q h = p
made_in_range mnemonic.Outb d s tail named p q h = q
made_in_range (mnemonic.Cmp test) d s tail named p q h =
    let second = is_at_most (bits 11 5 tail) 31 (omega arith) in
    let both = and_both (is_register d) (is_register (bits 11 5 tail)) p second in
    let three = and_both (is_register d && is_register (bits 11 5 tail)) (is_register s) both q in
    and_both (is_register d && is_register (bits 11 5 tail) && is_register s) (is_register (second_operand tail)) three (and_second (is_compare_tail tail) (is_register (second_operand tail)) h)
made_in_range (mnemonic.CmpImm test) d s tail named p q h =
    let second = is_at_most (bits 11 5 tail) 31 (omega arith) in
    and_both (is_register d && is_register (bits 11 5 tail)) (is_register s) (and_both (is_register d) (is_register (bits 11 5 tail)) p second) q
made_in_range mnemonic.Bru d s tail named p q h = and_first (is_target s) (is_unused tail) (and_second (is_unused d) (is_target s && is_unused tail) h)
made_in_range mnemonic.Brct d s tail named p q h = and_both (is_target s) (is_register d) (and_first (is_target s) (is_unused tail) h) p
made_in_range mnemonic.Brcf d s tail named p q h = and_both (is_target s) (is_register d) (and_first (is_target s) (is_unused tail) h) p
made_in_range mnemonic.Brl d s tail named p q h =
    and_both (is_target d) (is_target s) (and_first (is_target d) (is_target s && is_unused tail) h)
    (and_first (is_target s) (is_unused tail) (and_second (is_target d) (is_target s && is_unused tail) h))
made_in_range mnemonic.Halt d s tail named p q h = q

-- an operation's compare tail has its destinations, and fits
record Compares (t : ℕ) (a b : Dest) : Type 0 where
  fits : is_compare_tail (compare_tail t a b) ≡ true
  second : second_operand (compare_tail t a b) ≡ t
  first_dest : first_of a.p (compare_tail t a b) ≡ a
  second_dest : second_of (compare_tail t a b) ≡ b

dest : (p q : ℕ) (x y : Action) → p ≡ q → x ≡ y → (let d : Dest = record { p = p; action = x } in d) ≡ record { p = q; action = y }
dest p q x y h k = cc

compares : (t : ℕ) (a b : Dest) → t < 2 ^ 16 → is_register b.p ≡ true → Compares t a b
compares t a b few in_range =
    let tail = compare_tail t a b in
    let x = action_below a.action in
    let y = action_below b.action in
    let p = at_most b.p 31 in_range in
    let made : Parts t b.p (action_number a.action) (action_number b.action) tail =
    parts t b.p (action_number a.action) (action_number b.action) few (omega arith) (omega arith) (omega arith) in
    let first : first_action tail ≡ action_number a.action = made.first_is in
    let other : second_action tail ≡ action_number b.action = made.other_is in
    record {
      fits =
          and_both (nat_lt (first_action tail) 6) (nat_lt (second_action tail) 6 && is_unused (bits 0 5 tail)) (is_below (first_action tail) 6 (omega arith))
          (and_both (nat_lt (second_action tail) 6) (is_unused (bits 0 5 tail)) (is_below (second_action tail) 6 (omega arith)) (is_equal (bits 0 5 tail) 0 made.low));
      second = made.second_is;
      first_dest = dest a.p a.p (action_at (first_action tail)) a.action refl (ap action_at first ∙ action_of_number a.action);
      second_dest = dest (bits 11 5 tail) b.p (action_at (second_action tail)) b.action made.p_is (ap action_at other ∙ action_of_number b.action);
    }

compare : (test : Test) (s : ℕ) (a b c d : Dest) (t u : ℕ) → a ≡ b → c ≡ d → t ≡ u → op.Cmp test a c s t ≡ op.Cmp test b d s u
compare test s a b c d t u h k l = cc

compare_immediate : (test : Test) (s : ℕ) (a b c d : Dest) (t u : ℤ) → a ≡ b → c ≡ d → t ≡ u → op.CmpImm test a c s t ≡ op.CmpImm test b d s u
compare_immediate test s a b c d t u h k l = cc

-- the operation whose fields an operation has is that operation
pub operation_in_fields : (o : Op) → is_op_in_range o ≡ true → (fields_of o).tail < 2 ^ 32 → operation_in (fields_of o) ≡ Some o
operation_in_fields (op.Alu kind d s t) h few = chosen (is_register t) (op.Alu kind d s t) (and_second (is_register d && is_register s) (is_register t) h)
operation_in_fields (op.AluImm kind d s imm) h few = refl
operation_in_fields (op.Pbr d imm) h few = chosen (is_target d && true) (op.Pbr d imm) (and_both (is_target d) true h refl)
operation_in_fields (op.Mvb d s) h few = chosen (is_target d && true) (op.Mvb d s) (and_both (is_target d) true (and_first (is_target d) (is_register s) h) refl)
operation_in_fields (op.Mvr d s) h few = chosen (is_target s && true) (op.Mvr d s) (and_both (is_target s) true (and_second (is_register d) (is_target s) h) refl)
operation_in_fields (op.Mul d s t) h few = chosen (is_register t) (op.Mul d s t) (and_second (is_register d && is_register s) (is_register t) h)
operation_in_fields (op.Div d s t) h few = chosen (is_register t) (op.Div d s t) (and_second (is_register d && is_register s) (is_register t) h)
operation_in_fields (op.Rem d s t) h few = chosen (is_register t) (op.Rem d s t) (and_second (is_register d && is_register s) (is_register t) h)
operation_in_fields (op.Load size d s imm) h few = refl
operation_in_fields (op.Store size d s imm) h few = refl
operation_in_fields (op.Inb d) h few = refl
operation_in_fields (op.Outb s) h few = refl
operation_in_fields (op.Cmp test a b s t) h few =
    let tail = compare_tail t a b in
    let registers = and_first (is_register a.p && is_register b.p && is_register s) (is_register t) h in
    let in_range = and_second (is_register a.p && is_register b.p && is_register s) (is_register t) h in
    let predicates = and_first (is_register a.p && is_register b.p) (is_register s) registers in
    let t_few = at_most t 31 in_range in
    let parted = compares t a b (omega arith) (and_second (is_register a.p) (is_register b.p) predicates) in
    let named : is_register (second_operand tail) ≡ true = ap is_register parted.second ∙ in_range in
    chosen (is_compare_tail tail && is_register (second_operand tail)) (op.Cmp test (first_of a.p tail) (second_of tail) s (second_operand tail))
    (and_both (is_compare_tail tail) (is_register (second_operand tail)) parted.fits named)
    ∙ ap Some (compare test s (first_of a.p tail) a (second_of tail) b (second_operand tail) t parted.first_dest parted.second_dest parted.second)
operation_in_fields (op.CmpImm test a b s imm) h few =
    let second = sixteen_bits imm in
    let tail = compare_tail second a b in
    let predicates = and_first (is_register a.p && is_register b.p) (is_register s) h in
    let second_few : second < 2 ^ 16 = omega arith in
    let parted = compares second a b second_few (and_second (is_register a.p) (is_register b.p) predicates) in
    let signed : cast_signed w16 (second_operand tail) ≡ imm = ap (cast_signed w16) parted.second ∙ signed_of_bits imm second_few in
    chosen (is_compare_tail tail) (op.CmpImm test (first_of a.p tail) (second_of tail) s (cast_signed w16 (second_operand tail))) parted.fits
    ∙ ap Some (compare_immediate test s (first_of a.p tail) a (second_of tail) b (cast_signed w16 (second_operand tail)) imm parted.first_dest parted.second_dest signed)
operation_in_fields (op.Bru s) h few = chosen (is_target s && true) (op.Bru s) (and_both (is_target s) true h refl)
operation_in_fields (op.Brct s d) h few = chosen (is_target s && true) (op.Brct s d) (and_both (is_target s) true (and_first (is_target s) (is_register d) h) refl)
operation_in_fields (op.Brcf s d) h few = chosen (is_target s && true) (op.Brcf s d) (and_both (is_target s) true (and_first (is_target s) (is_register d) h) refl)
operation_in_fields (op.Brl d s) h few =
    chosen (is_target d && (is_target s && true)) (op.Brl d s)
    (and_both (is_target d) (is_target s && true) (and_first (is_target d) (is_target s) h) (and_both (is_target s) true (and_second (is_target d) (is_target s) h) refl))
operation_in_fields (op.Halt s) h few = refl
