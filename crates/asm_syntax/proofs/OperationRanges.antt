-- The numbers of an operation whose operands stand in its slots.
use Rattle.std.proofs.Common.{◌≡◌, ℕ, zero, suc, ◌<◌, Bool, true, false, ◌&&◌, List, [], ◌∷◌, length, Some, None, refl, subst, lit<, arith}
use Rattle.std.specs.Prelude.{nat_le, Option, unwrap_or}
use Rattle.std.proofs.lemmas.Bool.{and_parts, and_from}
use Rattle.operation.specs.declared.Size.{Size}
use Rattle.operation.specs.declared.Size.TheVariants as size
use Rattle.operation.specs.Ranges.{is_register, is_target, is_stored, is_op_in_range, is_in_range}
use Rattle.list_encoding.specs.declared.opcodes.Mnemonic.{Mnemonic}
use Rattle.list_encoding.specs.declared.opcodes.Mnemonic.TheVariants.{Alu, AluImm, Pbr, Mvb, Mvr, Mul, Div, Rem, Load, Store, Inb, Outb, Cmp, CmpImm, Bru, Brct, Brcf, Brl, Halt}
use Rattle.list_encoding.specs.declared.shapes.Slot.{Slot}
use Rattle.list_encoding.specs.declared.shapes.Slot.TheVariants.{R, P, B, V, D, N}
use Rattle.list_encoding.specs.Opcodes.{opcode_of}
use Rattle.list_encoding.specs.Shapes.{slots_of}
use Rattle.asm_syntax.specs.Operands.{Operand, General, Predicate, Target, Destination, Immediate, Named, is_operand}
use Rattle.asm_syntax.specs.Fitting.{fits, all_fit}
use Rattle.asm_syntax.specs.Meanings.{at, number, destination, operation_with}
use Rattle.asm_syntax.specs.Statements.{Operation, is_guard, is_formed}

false_true : false ≡ true → ⊥
false_true h = let k : ⊥ = cc in k

-- an operand that doesn't fit stands in no slot
misfit : {T : Type 0} (b : Bool) → (b && false) ≡ true → T
misfit b h = absurd (false_true (and_parts b false h).1)

-- ---- an operand in a slot

stands : Slot → Operand → Bool
stands slot x = is_operand x && fits slot x

general : (x : Operand) → stands R x ≡ true → is_register (number x) ≡ true
unfolding stands
general (General n) h = (and_parts (is_register n) true h).0
general (Predicate n) h = misfit (is_operand (Predicate n)) h
general (Target n) h = misfit (is_operand (Target n)) h
general (Destination d) h = misfit (is_operand (Destination d)) h
general (Immediate z) h = misfit (is_operand (Immediate z)) h
general (Named w) h = misfit (is_operand (Named w)) h

predicate : (x : Operand) → stands P x ≡ true → is_register (number x) ≡ true
unfolding stands
predicate (General n) h = misfit (is_operand (General n)) h
predicate (Predicate n) h = (and_parts (is_register n) true h).0
predicate (Target n) h = misfit (is_operand (Target n)) h
predicate (Destination d) h = misfit (is_operand (Destination d)) h
predicate (Immediate z) h = misfit (is_operand (Immediate z)) h
predicate (Named w) h = misfit (is_operand (Named w)) h

target : (x : Operand) → stands B x ≡ true → is_target (number x) ≡ true
unfolding stands
target (General n) h = misfit (is_operand (General n)) h
target (Predicate n) h = misfit (is_operand (Predicate n)) h
target (Target n) h = (and_parts (is_target n) true h).0
target (Destination d) h = misfit (is_operand (Destination d)) h
target (Immediate z) h = misfit (is_operand (Immediate z)) h
target (Named w) h = misfit (is_operand (Named w)) h

written : (x : Operand) → stands D x ≡ true → is_register (destination x).p ≡ true
unfolding stands
written (General n) h = misfit (is_operand (General n)) h
written (Predicate n) h = misfit (is_operand (Predicate n)) h
written (Target n) h = misfit (is_operand (Target n)) h
written (Destination d) h = (and_parts (is_register d.p) true h).0
written (Immediate z) h = misfit (is_operand (Immediate z)) h
written (Named w) h = misfit (is_operand (Named w)) h

-- ---- operands in slots, by their places

abbrev slot_at : ℕ → List Slot → Slot
slot_at k [] = N
slot_at zero (slot ∷ slots) = slot
slot_at (suc k) (slot ∷ slots) = slot_at k slots

each : (slots : List Slot) (xs : List Operand) (k : ℕ) → all_fit slots xs ≡ true → k < length slots → stands (slot_at k slots) (at k xs) ≡ true
unfolding stands
each [] xs k h below = absurd (omega arith)
each (slot ∷ slots) [] k h below = absurd (false_true h)
each (slot ∷ slots) (x ∷ xs) zero h below = (and_parts (is_operand x && fits slot x) (all_fit slots xs) h).0
each (slot ∷ slots) (x ∷ xs) (suc k) h below = each slots xs k (and_parts (is_operand x && fits slot x) (all_fit slots xs) h).1 (omega arith)

-- the register or the target at a place
module _ (slots : List Slot) (xs : List Operand) (h : all_fit slots xs ≡ true) where
  general_at : (k : ℕ) → k < length slots → slot_at k slots ≡ R → is_register (number (at k xs)) ≡ true
  general_at k below e = general (at k xs) (subst (λ s. stands s (at k xs) ≡ true) e (each slots xs k h below))

  predicate_at : (k : ℕ) → k < length slots → slot_at k slots ≡ P → is_register (number (at k xs)) ≡ true
  predicate_at k below e = predicate (at k xs) (subst (λ s. stands s (at k xs) ≡ true) e (each slots xs k h below))

  target_at : (k : ℕ) → k < length slots → slot_at k slots ≡ B → is_target (number (at k xs)) ≡ true
  target_at k below e = target (at k xs) (subst (λ s. stands s (at k xs) ≡ true) e (each slots xs k h below))

  written_at : (k : ℕ) → k < length slots → slot_at k slots ≡ D → is_register (destination (at k xs)).p ≡ true
  written_at k below e = written (at k xs) (subst (λ s. stands s (at k xs) ≡ true) e (each slots xs k h below))

-- ---- each operation

stored : (s : Size) → nat_le (opcode_of (Store s)) 127 ≡ true → is_stored s ≡ true
stored size.Word h = refl
stored size.Half h = refl
stored size.Byte h = refl
stored size.HalfU h = absurd (let k : ⊥ = cc in k)
stored size.ByteU h = absurd (let k : ⊥ = cc in k)

three_registers : (xs : List Operand) → all_fit (R ∷ (R ∷ (R ∷ []))) xs ≡ true →
    (is_register (number (at 0 xs)) && is_register (number (at 1 xs)) && is_register (number (at 2 xs))) ≡ true
three_registers xs h =
    let r = general_at (R ∷ (R ∷ (R ∷ []))) xs h in
    and_from _ _ (and_from _ _ (r 0 (lit< tt) refl) (r 1 (lit< tt) refl)) (r 2 (lit< tt) refl)

two_registers : (xs : List Operand) → all_fit (R ∷ (R ∷ (V ∷ []))) xs ≡ true → (is_register (number (at 0 xs)) && is_register (number (at 1 xs))) ≡ true
two_registers xs h = let r = general_at (R ∷ (R ∷ (V ∷ []))) xs h in and_from _ _ (r 0 (lit< tt) refl) (r 1 (lit< tt) refl)

target_and_predicate : (xs : List Operand) → all_fit (B ∷ (P ∷ [])) xs ≡ true → (is_target (number (at 0 xs)) && is_register (number (at 1 xs))) ≡ true
target_and_predicate xs h =
    let slots = B ∷ (P ∷ []) in
    and_from _ _ (target_at slots xs h 0 (lit< tt) refl) (predicate_at slots xs h 1 (lit< tt) refl)

op_in_range : (m : Mnemonic) (xs : List Operand) → nat_le (opcode_of m) 127 ≡ true → all_fit (slots_of m) xs ≡ true → is_op_in_range (operation_with m xs) ≡ true
op_in_range (Alu k) xs c h = three_registers xs h
op_in_range (AluImm k) xs c h = two_registers xs h
op_in_range Pbr xs c h = target_at (slots_of Pbr) xs h 0 (lit< tt) refl
op_in_range Mvb xs c h = and_from _ _ (target_at (slots_of Mvb) xs h 0 (lit< tt) refl) (general_at (slots_of Mvb) xs h 1 (lit< tt) refl)
op_in_range Mvr xs c h = and_from _ _ (general_at (slots_of Mvr) xs h 0 (lit< tt) refl) (target_at (slots_of Mvr) xs h 1 (lit< tt) refl)
op_in_range Mul xs c h = three_registers xs h
op_in_range Div xs c h = three_registers xs h
op_in_range Rem xs c h = three_registers xs h
op_in_range (Load s) xs c h = two_registers xs h
op_in_range (Store s) xs c h =
    let r = and_parts (is_register (number (at 0 xs))) (is_register (number (at 1 xs))) (two_registers xs h) in
    and_from _ _ (and_from _ _ (stored s c) r.0) r.1
op_in_range Inb xs c h = general_at (slots_of Inb) xs h 0 (lit< tt) refl
op_in_range Outb xs c h = general_at (slots_of Outb) xs h 0 (lit< tt) refl
op_in_range (Cmp t) xs c h =
    let d = written_at (slots_of (Cmp t)) xs h in
    let r = general_at (slots_of (Cmp t)) xs h in
    and_from _ _ (and_from _ _ (and_from _ _ (d 0 (lit< tt) refl) (d 1 (lit< tt) refl)) (r 2 (lit< tt) refl)) (r 3 (lit< tt) refl)
op_in_range (CmpImm t) xs c h =
    let d = written_at (slots_of (CmpImm t)) xs h in
    and_from _ _ (and_from _ _ (d 0 (lit< tt) refl) (d 1 (lit< tt) refl)) (general_at (slots_of (CmpImm t)) xs h 2 (lit< tt) refl)
op_in_range Bru xs c h = target_at (slots_of Bru) xs h 0 (lit< tt) refl
op_in_range Brct xs c h = target_and_predicate xs h
op_in_range Brcf xs c h = target_and_predicate xs h
op_in_range Brl xs c h = and_from _ _ (target_at (slots_of Brl) xs h 0 (lit< tt) refl) (target_at (slots_of Brl) xs h 1 (lit< tt) refl)
op_in_range Halt xs c h = general_at (slots_of Halt) xs h 0 (lit< tt) refl

guard_in_range : (p : Option ℕ) → is_guard p ≡ true → is_register (unwrap_or p 0) ≡ true
guard_in_range None h = refl
guard_in_range (Some n) h = h

-- a formed operation has its numbers in range
pub formed_in_range : (p : Option ℕ) (m : Mnemonic) (xs : List Operand) → is_formed (Operation p m xs) ≡ true → is_in_range (unwrap_or p 0) (operation_with m xs) ≡ true
formed_in_range p m xs h =
    let f = and_parts (is_guard p) (nat_le (opcode_of m) 127 && all_fit (slots_of m) xs) h in
    let g = and_parts (nat_le (opcode_of m) 127) (all_fit (slots_of m) xs) f.1 in
    and_from (is_register (unwrap_or p 0)) (is_op_in_range (operation_with m xs)) (guard_in_range p f.0) (op_in_range m xs g.0 g.1)
