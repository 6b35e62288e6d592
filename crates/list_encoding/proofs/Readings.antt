-- What a word says determines its reading.
use Rattle.std.proofs.Common.{◌≡◌, ℕ, ◌%◌, ◌^◌, ◌<◌, List, [], ◌∷◌, Bool, true, Option, Some, None, refl, sym, ap, subst, ◌∙◌, arith}
use Rattle.std.specs.Prelude.{map}
use Rattle.std.specs.List.{AllZip}
use Rattle.std.proofs.Props.{props}
use Rattle.operation.specs.declared.Op.{Op}
use Rattle.operation.specs.declared.Guarded.{Guarded}
use Rattle.operation.specs.Ranges.{is_register, is_op_in_range}
use Rattle.operation.proofs.GuardedParts.{equal_by_parts}
use Rattle.list_encoding.specs.declared.opcodes.Mnemonic.{Mnemonic}
use Rattle.list_encoding.specs.declared.fields.Fields.{Fields}
use Rattle.list_encoding.specs.declared.Coded.{Coded}
use Rattle.list_encoding.specs.Bits.{bits}
use Rattle.list_encoding.specs.Fields.{row, fields_of}
use Rattle.list_encoding.specs.Operands.{fit_with, made_with, operation_in}
use Rattle.list_encoding.specs.Word.{is_head, unit_in, pause_in, HasFields, HasReading, IsReadable, IsReadingOf}
use Rattle.list_encoding.specs.Times.{Pace, pace, word_pace}
use Rattle.list_encoding.proofs.Choices.{and_second, chosen_by, is_at_most}
use Rattle.list_encoding.proofs.Table.{fields_of_made, made_in_range, operation_in_fields}
use Rattle.list_encoding.proofs.Mnemonics.{same_mnemonic}

some_same : {X : Type 0} (x y : X) → Some x ≡ Some y → x ≡ y
some_same x y h = cc

row_of_parts : (m n : Mnemonic) (d e s t x y : ℕ) → m ≡ n → d ≡ e → s ≡ t → x ≡ y → row m d s x ≡ row n e t y
row_of_parts m n d e s t x y h k l o = cc

-- a word has one opcode and one value in each field
same_fields : (word : ℕ) (f g : Fields) → HasFields word f → HasFields word g → f ≡ g
same_fields word f g h k =
    let opcode = h.opcode in
    row_of_parts f.mnemonic g.mnemonic f.d g.d f.s g.s f.tail g.tail
    (same_mnemonic f.mnemonic g.mnemonic (omega arith) (sym h.opcode ∙ k.opcode)) (sym h.d ∙ k.d) (sym h.s ∙ k.s) (sym h.tail ∙ k.tail)

-- the operation of a reading is read in the word's fields
pub operation_in_reading : (word : ℕ) (f : Fields) (c : Coded) → HasFields word f → HasReading word c → operation_in f ≡ Some c.guarded.op
operation_in_reading word f c h k =
    let o = c.guarded.op in
    let in_range = and_second (is_register c.guarded.guard) (is_op_in_range o) c.guarded.in_range in
    let tail = k.fields.tail in
    ap operation_in (same_fields word f (fields_of o) h k.fields) ∙ operation_in_fields o in_range (omega arith)

-- fields that hold no operation are those of no reading
pub no_reading : (word : ℕ) (f : Fields) → HasFields word f → None ≡ operation_in f → (c : Coded) → HasReading word c → ⊥
no_reading word f h lacks c k = let found : None ≡ Some c.guarded.op = lacks ∙ operation_in_reading word f c h k in let x : ⊥ = cc in x

same_guarded : (word : ℕ) (a b : Coded) → HasReading word a → HasReading word b → a.guarded ≡ b.guarded
same_guarded word a b h k =
    let f = fields_of a.guarded.op in
    equal_by_parts a.guarded b.guarded (sym h.guard ∙ k.guard)
    (some_same a.guarded.op b.guarded.op (sym (operation_in_reading word f a h.fields h) ∙ operation_in_reading word f b h.fields k))

abbrev pub coded : (head : Bool) (unit pause : ℕ) (g : Guarded) → unit < 16 → pause < 32 → Coded
coded head unit pause g p q = record { head = head; unit = unit; pause = pause; guarded = g; unit_in_range = p; pause_in_range = q }

coded_facts : (head : Bool) (unit pause : ℕ) (g : Guarded) (p x : unit < 16) (q y : pause < 32) → coded head unit pause g p q ≡ coded head unit pause g x y
coded_facts head unit pause g p x q y =
    let one : IsProp (unit < 16) = hlevel props in
    let other : IsProp (pause < 32) = hlevel props in
    ap (λ z. coded head unit pause g z q) (one p x) ∙ ap (λ z. coded head unit pause g x z) (other q y)

coded_parts :
    (head other : Bool) (unit v pause w : ℕ) (g k : Guarded) → head ≡ other → unit ≡ v → pause ≡ w → g ≡ k →
    (p : unit < 16) (q : pause < 32) (x : v < 16) (y : w < 32) → coded head unit pause g p q ≡ coded other v w k x y
coded_parts head other unit v pause w g k same_head same_unit same_pause same_guarded_op p q =
    subst (λ (h : Bool). (x : v < 16) (y : w < 32) → coded head unit pause g p q ≡ coded h v w k x y) same_head
    (subst (λ (n : ℕ). (x : n < 16) (y : w < 32) → coded head unit pause g p q ≡ coded head n w k x y) same_unit
    (subst (λ (n : ℕ). (x : unit < 16) (y : n < 32) → coded head unit pause g p q ≡ coded head unit n k x y) same_pause
    (subst (λ (z : Guarded). (x : unit < 16) (y : pause < 32) → coded head unit pause g p q ≡ coded head unit pause z x y) same_guarded_op
    (λ x y. coded_facts head unit pause g p x q y))))

-- a word has at most one reading
pub one_reading : (word : ℕ) (a b : Coded) → HasReading word a → HasReading word b → a ≡ b
one_reading word a b h k =
    coded_parts a.head b.head a.unit b.unit a.pause b.pause a.guarded b.guarded (sym h.head ∙ k.head) (sym h.unit ∙ k.unit) (sym h.pause ∙ k.pause)
    (same_guarded word a b h k) a.unit_in_range a.pause_in_range b.unit_in_range b.pause_in_range

-- the operation that the fields of a word hold
pub record Holds (word : ℕ) (o : Op) : Type 0 where
  pub fields : HasFields word (fields_of o)
  pub in_range : is_op_in_range o ≡ true

pub holds : (word : ℕ) (f : Fields) (o : Op) → HasFields word f → Some o ≡ operation_in f → Holds word o
holds word f o h found =
    let opcode = h.opcode in
    let tail = h.tail in
    let d = h.d in
    let s = h.s in
    let choice = chosen_by (fit_with f.mnemonic f.d f.s f.tail) (made_with f.mnemonic f.d f.s f.tail) o (sym found) in
    let same : fields_of o ≡ f = ap fields_of (sym choice.1) ∙ fields_of_made f.mnemonic f.d f.s f.tail (omega arith) choice.0 in
    record {
      fields = subst (HasFields word) (sym same) h;
      in_range =
          ap is_op_in_range (sym choice.1)
          ∙ made_in_range f.mnemonic f.d f.s f.tail (omega arith) (is_at_most f.d 31 (omega arith)) (is_at_most f.s 31 (omega arith)) choice.0;
    }

-- what is decoded from the word of a reading
pub decoded_again : (c : Coded) (word : ℕ) (found : Option Coded) → HasReading word c → IsReadingOf word found → found ≡ Some c
decoded_again c word (Some d) h k = ap Some (one_reading word d c k h)
decoded_again c word None h k = absurd (k c h)

-- another unit and pause, and another head mark
pub place_decides_nothing : (v w : ℕ) → v % 2 ^ 54 ≡ w % 2 ^ 54 → IsReadable v → IsReadable w
place_decides_nothing v w low readable =
    let c = readable.0 in
    let h = readable.1 in
    let fields : HasFields w (fields_of c.guarded.op) = record {
      opcode = (let e : bits 47 7 w ≡ bits 47 7 v = omega arith in e) ∙ h.fields.opcode;
      d = (let e : bits 37 5 w ≡ bits 37 5 v = omega arith in e) ∙ h.fields.d;
      s = (let e : bits 32 5 w ≡ bits 32 5 v = omega arith in e) ∙ h.fields.s;
      tail = (let e : bits 0 32 w ≡ bits 0 32 v = omega arith in e) ∙ h.fields.tail;
    } in
    let guard : bits 42 5 w ≡ c.guarded.guard = (let e : bits 42 5 w ≡ bits 42 5 v = omega arith in e) ∙ h.guard in
    let placed : Coded = coded (is_head w) (unit_in w) (pause_in w) c.guarded (omega arith) (omega arith) in
    let read : HasReading w placed = record { head = refl; unit = refl; pause = refl; guard = guard; fields = fields } in
    (placed, read)

-- words have the paces of their readings
same_pace : (word : ℕ) (c : Coded) → HasReading word c → word_pace word ≡ pace c
same_pace word c h = made (is_head word) c.head (pause_in word) c.pause h.head h.pause
  where
    made : (a b : Bool) (m n : ℕ) → a ≡ b → m ≡ n → (let p : Pace = record { head = a; pause = m } in p) ≡ record { head = b; pause = n }
    made a b m n p q = cc

pub same_paces : (words : List ℕ) (ops : List Coded) → AllZip HasReading words ops → map word_pace words ≡ map pace ops
same_paces [] [] h = refl
same_paces [] (c ∷ ops) h = absurd h
same_paces (word ∷ words) [] h = absurd h
same_paces (word ∷ words) (c ∷ ops) h = joined (word_pace word) (pace c) (map word_pace words) (map pace ops) (same_pace word c h.0) (same_paces words ops h.1)
  where
    joined : (x y : Pace) (xs ys : List Pace) → x ≡ y → xs ≡ ys → x ∷ xs ≡ y ∷ ys
    joined x y xs ys p q = cc
