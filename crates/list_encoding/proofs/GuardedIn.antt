-- The guarded operation that is read in a word is that of its reading.
use Rattle.std.proofs.Common.{◌≡◌, ℕ, Bool, true, false, Option, Some, None, refl, sym, ap, subst, ◌∙◌, arith}
use Rattle.std.specs.Prelude.{◌↔◌, IsTrue, option_and_then, option_map, is_some}
use Rattle.std.proofs.lemmas.Option.{option_and_then_some}
use Rattle.operation.specs.declared.Op.{Op}
use Rattle.operation.specs.declared.Guarded.{Guarded}
use Rattle.operation.specs.Ranges.{is_in_range}
use Rattle.operation.proofs.GuardedParts.{equal_by_parts}
use Rattle.list_encoding.specs.declared.opcodes.Mnemonic.{Mnemonic}
use Rattle.list_encoding.specs.declared.fields.Fields.{Fields}
use Rattle.list_encoding.specs.declared.Coded.{Coded}
use Rattle.list_encoding.specs.Bits.{bits}
use Rattle.list_encoding.specs.Fields.{row, fields_of}
use Rattle.list_encoding.specs.Word.{is_head, unit_in, pause_in, HasFields, HasReading, IsReadable, IsReadingOf}
use Rattle.list_encoding.specs.Reading.{mnemonic_at, guarded_by, guarded_as, operation_as, guarded_in, is_readable, or_halt, operation_of}
use Rattle.list_encoding.proofs.Mnemonics.{by_opcode, named_has_opcode}
use Rattle.list_encoding.proofs.Readings.{coded, holds, operation_in_reading}

-- the fields of a word whose opcode is this one's
abbrev fields_as : ℕ → Mnemonic → Fields
fields_as word m = row m (bits 37 5 word) (bits 32 5 word) (bits 0 32 word)

-- an operation whose numbers are in range is the operation of a guarded one
made_by :
    (g : Guarded) (b : Bool) (e : is_in_range g.guard g.op ≡ b) → guarded_by g.guard g.op b e ≡ Some g
made_by g true e = ap Some (equal_by_parts (record { guard = g.guard; op = g.op; in_range = e }) g refl refl)
made_by g false e = absurd (let h : is_in_range g.guard g.op ≡ true = g.in_range in let k : ⊥ = cc in k)

made_as : (g : Guarded) → guarded_as g.guard g.op ≡ Some g
made_as g = made_by g (is_in_range g.guard g.op) refl

-- and a guarded operation that is made so has these parts
pub record Made (guard : ℕ) (o : Op) (g : Guarded) : Type 0 where
  pub guard_is : g.guard ≡ guard
  pub op_is : g.op ≡ o

made_from :
    (guard : ℕ) (o : Op) (g : Guarded) (b : Bool) (e : is_in_range guard o ≡ b) → guarded_by guard o b e ≡ Some g →
    Made guard o g
made_from guard o g true e h =
    let same : record { guard = guard; op = o; in_range = e } ≡ g = cc in
    record { guard_is = ap (λ (x : Guarded). x.guard) (sym same); op_is = ap (λ (x : Guarded). x.op) (sym same) }
made_from guard o g false e h = absurd (let k : ⊥ = cc in k)

-- what is read in the word of a reading
pub guarded_of_reading : (word : ℕ) (c : Coded) → HasReading word c → guarded_in word ≡ Some c.guarded
unfolding guarded_in
guarded_of_reading word c h =
    let g = c.guarded in
    let f = fields_of g.op in
    let opcode = h.fields.opcode in
    let named : mnemonic_at (bits 47 7 word) ≡ Some f.mnemonic = ap mnemonic_at opcode ∙ by_opcode f.mnemonic (omega arith) in
    let has : HasFields word (fields_as word f.mnemonic) = record { opcode = opcode; d = refl; s = refl; tail = refl } in
    let read : operation_as word f.mnemonic ≡ Some g.op = operation_in_reading word (fields_as word f.mnemonic) c has h in
    ap (λ m. option_and_then (guarded_as (bits 42 5 word)) (option_and_then (operation_as word) m)) named
    ∙ ap (option_and_then (guarded_as (bits 42 5 word))) read
    ∙ ap (λ n. guarded_as n g.op) h.guard
    ∙ made_as g

-- a word's place with a guarded operation
abbrev pub placed : ℕ → Guarded → Coded
placed word g = coded (is_head word) (unit_in word) (pause_in word) g (omega arith) (omega arith)

-- a word whose guard and fields are those of a guarded operation has it in a reading
has_placed :
    (word : ℕ) (g : Guarded) → bits 42 5 word ≡ g.guard → HasFields word (fields_of g.op) → HasReading word (placed word g)
has_placed word g guard fields = record { head = refl; unit = refl; pause = refl; guard = guard; fields = fields }

pub guarded_of_parts :
    (word : ℕ) (g : Guarded) → bits 42 5 word ≡ g.guard → HasFields word (fields_of g.op) → Some g ≡ guarded_in word
guarded_of_parts word g guard fields = sym (guarded_of_reading word (placed word g) (has_placed word g guard fields))

-- the word has what is read in it
read_from :
    (word : ℕ) (m : Mnemonic) (o : Op) (g : Guarded) → mnemonic_at (bits 47 7 word) ≡ Some m → operation_as word m ≡ Some o →
    guarded_as (bits 42 5 word) o ≡ Some g → HasReading word (placed word g)
read_from word m o g named read made =
    let has : HasFields word (fields_as word m) =
    record { opcode = sym (named_has_opcode (bits 47 7 word) m named); d = refl; s = refl; tail = refl } in
    let this = holds word (fields_as word m) o has (sym read) in
    let from = made_from (bits 42 5 word) o g (is_in_range (bits 42 5 word) o) refl made in
    has_placed word g (sym from.guard_is) (subst (λ (p : Op). HasFields word (fields_of p)) (sym from.op_is) this.fields)

pub reading_of_guarded : (word : ℕ) (g : Guarded) → guarded_in word ≡ Some g → HasReading word (placed word g)
unfolding guarded_in
reading_of_guarded word g h =
    option_and_then_some (guarded_as (bits 42 5 word)) (option_and_then (operation_as word) (mnemonic_at (bits 47 7 word))) g h
    (λ o read made. option_and_then_some (operation_as word) (mnemonic_at (bits 47 7 word)) o read
    (λ m named has. read_from word m o g named has made))

-- the guarded operation of a word's reading, or none where it has none
pub guarded_of_answer : (word : ℕ) (r : Option Coded) → IsReadingOf word r → option_map (λ c. c.guarded) r ≡ guarded_in word
guarded_of_answer word (Some c) h = sym (guarded_of_reading word c h)
guarded_of_answer word None h = go (guarded_in word) refl
  where
    go : (o : Option Guarded) → guarded_in word ≡ o → None ≡ o
    go None e = refl
    go (Some g) e = absurd (h (placed word g) (reading_of_guarded word g e))

-- a word has a reading exactly where it has a guarded operation
to_readable : (word : ℕ) → IsReadable word → IsTrue (is_readable word)
to_readable word (c, h) = ap is_some (guarded_of_reading word c h)

from_readable : (word : ℕ) (o : Option Guarded) → guarded_in word ≡ o → is_some o ≡ true → IsReadable word
from_readable word (Some g) e h = (placed word g, reading_of_guarded word g e)
from_readable word None e h = absurd (let k : ⊥ = cc in k)

pub readable_decided : (word : ℕ) → IsReadable word ↔ IsTrue (is_readable word)
readable_decided word = (to_readable word, from_readable word (guarded_in word) refl)

-- the operation of a word is that of its reading
pub operation_of_reading : (word : ℕ) (c : Coded) → HasReading word c → operation_of word ≡ c.guarded
operation_of_reading word c h = ap or_halt (guarded_of_reading word c h)
