-- Lines and statements: what is read in a line is what it says.
use Rattle.std.proofs.Common.{◌≡◌, ℕ, Bool, true, false, cond, ◌&&◌, List, [], ◌∷◌, ◌++◌, Some, None, refl, sym, ap, ◌∙◌, subst}
use Rattle.std.specs.Prelude.{nat_eq, nat_le, bytes_eq, find, Option, codes, Err}
use Rattle.std.specs.List.{list_all}
use Rattle.std.proofs.lemmas.Bool.{and_from, eqb-true}
use Rattle.std.proofs.lemmas.Slice.Eq.{bytes_eq-Decides}
use Rattle.list_encoding.specs.declared.opcodes.Mnemonic.{Mnemonic}
use Rattle.list_encoding.specs.Opcodes.{opcode_of}
use Rattle.list_encoding.specs.Names.{name_of, mnemonic_named}
use Rattle.list_encoding.specs.Shapes.{slots_of}
use Rattle.list_encoding.proofs.OperationNames.{found_passes, named}
use Rattle.asm_syntax.specs.declared.heads.Head.{Head}
use Rattle.asm_syntax.specs.declared.heads.Head.TheVariants as head
use Rattle.asm_syntax.specs.declared.Unbegun.TheVariants as unbegun
use Rattle.asm_syntax.specs.Lexemes.{Lexeme, Word, Number, Mark, Pair}
use Rattle.asm_syntax.specs.Spellings.{predicate}
use Rattle.asm_syntax.specs.Operands.{Operand, General, Predicate, Target, Destination, Immediate, Named}
use Rattle.asm_syntax.specs.Fitting.{all_fit}
use Rattle.asm_syntax.specs.Reading.{word_operand, predicate_of, guard_named, operands_in}
use Rattle.asm_syntax.specs.Beginnings.{directives, directive_named, operation_begun, word_begun, behind_guard, guarded, in_guard}
use Rattle.asm_syntax.specs.Statements.{Statement, Operation, guard, is_guard, Says}
use Rattle.asm_syntax.specs.StatementReading.{statement_begun, statement_in}
use Rattle.asm_syntax.proofs.Words.{read_word_written}
use Rattle.asm_syntax.proofs.Lines.{mapped, fill}
use Rattle.asm_syntax.proofs.StatementLines.{Wrote, first, statement_written}

some_same : {X : Type 0} (x y : X) → Some x ≡ Some y → x ≡ y
some_same x y h = cc

-- ---- an operation

operation_says : (p : Option ℕ) (w : List ℕ) (ls : List Lexeme) (st : Statement) → is_guard p ≡ true →
    statement_begun (operation_begun p (mnemonic_named w) ls) ≡ Some st → Says (guard p ++ (Word w ∷ ls)) st
operation_says p w ls st there h = go (mnemonic_named w) refl h
  where
    go : (o : Option Mnemonic) → mnemonic_named w ≡ o → statement_begun (operation_begun p o ls) ≡ Some st → Says (guard p ++ (Word w ∷ ls)) st
    go None e g = absurd (let k : ⊥ = cc in k)
    go (Some m) e g =
        let o = mapped (λ ys. Operation p m ys) (operands_in (slots_of m) ls) st g in
        let xs = o.0 in
        let n = named w m e in
        let f = fill (slots_of m) ls xs o.1 in
        subst (Says (guard p ++ (Word w ∷ ls))) o.2 (record {
          written = ap (λ v. guard p ++ (Word v ∷ ls)) (sym n.name) ∙ ap (λ r. guard p ++ (Word (name_of m) ∷ r)) f.same;
          formed = and_from (is_guard p) (nat_le (opcode_of m) 127 && all_fit (slots_of m) xs) there
              (and_from (nat_le (opcode_of m) 127) (all_fit (slots_of m) xs) n.opcode f.fitting);
        })

-- ---- a statement's word

-- the word of a kind
abbrev word_of : Head → List ℕ
word_of head.Desc = codes ".desc"
word_of head.Pages = codes ".pages"
word_of head.Data = codes ".data"
word_of head.Bytes = codes ".byte"
word_of head.Word32 = codes ".word"
word_of head.Space = codes ".space"
word_of head.Block = codes ".block"
word_of head.Operation = []
word_of head.Stop = []
word_of head.End = codes ".end"

all_words : list_all (λ d. bytes_eq (word_of d.1) d.0) directives ≡ true
all_words = refl

-- a word that begins a kind of statement is the kind's
kind_named : (w : List ℕ) (kind : Head) → directive_named w ≡ Some kind → word_of kind ≡ w
kind_named w kind h =
    let m = mapped (λ d. d.1) (find (λ d. bytes_eq d.0 w) directives) kind h in
    let p = found_passes (λ t. bytes_eq t.0 w) (λ t. bytes_eq (word_of t.1) t.0) directives m.0 all_words m.1 in
    ap word_of (sym m.2) ∙ (bytes_eq-Decides (word_of m.0.1) m.0.0).0 p.1 ∙ (bytes_eq-Decides m.0.0 w).0 p.0

says : (line : List Lexeme) (st : Statement) → Wrote line st → Says line st
says line st w = record { written = w.written; formed = w.formed }

-- no word is the empty one
no_kind : (kind : Head) → directive_named [] ≡ Some kind → ⊥
no_kind kind h = let k : ⊥ = cc in k

worded : (w : List ℕ) (kind : Head) → directive_named w ≡ Some kind → first kind ≡ Word w
worded w kind h = go kind (kind_named w kind h) h
  where
    go : (k : Head) → word_of k ≡ w → directive_named w ≡ Some k → first k ≡ Word w
    go head.Desc e g = ap (λ v. Word v) e
    go head.Pages e g = ap (λ v. Word v) e
    go head.Data e g = ap (λ v. Word v) e
    go head.Bytes e g = ap (λ v. Word v) e
    go head.Word32 e g = ap (λ v. Word v) e
    go head.Space e g = ap (λ v. Word v) e
    go head.Block e g = ap (λ v. Word v) e
    go head.Operation e g = absurd (no_kind head.Operation (ap directive_named e ∙ g))
    go head.Stop e g = absurd (no_kind head.Stop (ap directive_named e ∙ g))
    go head.End e g = ap (λ v. Word v) e

from_word : (w : List ℕ) (ls : List Lexeme) (st : Statement) → statement_begun (word_begun (directive_named w) w ls) ≡ Some st → Says (Word w ∷ ls) st
from_word w ls st h = go (directive_named w) refl h
  where
    go : (o : Option Head) → directive_named w ≡ o → statement_begun (word_begun o w ls) ≡ Some st → Says (Word w ∷ ls) st
    go None e g = operation_says None w ls st refl g
    go (Some kind) e g = subst (λ x. Says (x ∷ ls) st) (worded w kind e) (says (first kind ∷ ls) st (statement_written kind ls st g))

-- ---- a guard

predicate_word : (w : List ℕ) (n : ℕ) → guard_named w ≡ Some n → word_operand w ≡ Some (Predicate n)
predicate_word w n h = go (word_operand w) h
  where
    go : (o : Option Operand) → predicate_of o ≡ Some n → o ≡ Some (Predicate n)
    go (Some (Predicate k)) g = ap (λ j. Some (Predicate j)) (some_same k n g)
    go (Some (General k)) g = absurd (let c : ⊥ = cc in c)
    go (Some (Target k)) g = absurd (let c : ⊥ = cc in c)
    go (Some (Destination d)) g = absurd (let c : ⊥ = cc in c)
    go (Some (Immediate z)) g = absurd (let c : ⊥ = cc in c)
    go (Some (Named name)) g = absurd (let c : ⊥ = cc in c)
    go None g = absurd (let c : ⊥ = cc in c)

word_same : (v w : List ℕ) → (let xs : List Lexeme = Word v ∷ [] in xs) ≡ Word w ∷ [] → v ≡ w
word_same v w h = cc

behind_says : (n : ℕ) (ls : List Lexeme) (st : Statement) → is_guard (Some n) ≡ true → statement_begun (behind_guard n ls) ≡ Some st →
    Says (guard (Some n) ++ ls) st
behind_says n [] st there h = absurd (let k : ⊥ = cc in k)
behind_says n (Number z ∷ ls) st there h = absurd (let k : ⊥ = cc in k)
behind_says n (Mark c ∷ ls) st there h = absurd (let k : ⊥ = cc in k)
behind_says n (Pair ∷ ls) st there h = absurd (let k : ⊥ = cc in k)
behind_says n (Word w ∷ ls) st there h = operation_says (Some n) w ls st there h

guard_says : (ls : List Lexeme) (st : Statement) → statement_begun (in_guard ls) ≡ Some st → Says (Mark 40 ∷ ls) st
guard_says [] st h = absurd (let k : ⊥ = cc in k)
guard_says (Number z ∷ ls) st h = absurd (let k : ⊥ = cc in k)
guard_says (Mark c ∷ ls) st h = absurd (let k : ⊥ = cc in k)
guard_says (Pair ∷ ls) st h = absurd (let k : ⊥ = cc in k)
guard_says (Word w ∷ []) st h = absurd (let k : ⊥ = cc in k)
guard_says (Word w ∷ (Word v ∷ ls)) st h = absurd (let k : ⊥ = cc in k)
guard_says (Word w ∷ (Number z ∷ ls)) st h = absurd (let k : ⊥ = cc in k)
guard_says (Word w ∷ (Pair ∷ ls)) st h = absurd (let k : ⊥ = cc in k)
guard_says (Word w ∷ (Mark c ∷ ls)) st h = go (guard_named w) refl h
  where
    go : (o : Option ℕ) → guard_named w ≡ o → statement_begun (guarded o c ls) ≡ Some st → Says (Mark 40 ∷ (Word w ∷ (Mark c ∷ ls))) st
    go None e g = absurd (let k : ⊥ = cc in k)
    go (Some n) e g = by (nat_eq c 41) refl g
      where
        by : (b : Bool) → nat_eq c 41 ≡ b → statement_begun (cond b (behind_guard n ls) (Err unbegun.Operand)) ≡ Some st → Says (Mark 40 ∷ (Word w ∷ (Mark c ∷ ls))) st
        by false f k = absurd (let z : ⊥ = cc in z)
        by true f k =
            let r = read_word_written w (Predicate n) (predicate_word w n e) in
            let word = word_same (predicate n) w r.same in
            let s = behind_says n ls st r.there k in
            subst (λ v. Says (Mark 40 ∷ (Word v ∷ (Mark c ∷ ls))) st) word
            (subst (λ d. Says (Mark 40 ∷ (Word (predicate n) ∷ (Mark d ∷ ls))) st) (sym (eqb-true c 41 f)) s)

pub read_is_said : (line : List Lexeme) (st : Statement) → statement_in line ≡ Some st → Says line st
read_is_said [] st h = absurd (let k : ⊥ = cc in k)
read_is_said (Number z ∷ ls) st h = absurd (let k : ⊥ = cc in k)
read_is_said (Pair ∷ ls) st h = says (Pair ∷ ls) st (statement_written head.Stop ls st h)
read_is_said (Word w ∷ ls) st h = from_word w ls st h
read_is_said (Mark c ∷ ls) st h = go (nat_eq c 40) refl h
  where
    go : (b : Bool) → nat_eq c 40 ≡ b → statement_begun (cond b (in_guard ls) (Err unbegun.Mnemonic)) ≡ Some st → Says (Mark c ∷ ls) st
    go false e g = absurd (let k : ⊥ = cc in k)
    go true e g = subst (λ d. Says (Mark d ∷ ls) st) (sym (eqb-true c 40 e)) (guard_says ls st g)
