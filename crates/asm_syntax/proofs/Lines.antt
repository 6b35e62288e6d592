-- Operands, both ways: what a line's operands are read as is what writes them.
use Rattle.std.proofs.Common.{◌≡◌, Bool, true, false, cond, ◌&&◌, List, [], ◌∷◌, ◌++◌, Some, None, refl, sym, ap, ◌∙◌, subst}
use Rattle.std.specs.Prelude.{nat_eq, Option, option_map, option_and_then, codes}
use Rattle.std.proofs.lemmas.Bool.{and_parts, and_from, eqb-true}
use Rattle.list_encoding.specs.declared.shapes.Slot.{Slot}
use Rattle.asm_syntax.specs.Lexemes.{Lexeme, Word, Number, Mark, Pair}
use Rattle.asm_syntax.specs.Spellings.{is_name, general, predicate, target, action_name}
use Rattle.asm_syntax.specs.Operands.{Operand, General, Predicate, Target, Destination, Immediate, Named, is_operand, operand_lexemes, further_lexemes, operands_lexemes}
use Rattle.asm_syntax.specs.Fitting.{fits, all_fit}
use Rattle.asm_syntax.specs.Reading.{word_operand, operand_in, behind_comma, operand_for, next_operand, further_operands, operands_in}
use Rattle.asm_syntax.proofs.Words.{written_word_read, read_word_written}

-- ---- an operand

-- an operand with what stands behind it writes the line
pub record Begins (line : List Lexeme) (x : Operand) (rest : List Lexeme) : Type 0 where
  pub written : line ≡ operand_lexemes x ++ rest
  pub there : is_operand x ≡ true

some_same : {X : Type 0} (x y : X) → Some x ≡ Some y → x ≡ y
some_same x y h = cc

pair_same : {A B : Type 0} (p q : A × B) → Some p ≡ Some q → (p.0 ≡ q.0) × (p.1 ≡ q.1)
pair_same p q h = let e = some_same p q h in (ap (λ t. t.0) e, ap (λ t. t.1) e)

-- an operand with what stands behind it
abbrev found : Operand → List Lexeme → Option (Operand × List Lexeme)
found x rest = Some (x, rest)

abbrev with_rest : List Lexeme → Operand → Operand × List Lexeme
with_rest rest x = (x, rest)

begins : (line rest' : List Lexeme) (x y : Operand) (rest : List Lexeme) → line ≡ operand_lexemes y ++ rest' → is_operand y ≡ true → found y rest' ≡ found x rest → Begins line x rest
begins line rest' x y rest written there h =
    let p = pair_same (y, rest') (x, rest) h in
    record {
      written = written ∙ ap (λ r. operand_lexemes y ++ r) p.1 ∙ ap (λ z. operand_lexemes z ++ rest) p.0;
      there = ap is_operand (sym p.0) ∙ there;
    }

pub operand_begins : (line : List Lexeme) (x : Operand) (rest : List Lexeme) → operand_in line ≡ Some (x, rest) → Begins line x rest
operand_begins [] x rest h = absurd (let k : ⊥ = cc in k)
operand_begins (Word w ∷ rest') x rest h = go (word_operand w) refl h
  where
    go : (o : Option Operand) → word_operand w ≡ o → option_map (with_rest rest') o ≡ Some (x, rest) → Begins (Word w ∷ rest') x rest
    go None e g = absurd (let k : ⊥ = cc in k)
    go (Some y) e g =
        let r = read_word_written w y e in
        begins (Word w ∷ rest') rest' x y rest (ap (λ l. l ++ rest') (sym r.same)) r.there g
operand_begins (Number z ∷ rest') x rest h = begins (Number z ∷ rest') rest' x (Immediate z) rest refl refl h
operand_begins (Mark c ∷ (Word w ∷ rest')) x rest h = go (nat_eq c 64 && is_name w) refl h
  where
    go : (b : Bool) → (nat_eq c 64 && is_name w) ≡ b → cond b (found (Named w) rest') None ≡ Some (x, rest) → Begins (Mark c ∷ (Word w ∷ rest')) x rest
    go false e g = absurd (let k : ⊥ = cc in k)
    go true e g =
        let p = and_parts (nat_eq c 64) (is_name w) e in
        begins (Mark c ∷ (Word w ∷ rest')) rest' x (Named w) rest (ap (λ k. Mark k ∷ (Word w ∷ rest')) (eqb-true c 64 p.0)) p.1 g
operand_begins (Mark c ∷ []) x rest h = absurd (let k : ⊥ = cc in k)
operand_begins (Mark c ∷ (Number z ∷ rest')) x rest h = absurd (let k : ⊥ = cc in k)
operand_begins (Mark c ∷ (Mark d ∷ rest')) x rest h = absurd (let k : ⊥ = cc in k)
operand_begins (Mark c ∷ (Pair ∷ rest')) x rest h = absurd (let k : ⊥ = cc in k)
operand_begins (Pair ∷ rest') x rest h = absurd (let k : ⊥ = cc in k)

pub begun_operand : (x : Operand) (rest : List Lexeme) → is_operand x ≡ true → operand_in (operand_lexemes x ++ rest) ≡ Some (x, rest)
begun_operand (General n) rest h = ap (option_map (with_rest rest)) (written_word_read (General n) (general n) h refl)
begun_operand (Predicate n) rest h = ap (option_map (with_rest rest)) (written_word_read (Predicate n) (predicate n) h refl)
begun_operand (Target n) rest h = ap (option_map (with_rest rest)) (written_word_read (Target n) (target n) h refl)
begun_operand (Destination d) rest h = ap (option_map (with_rest rest)) (written_word_read (Destination d) (predicate d.p ++ (codes "." ++ action_name d.action)) h refl)
begun_operand (Immediate z) rest h = refl
begun_operand (Named name) rest h = ap (λ b. cond b (found (Named name) rest) None) h

-- ---- an operand for a slot

-- it may stand there too
pub record Fills (slot : Slot) (line : List Lexeme) (x : Operand) (rest : List Lexeme) : Type 0 where
  pub begins : Begins line x rest
  pub fitting : (is_operand x && fits slot x) ≡ true

operand_fills : (slot : Slot) (line : List Lexeme) (x : Operand) (rest : List Lexeme) → operand_for slot line ≡ Some (x, rest) → Fills slot line x rest
operand_fills slot line x rest h = go (operand_in line) refl h
  where
    go : (o : Option (Operand × List Lexeme)) → operand_in line ≡ o → option_and_then (λ r. cond (fits slot r.0) (Some r) None) o ≡ Some (x, rest) → Fills slot line x rest
    go None e g = absurd (let k : ⊥ = cc in k)
    go (Some r) e g = by (fits slot r.0) refl g
      where
        by : (b : Bool) → fits slot r.0 ≡ b → cond b (Some r) None ≡ Some (x, rest) → Fills slot line x rest
        by false f k = absurd (let c : ⊥ = cc in c)
        by true f k =
            let p = pair_same r (x, rest) k in
            let same = some_same r (x, rest) k in
            let b = operand_begins line x rest (e ∙ ap (λ t. Some t) same) in
            record { begins = b; fitting = and_from (is_operand x) (fits slot x) b.there (ap (fits slot) (sym p.0) ∙ f) }

filled_operand : (slot : Slot) (x : Operand) (rest : List Lexeme) → (is_operand x && fits slot x) ≡ true → operand_for slot (operand_lexemes x ++ rest) ≡ Some (x, rest)
filled_operand slot x rest h =
    let p = and_parts (is_operand x) (fits slot x) h in
    ap (option_and_then (λ r. cond (fits slot r.0) (Some r) None)) (begun_operand x rest p.0) ∙ ap (λ b. cond b (found x rest) None) p.1

-- ---- operands for slots

-- operands that write a line and may stand in the slots
pub record Fill (slots : List Slot) (line written : List Lexeme) (xs : List Operand) : Type 0 where
  pub same : line ≡ written
  pub fitting : all_fit slots xs ≡ true

comma_behind : (line rest : List Lexeme) → behind_comma line ≡ Some rest → line ≡ Mark 44 ∷ rest
comma_behind [] rest h = absurd (let k : ⊥ = cc in k)
comma_behind (Word w ∷ ls) rest h = absurd (let k : ⊥ = cc in k)
comma_behind (Number z ∷ ls) rest h = absurd (let k : ⊥ = cc in k)
comma_behind (Pair ∷ ls) rest h = absurd (let k : ⊥ = cc in k)
comma_behind (Mark c ∷ ls) rest h = go (nat_eq c 44) refl h
  where
    go : (b : Bool) → nat_eq c 44 ≡ b → cond b (Some ls) None ≡ Some rest → Mark c ∷ ls ≡ Mark 44 ∷ rest
    go false e g = absurd (let k : ⊥ = cc in k)
    go true e g = ap (λ k. Mark k ∷ ls) (eqb-true c 44 e) ∙ ap (λ r. Mark 44 ∷ r) (some_same ls rest g)

-- an option of a mapped one
pub mapped : {X Y : Type 0} (f : X → Y) (o : Option X) (y : Y) → option_map f o ≡ Some y → (x : X) × (o ≡ Some x) × (f x ≡ y)
mapped f None y h = absurd (let k : ⊥ = cc in k)
mapped f (Some x) y h = (x, refl, some_same (f x) y h)

-- an option behind another
pub behind : {X Y : Type 0} (f : X → Option Y) (o : Option X) (y : Y) → option_and_then f o ≡ Some y → (x : X) × (o ≡ Some x) × (f x ≡ Some y)
behind f None y h = absurd (let k : ⊥ = cc in k)
behind f (Some x) y h = (x, refl, h)

further_fill : (slots : List Slot) (line : List Lexeme) (xs : List Operand) → further_operands slots line ≡ Some xs → Fill slots line (further_lexemes xs) xs
further_fill [] [] [] h = record { same = refl; fitting = refl }
further_fill [] [] (x ∷ xs) h = absurd (let k : ⊥ = cc in k)
further_fill [] (l ∷ line) xs h = absurd (let k : ⊥ = cc in k)
further_fill (slot ∷ slots) line xs h =
    let o = behind (λ r. option_map (λ ys. r.0 ∷ ys) (further_operands slots r.1)) (next_operand slot line) xs h in
    let c = behind (operand_for slot) (behind_comma line) o.0 o.1 in
    let m = mapped (λ ys. o.0.0 ∷ ys) (further_operands slots o.0.1) xs o.2 in
    let x = o.0.0 in
    let f : Fills slot c.0 x o.0.1 = operand_fills slot c.0 x o.0.1 c.2 in
    let g = further_fill slots o.0.1 m.0 m.1 in
    let P : List Operand → Type 0 = λ ys. Fill (slot ∷ slots) line (further_lexemes ys) ys in
    subst P m.2 (record {
      same = comma_behind line c.0 c.1 ∙ ap (λ r. Mark 44 ∷ r) (f.begins.written ∙ ap (λ r. operand_lexemes x ++ r) g.same);
      fitting = and_from (is_operand x && fits slot x) (all_fit slots m.0) f.fitting g.fitting;
    })

pub fill : (slots : List Slot) (line : List Lexeme) (xs : List Operand) → operands_in slots line ≡ Some xs → Fill slots line (operands_lexemes xs) xs
fill [] line xs h = absurd (let k : ⊥ = cc in k)
fill (slot ∷ slots) line xs h =
    let o = behind (λ r. option_map (λ ys. r.0 ∷ ys) (further_operands slots r.1)) (operand_for slot line) xs h in
    let m = mapped (λ ys. o.0.0 ∷ ys) (further_operands slots o.0.1) xs o.2 in
    let x = o.0.0 in
    let f : Fills slot line x o.0.1 = operand_fills slot line x o.0.1 o.1 in
    let g = further_fill slots o.0.1 m.0 m.1 in
    let P : List Operand → Type 0 = λ ys. Fill (slot ∷ slots) line (operands_lexemes ys) ys in
    subst P m.2 (record {
      same = f.begins.written ∙ ap (λ r. operand_lexemes x ++ r) g.same;
      fitting = and_from (is_operand x && fits slot x) (all_fit slots m.0) f.fitting g.fitting;
    })

further_filled : (slots : List Slot) (xs : List Operand) → all_fit slots xs ≡ true → further_operands slots (further_lexemes xs) ≡ Some xs
further_filled [] [] h = refl
further_filled [] (x ∷ xs) h = absurd (let k : ⊥ = cc in k)
further_filled (slot ∷ slots) [] h = absurd (let k : ⊥ = cc in k)
further_filled (slot ∷ slots) (x ∷ xs) h =
    let p = and_parts (is_operand x && fits slot x) (all_fit slots xs) h in
    ap (option_and_then (λ r. option_map (λ ys. r.0 ∷ ys) (further_operands slots r.1))) (filled_operand slot x (further_lexemes xs) p.0)
    ∙ ap (option_map (λ ys. x ∷ ys)) (further_filled slots xs p.1)

pub filled : (slot : Slot) (slots : List Slot) (xs : List Operand) → all_fit (slot ∷ slots) xs ≡ true → operands_in (slot ∷ slots) (operands_lexemes xs) ≡ Some xs
filled slot slots [] h = absurd (let k : ⊥ = cc in k)
filled slot slots (x ∷ xs) h =
    let p = and_parts (is_operand x && fits slot x) (all_fit slots xs) h in
    ap (option_and_then (λ r. option_map (λ ys. r.0 ∷ ys) (further_operands slots r.1))) (filled_operand slot x (further_lexemes xs) p.0)
    ∙ ap (option_map (λ ys. x ∷ ys)) (further_filled slots xs p.1)
