-- Lines other than operations, both ways.
use Rattle.std.proofs.Common.{◌≡◌, ℕ, Bool, true, false, List, [], ◌∷◌, length, map, Some, None, refl, ap, ◌∙◌, subst}
use Rattle.std.specs.Prelude.{ℤ, nat_eq, nat_le, bytes_eq, Option, option_map, option_and_then, codes}
use Rattle.std.specs.List.{list_all}
use Rattle.std.proofs.lemmas.Bool.{eqb-true}
use Rattle.std.proofs.lemmas.Slice.Eq.{bytes_eq-Decides}
use Rattle.asm_syntax.specs.declared.heads.Head.{Head}
use Rattle.asm_syntax.specs.declared.heads.Head.TheVariants as head
use Rattle.asm_syntax.specs.Lexemes.{Lexeme, Word, Number, Mark, Pair}
use Rattle.asm_syntax.specs.Spellings.{is_name}
use Rattle.asm_syntax.specs.Statements.{Statement, Desc, Pages, Data, Bytes, Word32, Space, Block, Operation, Stop, End, numbers, address, pause, line_of, is_described, is_formed}
use Rattle.asm_syntax.specs.StatementReading.{checked, is_number, number_of, numbers_in, number_in, nothing_in, address_in, pause_in, data_with, block_with, statement_of, statement_in}
use Rattle.asm_syntax.proofs.Lines.{behind, mapped}

some_same : {X : Type 0} (x y : X) → Some x ≡ Some y → x ≡ y
some_same x y h = cc

pub let_through : {X : Type 0} (b : Bool) (x y : X) → checked b x ≡ Some y → (b ≡ true) × (x ≡ y)
let_through true x y h = (refl, some_same x y h)
let_through false x y h = absurd (let k : ⊥ = cc in k)

-- ---- parts, as they are read and written

all_written : (ls : List Lexeme) → list_all is_number ls ≡ true → ls ≡ numbers (map number_of ls)
all_written [] h = refl
all_written (Number z ∷ ls) h = ap (λ r. Number z ∷ r) (all_written ls h)
all_written (Word w ∷ ls) h = absurd (let k : ⊥ = cc in k)
all_written (Mark c ∷ ls) h = absurd (let k : ⊥ = cc in k)
all_written (Pair ∷ ls) h = absurd (let k : ⊥ = cc in k)

numbers_written : (ls : List Lexeme) (ns : List ℤ) → numbers_in ls ≡ Some ns → ls ≡ numbers ns
numbers_written ls ns h =
    let p = let_through (list_all is_number ls) (map number_of ls) ns h in
    all_written ls p.0 ∙ ap numbers p.1

all_numbers : (ns : List ℤ) → list_all is_number (numbers ns) ≡ true
all_numbers [] = refl
all_numbers (z ∷ ns) = all_numbers ns

same_numbers : (ns : List ℤ) → map number_of (numbers ns) ≡ ns
same_numbers [] = refl
same_numbers (z ∷ ns) = ap (λ ms. z ∷ ms) (same_numbers ns)

numbers_read : (ns : List ℤ) → numbers_in (numbers ns) ≡ Some ns
numbers_read ns =
    ap (λ b. checked b (map number_of (numbers ns))) (all_numbers ns) ∙ ap (λ (ms : List ℤ). Some ms) (same_numbers ns)

number_written : (ls : List Lexeme) (z : ℤ) → number_in ls ≡ Some z → ls ≡ Number z ∷ []
number_written [] z h = absurd (let k : ⊥ = cc in k)
number_written (Number y ∷ []) z h = ap (λ n. Number n ∷ []) (some_same y z h)
number_written (Number y ∷ (l ∷ ls)) z h = absurd (let k : ⊥ = cc in k)
number_written (Word w ∷ ls) z h = absurd (let k : ⊥ = cc in k)
number_written (Mark c ∷ ls) z h = absurd (let k : ⊥ = cc in k)
number_written (Pair ∷ ls) z h = absurd (let k : ⊥ = cc in k)

address_written : (ls : List Lexeme) (at : Option ℤ) → address_in ls ≡ Some at → ls ≡ address at
address_written [] at h = ap address (some_same None at h)
address_written (Mark c ∷ (Number z ∷ [])) at h =
    let p = let_through (nat_eq c 64) (Some z) at h in
    ap (λ k. Mark k ∷ (Number z ∷ [])) (eqb-true c 64 p.0) ∙ ap address p.1
address_written (Mark c ∷ []) at h = absurd (let k : ⊥ = cc in k)
address_written (Mark c ∷ (Number z ∷ (l ∷ ls))) at h = absurd (let k : ⊥ = cc in k)
address_written (Mark c ∷ (Word w ∷ ls)) at h = absurd (let k : ⊥ = cc in k)
address_written (Mark c ∷ (Mark d ∷ ls)) at h = absurd (let k : ⊥ = cc in k)
address_written (Mark c ∷ (Pair ∷ ls)) at h = absurd (let k : ⊥ = cc in k)
address_written (Number z ∷ ls) at h = absurd (let k : ⊥ = cc in k)
address_written (Word w ∷ ls) at h = absurd (let k : ⊥ = cc in k)
address_written (Pair ∷ ls) at h = absurd (let k : ⊥ = cc in k)

address_read : (at : Option ℤ) → address_in (address at) ≡ Some at
address_read None = refl
address_read (Some z) = refl

pause_written : (ls : List Lexeme) (n : Option ℤ) → pause_in ls ≡ Some n → ls ≡ pause n
pause_written [] n h = ap pause (some_same None n h)
pause_written (Word w ∷ (Number z ∷ [])) n h =
    let p = let_through (bytes_eq w (codes "pause")) (Some z) n h in
    ap (λ v. Word v ∷ (Number z ∷ [])) ((bytes_eq-Decides w (codes "pause")).0 p.0) ∙ ap pause p.1
pause_written (Word w ∷ []) n h = absurd (let k : ⊥ = cc in k)
pause_written (Word w ∷ (Number z ∷ (l ∷ ls))) n h = absurd (let k : ⊥ = cc in k)
pause_written (Word w ∷ (Word v ∷ ls)) n h = absurd (let k : ⊥ = cc in k)
pause_written (Word w ∷ (Mark d ∷ ls)) n h = absurd (let k : ⊥ = cc in k)
pause_written (Word w ∷ (Pair ∷ ls)) n h = absurd (let k : ⊥ = cc in k)
pause_written (Number z ∷ ls) n h = absurd (let k : ⊥ = cc in k)
pause_written (Mark c ∷ ls) n h = absurd (let k : ⊥ = cc in k)
pause_written (Pair ∷ ls) n h = absurd (let k : ⊥ = cc in k)

pause_read : (n : Option ℤ) → pause_in (pause n) ≡ Some n
pause_read None = refl
pause_read (Some z) = refl

-- ---- what stands behind a statement's word

-- the first lexeme of a kind
abbrev pub first : Head → Lexeme
first head.Desc = Word (codes ".desc")
first head.Pages = Word (codes ".pages")
first head.Data = Word (codes ".data")
first head.Bytes = Word (codes ".byte")
first head.Word32 = Word (codes ".word")
first head.Space = Word (codes ".space")
first head.Block = Word (codes ".block")
first head.Operation = Pair
first head.Stop = Pair
first head.End = Word (codes ".end")

-- a statement that a line writes
pub record Wrote (line : List Lexeme) (st : Statement) : Type 0 where
  pub written : line ≡ line_of st
  pub formed : is_formed st ≡ true

wrote : (line : List Lexeme) (st su : Statement) → st ≡ su → line ≡ line_of st → is_formed st ≡ true → Wrote line su
wrote line st su e w f = subst (Wrote line) e (record { written = w; formed = f })

pub statement_written : (kind : Head) (rest : List Lexeme) (st : Statement) → statement_of kind rest ≡ Some st → Wrote (first kind ∷ rest) st
statement_written head.Desc rest st h =
    let b = behind (λ ns. checked (is_described ns) (Desc ns)) (numbers_in rest) st h in
    let p = let_through (is_described b.0) (Desc b.0) st b.2 in
    wrote (first head.Desc ∷ rest) (Desc b.0) st p.1 (ap (λ r. first head.Desc ∷ r) (numbers_written rest b.0 b.1)) p.0
statement_written head.Pages rest st h =
    let m = mapped Pages (number_in rest) st h in
    wrote (first head.Pages ∷ rest) (Pages m.0) st m.2 (ap (λ r. first head.Pages ∷ r) (number_written rest m.0 m.1)) refl
statement_written head.Bytes rest st h =
    let b = behind (λ ns. checked (nat_le 1 (length ns)) (Bytes ns)) (numbers_in rest) st h in
    let p = let_through (nat_le 1 (length b.0)) (Bytes b.0) st b.2 in
    wrote (first head.Bytes ∷ rest) (Bytes b.0) st p.1 (ap (λ r. first head.Bytes ∷ r) (numbers_written rest b.0 b.1)) p.0
statement_written head.Word32 rest st h =
    let m = mapped Word32 (number_in rest) st h in
    wrote (first head.Word32 ∷ rest) (Word32 m.0) st m.2 (ap (λ r. first head.Word32 ∷ r) (number_written rest m.0 m.1)) refl
statement_written head.Space rest st h =
    let m = mapped Space (number_in rest) st h in
    wrote (first head.Space ∷ rest) (Space m.0) st m.2 (ap (λ r. first head.Space ∷ r) (number_written rest m.0 m.1)) refl
statement_written head.Operation rest st h = absurd (let k : ⊥ = cc in k)
statement_written head.Stop rest st h =
    let m = mapped Stop (pause_in rest) st h in
    wrote (Pair ∷ rest) (Stop m.0) st m.2 (ap (λ r. Pair ∷ r) (pause_written rest m.0 m.1)) refl
statement_written head.End [] st h = wrote (first head.End ∷ []) End st (some_same End st h) refl refl
statement_written head.End (l ∷ ls) st h = absurd (let k : ⊥ = cc in k)
statement_written head.Data [] st h = absurd (let k : ⊥ = cc in k)
statement_written head.Data (Number z ∷ ls) st h = absurd (let k : ⊥ = cc in k)
statement_written head.Data (Mark c ∷ ls) st h = absurd (let k : ⊥ = cc in k)
statement_written head.Data (Pair ∷ ls) st h = absurd (let k : ⊥ = cc in k)
statement_written head.Data (Word w ∷ ls) st h = go (is_name w) refl h
  where
    go : (b : Bool) → is_name w ≡ b → option_and_then data_with (checked b (w, ls)) ≡ Some st → Wrote (first head.Data ∷ (Word w ∷ ls)) st
    go false e g = absurd (let k : ⊥ = cc in k)
    go true e g = by ls g
      where
        by : (rs : List Lexeme) → option_map (λ _. Data w) (nothing_in rs) ≡ Some st → Wrote (first head.Data ∷ (Word w ∷ rs)) st
        by [] k = wrote (first head.Data ∷ (Word w ∷ [])) (Data w) st (some_same (Data w) st k) refl e
        by (r ∷ rs) k = absurd (let c : ⊥ = cc in c)
statement_written head.Block [] st h = absurd (let k : ⊥ = cc in k)
statement_written head.Block (Number z ∷ ls) st h = absurd (let k : ⊥ = cc in k)
statement_written head.Block (Mark c ∷ ls) st h = absurd (let k : ⊥ = cc in k)
statement_written head.Block (Pair ∷ ls) st h = absurd (let k : ⊥ = cc in k)
statement_written head.Block (Word w ∷ ls) st h = go (is_name w) refl h
  where
    go : (b : Bool) → is_name w ≡ b → option_and_then block_with (checked b (w, ls)) ≡ Some st → Wrote (first head.Block ∷ (Word w ∷ ls)) st
    go false e g = absurd (let k : ⊥ = cc in k)
    go true e g =
        let m = mapped (λ at. Block w at) (address_in ls) st g in
        wrote (first head.Block ∷ (Word w ∷ ls)) (Block w m.0) st m.2 (ap (λ r. first head.Block ∷ (Word w ∷ r)) (address_written ls m.0 m.1)) e

-- ---- a statement's line is read as it

abbrev pub is_operation : Statement → Bool
is_operation (Operation p m xs) = true
is_operation _ = false

named_data : (name : List ℕ) → is_name name ≡ true → statement_in (line_of (Data name)) ≡ Some (Data name)
named_data name h = ap (λ b. option_and_then data_with (checked b (name, []))) h

named_block : (name : List ℕ) (at : Option ℤ) → is_name name ≡ true → statement_in (line_of (Block name at)) ≡ Some (Block name at)
named_block name at h =
    ap (λ b. option_and_then block_with (checked b (name, address at))) h
    ∙ ap (option_map (λ a. Block name a)) (address_read at)

pub line_read : (st : Statement) → is_formed st ≡ true → is_operation st ≡ false → statement_in (line_of st) ≡ Some st
line_read (Desc ns) h k = ap (option_and_then (λ ms. checked (is_described ms) (Desc ms))) (numbers_read ns) ∙ ap (λ b. checked b (Desc ns)) h
line_read (Pages n) h k = refl
line_read (Data name) h k = named_data name h
line_read (Bytes ns) h k = ap (option_and_then (λ ms. checked (nat_le 1 (length ms)) (Bytes ms))) (numbers_read ns) ∙ ap (λ b. checked b (Bytes ns)) h
line_read (Word32 n) h k = refl
line_read (Space n) h k = refl
line_read (Block name at) h k = named_block name at h
line_read (Operation p m xs) h k = absurd (let c : ⊥ = cc in c)
line_read (Stop n) h k = ap (option_map Stop) (pause_read n)
line_read End h k = refl
