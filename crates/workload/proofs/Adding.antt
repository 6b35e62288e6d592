-- Blocks that are added one by one.
use Rattle.std.proofs.Common.{◌≡◌, ℕ, suc, ◌+◌, ◌-◌, ◌*◌, ◌<◌, ◌≤◌, Bool, List, [], ◌∷◌, ◌++◌, length, append_assoc, Result, Ok, Err, OnOk, sym, ap, ◌∙◌, arith, add-one}
use Rattle.std.specs.Prelude.{map, nat_eq}
use Rattle.std.specs.List.{range_with_len}
use Rattle.std.proofs.lemmas.List.{length-append, length-replicate}
use Rattle.image_format.specs.declared.Row.{Row}
use Rattle.workload.specs.Draws.{after}
use Rattle.workload.specs.Layout.{placed, row, rows_from, zeros, words_from}
use Rattle.workload.specs.Adding.{placed_words}
use Rattle.workload.specs.Generated.{block, block_words}
use Rattle.workload.proofs.Stepping.{after_add}
use Rattle.workload.proofs.Placing.{is_placed}

pub whatever : {E : Type 0} (r : Result Unit E) (P : Type 0) → P → OnOk r P
whatever (Ok u) P p = p
whatever (Err e) P p = tt

-- ---- one block

-- the gap ends at the block's place
pub gap_length : (old new : List ℕ) (n : ℕ) → n ≤ 512 → new ≡ old ++ zeros (length old) (placed (length old) n) →
    length new ≡ placed (length old) n
gap_length old new n few h =
    let at = placed (length old) n in
    let behind = (is_placed (length old) n few).behind in
    let gap = length-replicate {A = ℕ} (at - length old) 0 in
    ap length h ∙ length-append old (zeros (length old) at) ∙ (let e : length old + length (zeros (length old) at) ≡ at = omega arith in e)

pub row_added : (cursor n entry : ℕ) (b : List ℕ) (old new : List Row) → n ≡ length b → entry ≡ placed cursor n →
    new ≡ old ++ row entry n ∷ [] →
    new ≡ old ++ rows_from cursor (b ∷ [])
row_added cursor n entry b old new a e h = h ∙ ap (λ m. old ++ row m n ∷ []) e ∙ ap (λ m. old ++ row (placed cursor m) m ∷ []) a

pub words_added : (n : ℕ) (b old middle new : List ℕ) → n ≡ length b →
    middle ≡ old ++ zeros (length old) (placed (length old) n) → new ≡ middle ++ b →
    new ≡ old ++ placed_words (length old) b
words_added n b old middle new a e h =
    h ∙ ap (λ ws. ws ++ b) e ∙ ap (λ m. (old ++ zeros (length old) (placed (length old) m)) ++ b) a
    ∙ append_assoc old (zeros (length old) (placed (length old) (length b))) b

-- ---- all blocks

-- the words reach to the block's end
pub added_length : (old new b : List ℕ) → length b ≤ 512 → new ≡ old ++ placed_words (length old) b →
    length new ≡ placed (length old) (length b) + length b
added_length old new b few h =
    let at = placed (length old) (length b) in
    let behind = (is_placed (length old) (length b) few).behind in
    let gap = length-replicate {A = ℕ} (at - length old) 0 in
    let one = length-append old (placed_words (length old) b) in
    let two = length-append (zeros (length old) at) b in
    ap length h ∙ (let e : length (old ++ placed_words (length old) b) ≡ at + length b = omega arith in e)

-- the rows so far and those of the blocks that are left are all rows
pub rows_go_on : (cursor next : ℕ) (b : List ℕ) (rest : List (List ℕ)) (old new all : List Row) →
    next ≡ placed cursor (length b) + length b →
    old ++ rows_from cursor (b ∷ rest) ≡ all → new ≡ old ++ rows_from cursor (b ∷ []) → new ++ rows_from next rest ≡ all
rows_go_on cursor next b rest old new all n h e =
    ap (λ rs. rs ++ rows_from next rest) e
    ∙ append_assoc old (rows_from cursor (b ∷ [])) (rows_from next rest)
    ∙ ap (λ m. old ++ (row (placed cursor (length b)) (length b) ∷ rows_from m rest)) n ∙ h

pub words_go_on : (next : ℕ) (b : List ℕ) (rest : List (List ℕ)) (old new all : List ℕ) → next ≡ placed (length old) (length b) + length b →
    old ++ words_from (length old) (b ∷ rest) ≡ all → new ≡ old ++ placed_words (length old) b → new ++ words_from next rest ≡ all
words_go_on next b rest old new all n h e =
    let at = placed (length old) (length b) in
    ap (λ ws. ws ++ words_from next rest) e
    ∙ append_assoc old (placed_words (length old) b) (words_from next rest)
    ∙ ap (λ ws. old ++ ws) (append_assoc (zeros (length old) at) b (words_from next rest))
    ∙ ap (λ m. old ++ (zeros (length old) at ++ (b ++ words_from m rest))) n ∙ h

-- the blocks that are left
abbrev pub left : (number blocks ops i : ℕ) → List (List ℕ)
left number blocks ops i = map (block number blocks ops) (range_with_len i (blocks - i))

pub one_left : (number blocks ops i : ℕ) → i < blocks →
    left number blocks ops i ≡ block number blocks ops i ∷ left number blocks ops (i + 1)
one_left number blocks ops i lt =
    let n : blocks - i ≡ suc (blocks - (i + 1)) = omega arith in
    ap (λ m. map (block number blocks ops) (range_with_len i m)) n

-- the block that is added is the block i
pub block_is : (number blocks ops i x : ℕ) (last : Bool) → x ≡ after (5 * (i * (ops - 1))) number → last ≡ nat_eq (i + 1) blocks →
    block_words i ops last x ≡ block number blocks ops i
block_is number blocks ops i x last a b =
    ap (block_words i ops last) a
    ∙ ap (λ t. block_words i ops t (after (5 * (i * (ops - 1))) number)) (b ∙ ap (λ n. nat_eq n blocks) (add-one i))

-- the next one's draws begin behind its own
pub next_state : (number i m x y : ℕ) → x ≡ after (5 * (i * m)) number → y ≡ after (5 * m) x → y ≡ after (5 * ((i + 1) * m)) number
next_state number i m x y e h =
    let n : 5 * m + 5 * (i * m) ≡ 5 * ((i + 1) * m) = omega arith in
    h ∙ ap (after (5 * m)) e ∙ sym (after_add (5 * m) (5 * (i * m)) number) ∙ ap (λ k. after k number) n
