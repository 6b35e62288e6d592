-- Blocks that follow one another stand in their rows, with zeros between them.
use Rattle.std.proofs.Common.{◌≡◌, ℕ, zero, suc, ◌+◌, ◌-◌, ◌*◌, ◌%◌, ◌^◌, ◌<◌, ◌≤◌, true, ◌&&◌, List, [], ◌∷◌, ◌++◌, length, get_or, take, drop, refl, sym, ap, ◌∙◌, arith, ◌⊎◌, inl, inr}
use Rattle.std.specs.Prelude.{All, map, nat_le, nat_lt}
use Rattle.std.proofs.lemmas.Bool.{cases_lt, and_from, le-leb, lt-ltb, or_left, or_right}
use Rattle.std.proofs.lemmas.List.{length-append, length-replicate, get_or-replicate, get_or_append_left, get_or-append-add}
use Rattle.std.proofs.lemmas.List.Elements.{All-append, All-replicate, All-nil, All-cons}
use Rattle.std.proofs.Math.Seq.{drop-append_seam, take-append_seam, drop-append-add}
use Rattle.block_table.specs.Rows.{Rows, entry_of, count_of, end_of}
use Rattle.block_table.specs.Padding.{is_in_block}
use Rattle.image_format.specs.declared.Row.{Row}
use Rattle.image_format.specs.Laws.{IsRow}
use Rattle.workload.specs.Layout.{placed, page_end, row, rows_from, zeros, words_from}
use Rattle.workload.proofs.Placing.{fits, is_placed, is_end}

-- 1 to 512 words of 64 bits
pub record IsBlock (block : List ℕ) : Type 0 where
  pub some : 1 ≤ length block
  pub few : length block ≤ 512
  pub small : All (λ w. w < 2 ^ 64) block

abbrev pub AreBlocks : List (List ℕ) → Type 0
AreBlocks [] = Unit {0}
AreBlocks (block ∷ blocks) = IsBlock block × AreBlocks blocks

-- the block table from the cursor on
abbrev pub table : ℕ → List (List ℕ) → Rows
table cursor blocks = map (λ (r : Row). (r.entry, r.count)) (rows_from cursor blocks)

pub as_many : (cursor : ℕ) (blocks : List (List ℕ)) → length (rows_from cursor blocks) ≡ length blocks
as_many cursor [] = refl
as_many cursor (b ∷ bs) = let rest = as_many (placed cursor (length b) + length b) bs in omega arith

-- how long the words of the blocks are
pub length_more : (cursor : ℕ) (b : List ℕ) (bs : List (List ℕ)) → IsBlock b →
    cursor + length (words_from cursor (b ∷ bs)) ≡
    placed cursor (length b) + length b + length (words_from (placed cursor (length b) + length b) bs)
length_more cursor b bs h =
    let at = placed cursor (length b) in
    let p = is_placed cursor (length b) h.few in
    let behind = p.behind in
    let rest = words_from (at + length b) bs in
    let gap = length-replicate {A = ℕ} (at - cursor) 0 in
    let one = length-append (zeros cursor at) (b ++ rest) in
    let two = length-append b rest in
    omega arith

length_none : (cursor : ℕ) → cursor + length (words_from cursor []) ≡ page_end cursor
length_none cursor =
    let e = is_end cursor in
    let behind = e.behind in
    let gap = length-replicate {A = ℕ} (page_end cursor - cursor) 0 in
    omega arith

-- pages are whole
pub whole_pages : (cursor : ℕ) (blocks : List (List ℕ)) → AreBlocks blocks → (cursor + length (words_from cursor blocks)) % 512 ≡ 0
whole_pages cursor [] h = ap (λ n. n % 512) (length_none cursor) ∙ (is_end cursor).whole
whole_pages cursor (b ∷ bs) h = ap (λ n. n % 512) (length_more cursor b bs h.0) ∙ whole_pages (placed cursor (length b) + length b) bs h.1

-- a page for each block will do
pub pages_bound : (cursor n : ℕ) (blocks : List (List ℕ)) → AreBlocks blocks → cursor ≤ 512 * n →
    cursor + length (words_from cursor blocks) ≤ 512 * (n + length blocks)
pages_bound cursor n [] h near =
    let e = (is_end cursor).near n near in
    let l = length_none cursor in
    omega arith
pages_bound cursor n (b ∷ bs) h near =
    let p = (is_placed cursor (length b) h.0.few).near n near in
    let rest = pages_bound (placed cursor (length b) + length b) (n + 1) bs h.1 p in
    let l = length_more cursor b bs h.0 in
    omega arith

-- there is a word for each block
pub blocks_bound : (cursor : ℕ) (blocks : List (List ℕ)) → AreBlocks blocks → length blocks ≤ length (words_from cursor blocks)
blocks_bound cursor [] h = omega arith
blocks_bound cursor (b ∷ bs) h =
    let some = h.0.some in
    let p = (is_placed cursor (length b) h.0.few).behind in
    let rest = blocks_bound (placed cursor (length b) + length b) bs h.1 in
    let l = length_more cursor b bs h.0 in
    omega arith

pub small_words : (cursor : ℕ) (blocks : List (List ℕ)) → AreBlocks blocks → All (λ w. w < 2 ^ 64) (words_from cursor blocks)
small_words cursor [] h = All-replicate (λ w. w < 2 ^ 64) (page_end cursor - cursor) 0 (omega arith)
small_words cursor (b ∷ bs) h =
    let at = placed cursor (length b) in
    let rest = words_from (at + length b) bs in
    All-append (λ w. w < 2 ^ 64) (zeros cursor at) (b ++ rest) (All-replicate (λ w. w < 2 ^ 64) (at - cursor) 0 (omega arith))
    (All-append (λ w. w < 2 ^ 64) b rest h.0.small (small_words (at + length b) bs h.1))

pub are_rows : (cursor : ℕ) (blocks : List (List ℕ)) → AreBlocks blocks →
    cursor + length (words_from cursor blocks) ≤ 131072 → All IsRow (rows_from cursor blocks)
are_rows cursor [] h few = All-nil IsRow
are_rows cursor (b ∷ bs) h few =
    let at = placed cursor (length b) in
    let l = length_more cursor b bs h.0 in
    let short = h.0.few in
    All-cons IsRow (row at (length b)) (rows_from (at + length b) bs) (omega arith, omega arith)
    (are_rows (at + length b) bs h.1 (omega arith))

-- ---- a block in its row

pub record StandsAt (cursor : ℕ) (blocks : List (List ℕ)) (k : ℕ) : Type 0 where
  pub from : cursor ≤ entry_of (table cursor blocks) k
  pub count_is : count_of (table cursor blocks) k ≡ length (get_or blocks k [])
  pub some : 1 ≤ length (get_or blocks k [])
  pub on_page : entry_of (table cursor blocks) k % 512 + length (get_or blocks k []) ≤ 512
  pub within : entry_of (table cursor blocks) k + length (get_or blocks k []) ≤ cursor + length (words_from cursor blocks)
  pub words_are :
      take (length (get_or blocks k [])) (drop (entry_of (table cursor blocks) k - cursor) (words_from cursor blocks)) ≡
      get_or blocks k []

-- behind the zeros of a gap
past_gap : (cursor at : ℕ) (rest : List ℕ) → drop (at - cursor) (zeros cursor at ++ rest) ≡ rest
past_gap cursor at rest =
    ap (λ n. drop n (zeros cursor at ++ rest)) (sym (length-replicate {A = ℕ} (at - cursor) 0)) ∙ drop-append_seam (zeros cursor at) rest

-- and behind a block
past_block : (cursor at entry : ℕ) (b rest : List ℕ) → cursor ≤ at → at + length b ≤ entry →
    drop (entry - cursor) (zeros cursor at ++ (b ++ rest)) ≡ drop (entry - (at + length b)) rest
past_block cursor at entry b rest low high =
    let gap = length-replicate {A = ℕ} (at - cursor) 0 in
    let m = entry - (at + length b) in
    let n : entry - cursor ≡ length (zeros cursor at) + (length b + m) = omega arith in
    ap (λ k. drop k (zeros cursor at ++ (b ++ rest))) n ∙ drop-append-add (zeros cursor at) (b ++ rest) (length b + m)
    ∙ drop-append-add b rest m

pub stands : (cursor : ℕ) (blocks : List (List ℕ)) (k : ℕ) → AreBlocks blocks → k < length blocks → StandsAt cursor blocks k
stands cursor [] k h lt = absurd (omega arith)
stands cursor (b ∷ bs) zero h lt =
    let at = placed cursor (length b) in
    let p = is_placed cursor (length b) h.0.few in
    let rest = words_from (at + length b) bs in
    let l = length_more cursor b bs h.0 in
    record {
      from = p.behind;
      count_is = refl;
      some = h.0.some;
      on_page = p.on_page;
      within = omega arith;
      words_are = ap (take (length b)) (past_gap cursor at (b ++ rest)) ∙ take-append_seam b rest;
    }
stands cursor (b ∷ bs) (suc k) h lt =
    let at = placed cursor (length b) in
    let p = is_placed cursor (length b) h.0.few in
    let behind = p.behind in
    let rest = words_from (at + length b) bs in
    let l = length_more cursor b bs h.0 in
    let s = stands (at + length b) bs k h.1 (omega arith) in
    let entry = entry_of (table (at + length b) bs) k in
    let from = s.from in
    let within = s.within in
    record {
      from = omega arith;
      count_is = s.count_is;
      some = s.some;
      on_page = s.on_page;
      within = omega arith;
      words_are = ap (take (length (get_or bs k []))) (past_block cursor at entry b rest behind from) ∙ s.words_are;
    }

-- the first one begins at 0
pub begins_at_zero : (blocks : List (List ℕ)) → AreBlocks blocks → entry_of (table 0 blocks) 0 ≡ 0
begins_at_zero [] h = refl
begins_at_zero (b ∷ bs) h = let few = h.0.few in fits 0 (length b) (omega arith)

-- the next block stands behind it
pub next_behind : (cursor : ℕ) (blocks : List (List ℕ)) (k : ℕ) → AreBlocks blocks → suc k < length blocks →
    end_of (table cursor blocks) k ≤ entry_of (table cursor blocks) (suc k)
next_behind cursor [] k h lt = absurd (omega arith)
next_behind cursor (b ∷ bs) zero h lt = (stands (placed cursor (length b) + length b) bs 0 h.1 (omega arith)).from
next_behind cursor (b ∷ bs) (suc k) h lt = next_behind (placed cursor (length b) + length b) bs k h.1 (omega arith)

-- ---- between blocks

in_gap : (cursor at j : ℕ) (rest : List ℕ) → j < at - cursor → get_or (zeros cursor at ++ rest) j 0 ≡ 0
in_gap cursor at j rest lt =
    let gap = length-replicate {A = ℕ} (at - cursor) 0 in
    get_or_append_left (zeros cursor at) rest 0 j (omega arith) ∙ get_or-replicate (at - cursor) j 0 0 lt

behind_block : (cursor at j m : ℕ) (b rest : List ℕ) → j ≡ at - cursor + (length b + m) →
    get_or (zeros cursor at ++ (b ++ rest)) j 0 ≡ get_or rest m 0
behind_block cursor at j m b rest e =
    let gap = length-replicate {A = ℕ} (at - cursor) 0 in
    let n : j ≡ length (zeros cursor at) + (length b + m) = omega arith in
    ap (λ k. get_or (zeros cursor at ++ (b ++ rest)) k 0) n
    ∙ get_or-append-add (zeros cursor at) (b ++ rest) (length b + m) 0 ∙ get_or-append-add b rest m 0

module _ (cursor j : ℕ) (b : List ℕ) (bs : List (List ℕ)) (h : IsBlock b) where
  abbrev at : ℕ
  at = placed cursor (length b)

  -- how far it is behind the block's begin
  abbrev m : ℕ
  m = j - (at - cursor)

  abbrev rest : List ℕ
  rest = words_from (at + length b) bs

  in_or_zero : j < length (words_from cursor (b ∷ bs)) → (j < at - cursor) ⊎ (at - cursor ≤ j) → (m < length b) ⊎ (length b ≤ m) →
      (m - length b < length rest →
      (is_in_block (table (at + length b) bs) (at + length b + (m - length b)) ≡ true) ⊎ (get_or rest (m - length b) 0 ≡ 0)) →
      (is_in_block (table cursor (b ∷ bs)) (cursor + j) ≡ true) ⊎ (get_or (words_from cursor (b ∷ bs)) j 0 ≡ 0)
  in_or_zero lt (inl gap) d ih = inr (in_gap cursor at j (b ++ rest) gap)
  in_or_zero lt (inr c) (inl inside) ih =
      let p = (is_placed cursor (length b) h.few).behind in
      inl (or_left (nat_le at (cursor + j) && nat_lt (cursor + j) (at + length b)) (is_in_block (table (at + length b) bs) (cursor + j))
      (and_from (nat_le at (cursor + j)) (nat_lt (cursor + j) (at + length b)) (le-leb at (cursor + j) (omega arith))
      (lt-ltb (cursor + j) (at + length b) (omega arith))))
  in_or_zero lt (inr c) (inr past) ih =
      let p = (is_placed cursor (length b) h.few).behind in
      let l = length_more cursor b bs h in
      let same : at + length b + (m - length b) ≡ cursor + j = omega arith in
      elim (ih (omega arith)) [
        | inl t ↦ inl (or_right (nat_le at (cursor + j) && nat_lt (cursor + j) (at + length b))
            (is_in_block (table (at + length b) bs) (cursor + j))
            (ap (is_in_block (table (at + length b) bs)) (sym same) ∙ t))
        | inr z ↦ inr (behind_block cursor at j (m - length b) b rest (omega arith) ∙ z)
      ]

-- each word stands in a block, or is 0
pub in_block_or_zero : (cursor : ℕ) (blocks : List (List ℕ)) (j : ℕ) → AreBlocks blocks → j < length (words_from cursor blocks) →
    (is_in_block (table cursor blocks) (cursor + j) ≡ true) ⊎ (get_or (words_from cursor blocks) j 0 ≡ 0)
in_block_or_zero cursor [] j h lt =
    let gap = length-replicate {A = ℕ} (page_end cursor - cursor) 0 in
    inr (get_or-replicate (page_end cursor - cursor) j 0 0 (omega arith))
in_block_or_zero cursor (b ∷ bs) j h lt =
    let at = placed cursor (length b) in
    let m = j - (at - cursor) in
    in_or_zero cursor j b bs h.0 lt (cases_lt j (at - cursor)) (cases_lt m (length b))
    (in_block_or_zero (at + length b) bs (m - length b) h.1)
