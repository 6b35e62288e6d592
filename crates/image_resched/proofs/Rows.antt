-- The rows of a block table and lists of words.
use Rattle.std.proofs.Common.{◌≡◌, ℕ, ◌+◌, ◌-◌, ◌<◌, ◌≤◌, ◌&&◌, true, List, length, get_or, drop, sym, ap, refl, ◌∙◌, arith}
use Rattle.std.specs.Prelude.{nat_le, nat_lt}
use Rattle.std.proofs.lemmas.Bool.{and_parts, leb-true, ltb-true}
use Rattle.std.proofs.lemmas.List.{get_or-take, get_or-drop, get_or_default}
use Rattle.std.proofs.lemmas.List.FromFn.{fill_by_all}
use Rattle.std.proofs.lemmas.List.Folds.{Any-from_list_any}
use Rattle.block_table.specs.Rows.{Rows, entry_of, count_of}
use Rattle.block_table.specs.Padding.{is_in_block}
use Rattle.image_resched.specs.Rescheduled.{words_at}

-- the row whose block has an address
pub record RowOf (rows : Rows) (a : ℕ) : Type 0 where
  pub row : ℕ
  pub there : row < length rows
  pub low : entry_of rows row ≤ a
  pub high : a < entry_of rows row + count_of rows row

pub row_of : (rows : Rows) (a : ℕ) → is_in_block rows a ≡ true → RowOf rows a
row_of rows a h =
    let has = λ (row : ℕ × ℕ). nat_le row.0 a && nat_lt a (row.0 + row.1) in
    let r = Any-from_list_any has rows h in
    let at : get_or rows r.0 (0, 0) ≡ r.1 = get_or_default rows r.0 (0, 0) r.1 r.2 ∙ r.3 in
    let passes : has (get_or rows r.0 (0, 0)) ≡ true = ap has at ∙ r.4 in
    let q = and_parts (nat_le (entry_of rows r.0) a) (nat_lt a (entry_of rows r.0 + count_of rows r.0)) passes in
    record {
      row = r.0;
      there = r.2;
      low = leb-true (entry_of rows r.0) a q.0;
      high = ltb-true a (entry_of rows r.0 + count_of rows r.0) q.1;
    }

-- a word of a block, by its place in the block
pub in_row : (rows : Rows) (words : List ℕ) (a k : ℕ) → entry_of rows k ≤ a → a < entry_of rows k + count_of rows k → get_or (words_at rows words k) (a - entry_of rows k) 0 ≡ get_or words a 0
in_row rows words a k low high =
    let at = a - entry_of rows k in
    let to : entry_of rows k + at ≡ a = omega arith in
    get_or-take (count_of rows k) (drop (entry_of rows k) words) at 0 (omega arith) ∙ get_or-drop (entry_of rows k) words at 0 ∙ ap (λ i. get_or words i 0) to

-- lists are equal where their elements are
pub same_lists : (xs ys : List ℕ) → length xs ≡ length ys → ((a : ℕ) → a < length ys → get_or xs a 0 ≡ get_or ys a 0) → xs ≡ ys
same_lists xs ys n h =
    fill_by_all (λ k. get_or ys k 0) xs (length ys) 0 n h ∙ sym (fill_by_all (λ k. get_or ys k 0) ys (length ys) 0 refl (λ k lt. refl))
