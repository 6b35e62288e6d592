-- The entries of a block table, and the blocks at them.
use Rattle.std.proofs.Common.{◌≡◌, ℕ, suc, ◌<◌, true, length, refl, ap, subst, ◌∙◌, Option, Some, None}
use Rattle.std.specs.Prelude.{nat_eq, slice_get, option_map}
use Rattle.std.proofs.lemmas.Bool.{eqb-true}
use Rattle.std.proofs.lemmas.List.{get_or_default}
use Rattle.std.proofs.lemmas.List.Folds.{Any-from_list_any}
use Rattle.std.proofs.lemmas.Option.{get_or_from_slice_get, slice_get_within}
use Rattle.block_table.specs.Rows.{Rows, entry_of}
use Rattle.block_table.specs.Rules.{has_entry}
use Rattle.block_table.proofs.Finding.{has_entry-entry_of}
use Rattle.timed_meaning.specs.Program.{Block, block_at}
use Rattle.image_format.specs.Image.{Image}
use Rattle.image_check.specs.Accepted.{IsAccepted}
use Rattle.image_check.specs.Blocks.{rows_of, timed_block, program_in, entry_behind}
use Rattle.contexts.proofs.Formed.{block_of_row}

-- an entry is a row's
row_with : (rows : Rows) (to : ℕ) → has_entry rows to ≡ true → (k : ℕ) × (k < length rows) × (entry_of rows k ≡ to)
row_with rows to h =
    let r = Any-from_list_any (λ (row : ℕ × ℕ). nat_eq row.0 to) rows h in
    let same : entry_of rows r.0 ≡ r.1.0 = ap (λ (row : ℕ × ℕ). row.0) (get_or_default rows r.0 (0, 0) r.1 r.2 ∙ r.3) in
    (r.0, r.2, same ∙ eqb-true r.1.0 to r.4)

-- the entry of the row behind is one
pub next_has : (rows : Rows) (k to : ℕ) → entry_behind rows k ≡ Some to → has_entry rows to ≡ true
next_has rows k to h = go (slice_get rows (suc k)) refl h
  where
    go : (o : Option (ℕ × ℕ)) → slice_get rows (suc k) ≡ o → option_map (λ (row : ℕ × ℕ). row.0) o ≡ Some to → has_entry rows to ≡ true
    go None e f = absurd (let no : ⊥ = cc in no)
    go (Some row) e f =
        let same : row.0 ≡ to = cc in
        let is : entry_of rows (suc k) ≡ row.0 = ap (λ (r : ℕ × ℕ). r.0) (get_or_from_slice_get rows (suc k) row (0, 0) e) in
        subst (λ (n : ℕ). has_entry rows n ≡ true) (is ∙ same) (has_entry-entry_of rows (suc k) (slice_get_within rows (suc k) row e))

-- a block stands at each entry
pub block_at_entry : (image : Image) → IsAccepted image → (to : ℕ) → has_entry (rows_of image) to ≡ true → (b : Block) × (block_at (program_in image) to ≡ Some b)
block_at_entry image h to has =
    let r = row_with (rows_of image) to has in
    (timed_block image r.0, subst (λ (n : ℕ). block_at (program_in image) n ≡ Some (timed_block image r.0)) r.2 (block_of_row image h r.0 r.1))
