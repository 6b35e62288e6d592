-- Where blocks stand that follow one another: a page has 512 words, and no block stands on two.
use Rattle.std.specs.Prelude.{ℕ, ◌+◌, ◌-◌, ◌*◌, ◌/◌, ◌%◌, nat_le, if◌then◌else◌, List, [], ◌∷◌, ◌++◌, length, replicate}
use Rattle.image_format.specs.declared.Row.{Row}

-- where a block of so many words begins that follows what stands before the cursor: at the cursor, or at the next page's
-- start where it wouldn't fit on the cursor's page
unfoldable pub placed : (cursor words : ℕ) → ℕ
placed cursor words = if nat_le (cursor % 512 + words) 512 then cursor else (cursor / 512 + 1) * 512

-- where the last page ends of which a word stands before the cursor
unfoldable pub page_end : ℕ → ℕ
page_end cursor = (cursor + 511) / 512 * 512

-- the row of a block
abbrev pub row : (entry count : ℕ) → Row
row entry count = record { entry = entry; count = count }

-- the rows of blocks that follow one another from the cursor on
abbrev pub rows_from : (cursor : ℕ) → List (List ℕ) → List Row
rows_from cursor [] = []
rows_from cursor (block ∷ blocks) =
    let entry = placed cursor (length block) in row entry (length block) ∷ rows_from (entry + length block) blocks

-- zeros from an address up to another
abbrev pub zeros : (begin end : ℕ) → List ℕ
zeros begin end = replicate (end - begin) 0

-- the words from the cursor on: those of the blocks, with zeros between them and up to the last page's end
abbrev pub words_from : (cursor : ℕ) → List (List ℕ) → List ℕ
words_from cursor [] = zeros cursor (page_end cursor)
words_from cursor (block ∷ blocks) =
    let entry = placed cursor (length block) in zeros cursor entry ++ (block ++ words_from (entry + length block) blocks)
