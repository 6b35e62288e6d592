-- The rules of a block table, and the first that is broken.
use Rattle.std.specs.Prelude.{ℕ, ◌≡◌, ◌+◌, ◌*◌, ◌%◌, ◌||◌, Bool, nat_eq, nat_lt, nat_le, length, find, Option, Some, None, if◌then◌else◌}
use Rattle.std.specs.List.{list_any, range_with_len}
use Rattle.block_table.specs.declared.rules.TableRule.{TableRule}
use Rattle.block_table.specs.declared.rules.TableRule.TheVariants.{Table, PageCross, Entry}
use Rattle.block_table.specs.declared.rules.TableFault.{TableFault}
use Rattle.block_table.specs.declared.rules.TableFault.TheVariants.{Broken, NoMemory}
use Rattle.block_table.specs.Rows.{Rows, entry_of, count_of, end_before}

-- Table: the row's count is 0, or its entry is at or above the end of the pages, or below the end of the row before
abbrev pub breaks_table : Rows → ℕ → ℕ → Bool
breaks_table rows pages k =
    nat_eq (count_of rows k) 0 || (nat_le (pages * 512) (entry_of rows k) || nat_lt (entry_of rows k) (end_before rows k))

-- PageCross: the block goes beyond the page that it begins on
abbrev pub crosses_page : Rows → ℕ → Bool
crosses_page rows k = nat_lt 512 (entry_of rows k % 512 + count_of rows k)

-- a row has the entry
abbrev pub has_entry : Rows → ℕ → Bool
has_entry rows entry = list_any (λ row. nat_eq row.0 entry) rows

-- the least row of which the test holds
abbrev pub first_row : (ℕ → Bool) → Rows → Option ℕ
first_row test rows = find test (range_with_len 0 (length rows))

-- Entry: no row has the program's entry
abbrev pub broken_entry : Rows → ℕ → Option (TableRule × ℕ)
broken_entry rows entry = if has_entry rows entry then None else Some (Entry, 0)

abbrev pub broken_page : Rows → ℕ → Option ℕ → Option (TableRule × ℕ)
broken_page rows entry (Some k) = Some (PageCross, k)
broken_page rows entry None = broken_entry rows entry

abbrev pub broken_table : Rows → ℕ → Option ℕ → Option (TableRule × ℕ)
broken_table rows entry (Some k) = Some (Table, k)
broken_table rows entry None = broken_page rows entry (first_row (crosses_page rows) rows)

-- the first broken rule with its least row, or none
abbrev pub first_broken : Rows → (pages entry : ℕ) → Option (TableRule × ℕ)
first_broken rows pages entry = broken_table rows entry (first_row (breaks_table rows pages) rows)

-- a fault is the first broken rule
abbrev pub IsFirstBroken : Rows → (pages entry : ℕ) → TableFault → Type 0
IsFirstBroken rows pages entry (Broken rule row) = first_broken rows pages entry ≡ Some (rule, row)
IsFirstBroken rows pages entry NoMemory = Unit {0}
