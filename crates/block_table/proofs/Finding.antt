-- What a binary search among rising entries says.
use Rattle.std.proofs.Common.{◌≡◌, ℕ, ◌+◌, ◌<◌, ◌≤◌, true, false, length, get_or, Ok, Err, refl, sym, ⊎_elim, arith}
use Rattle.std.specs.Prelude.{nat_eq}
use Rattle.std.specs.Ordering.{nat_cmp, is_lt}
use Rattle.std.specs.declared.cmp.Ordering.TheVariants.{Less, Equal, Greater}
use Rattle.std.specs.List.Sorted.{IsStrictlyIncreasing, IsBinarySearchResult, IsSortedBy}
use Rattle.std.proofs.lemmas.Bool.{ne_eqb, eq-eqb, le-ltb, cases_lt}
use Rattle.std.proofs.lemmas.Cmp.{nat_cmp_total, ranked}
use Rattle.std.proofs.lemmas.List.{length-map, get_or-map, get_or_default}
use Rattle.std.proofs.lemmas.List.Folds.{list_any_none, list_any-from_Any}
use Rattle.std.proofs.lemmas.List.Sorted.{searchable_from_sorted}
use Rattle.std.proofs.lemmas.Map.Keys.{sorted_from_strictly_increasing, below_from_sorted}
use Rattle.block_table.specs.Rows.{Rows, entry_of, entries}
use Rattle.block_table.specs.Rules.{has_entry}

-- entries rise
pub below : (rows : Rows) (i j : ℕ) (d : ℕ × ℕ) → IsStrictlyIncreasing (entries rows) → i < j → j < length rows → (get_or rows i d).0 < (get_or rows j d).0
below rows i j d rise lt in' =
    let n : length (entries rows) ≡ length rows = length-map rows (λ row. row.0) in
    let a : get_or (entries rows) i 0 ≡ (get_or rows i d).0 = get_or-map (λ row. row.0) rows i d 0 (omega arith) in
    let b : get_or (entries rows) j 0 ≡ (get_or rows j d).0 = get_or-map (λ row. row.0) rows j d 0 in' in
    let h : get_or (entries rows) i 0 < get_or (entries rows) j 0 = below_from_sorted (entries rows) i j 0 (sorted_from_strictly_increasing (entries rows) rise) lt (omega arith) in
    omega arith

in_order : (rows : Rows) → IsStrictlyIncreasing (entries rows) → IsSortedBy (λ a b. is_lt (nat_cmp a.0 b.0)) rows
in_order rows rise k d low high =
    let h : (get_or rows k d).0 < (get_or rows (k + 1) d).0 = below rows k (k + 1) d rise (omega arith) high in
    rw (le-ltb (get_or rows (k + 1) d).0 (get_or rows k d).0 (omega arith), ne_eqb (get_or rows (k + 1) d).0 (get_or rows k d).0 (λ e. absurd (omega arith))) refl

-- the row that is found has the entry
pub found : (rows : Rows) (e i : ℕ) → IsBinarySearchResult (λ row. nat_cmp row.0 e) rows (Ok i) → entry_of rows i ≡ e
found rows e i search = ranked (get_or rows i (0, 0)).0 e Equal (sym (search (0, 0)))

-- where none is found, none has the entry
pub lacking : (rows : Rows) (e i : ℕ) → IsStrictlyIncreasing (entries rows) → IsBinarySearchResult (λ row. nat_cmp row.0 e) rows (Err i) → i ≤ length rows → has_entry rows e ≡ false
lacking rows e i rise search within =
    let parted = search (searchable_from_sorted nat_cmp_total (λ (row : ℕ × ℕ). row.0) rows e (in_order rows rise)) in
    list_any_none (λ (row : ℕ × ℕ). nat_eq row.0 e) rows
    (λ k d lt. ne_eqb (get_or rows k d).0 e (λ q. ⊎_elim
    (λ low. let h : (get_or rows k d).0 < e = ranked (get_or rows k d).0 e Less (sym (parted.0 k d (omega arith) low)) in omega arith)
    (λ high. let h : e < (get_or rows k d).0 = ranked (get_or rows k d).0 e Greater (sym (parted.1 k d high lt)) in omega arith)
    (cases_lt k i)))

-- a row's entry is an entry
pub has_entry-entry_of : (rows : Rows) (k : ℕ) → k < length rows → has_entry rows (entry_of rows k) ≡ true
has_entry-entry_of rows k below = list_any-from_Any (λ (row : ℕ × ℕ). nat_eq row.0 (entry_of rows k)) rows
    (k, get_or rows k (0, 0), below, get_or_default rows k (get_or rows k (0, 0)) (0, 0) below, eq-eqb (entry_of rows k) (entry_of rows k) refl)
