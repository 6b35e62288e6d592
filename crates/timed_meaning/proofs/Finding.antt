-- A search among rising entries finds the block with an entry.
use Rattle.std.proofs.Common.{◌≡◌, ℕ, zero, suc, ◌+◌, ◌<◌, Bool, true, false, List, [], ◌∷◌, length, map, get_or, Result, Ok, Err, refl, sym, ap, subst, ⊎_elim, None, arith}
use Rattle.std.specs.Prelude.{find, nat_eq, slice_get, option_and_then}
use Rattle.std.specs.Result.{result_ok}
use Rattle.std.specs.Ordering.{nat_cmp, is_lt}
use Rattle.std.specs.declared.cmp.Ordering.TheVariants.{Less, Equal, Greater}
use Rattle.std.specs.List.Sorted.{IsStrictlyIncreasing, IsBinarySearchResult, IsSearchInRange, IsSortedBy}
use Rattle.std.proofs.lemmas.Bool.{ne_eqb, eq-eqb, le-ltb, cases_lt}
use Rattle.std.proofs.lemmas.Cmp.{nat_cmp_total, ranked}
use Rattle.std.proofs.lemmas.List.{length-map, get_or-map}
use Rattle.std.proofs.lemmas.List.Sorted.{searchable_from_sorted}
use Rattle.std.proofs.lemmas.Map.Keys.{sorted_from_strictly_increasing, below_from_sorted}
use Rattle.timed_meaning.specs.declared.TimedBlock.{TimedBlock}
use Rattle.timed_meaning.specs.Program.{Block, block_of}

-- a list's element that passes, with none before it that does, is found
found_at : (p : Block → Bool) (bs : List TimedBlock) (i : ℕ) → i < length bs →
    ((d : TimedBlock) → p (block_of (get_or bs i d)) ≡ true) →
    ((k : ℕ) (d : TimedBlock) → k < i → p (block_of (get_or bs k d)) ≡ false) →
    slice_get (map block_of bs) i ≡ find p (map block_of bs)
found_at p [] i lt here before = absurd (omega arith)
found_at p (b ∷ bs) zero lt here before = let e : p (block_of b) ≡ true = here b in rw e refl
found_at p (b ∷ bs) (suc i) lt here before =
    let e : p (block_of b) ≡ false = before 0 b (omega arith) in
    rw e (found_at p bs i (omega arith) here (λ k d h. before (suc k) d (omega arith)))

found_none : (p : Block → Bool) (bs : List TimedBlock) → ((k : ℕ) (d : TimedBlock) → k < length bs → p (block_of (get_or bs k d)) ≡ false) → None ≡ find p (map block_of bs)
found_none p [] none = refl
found_none p (b ∷ bs) none =
    let e : p (block_of b) ≡ false = none 0 b (omega arith) in
    rw e (found_none p bs (λ k d h. none (suc k) d (omega arith)))

-- entries rise
below : (bs : List TimedBlock) (i j : ℕ) (d : TimedBlock) → IsStrictlyIncreasing (map (λ b. b.entry) bs) → i < j → j < length bs → (get_or bs i d).entry < (get_or bs j d).entry
below bs i j d rise lt in' =
    let n : length (map (λ (b : TimedBlock). b.entry) bs) ≡ length bs = length-map bs (λ b. b.entry) in
    let a : get_or (map (λ (b : TimedBlock). b.entry) bs) i 0 ≡ (get_or bs i d).entry = get_or-map (λ b. b.entry) bs i d 0 (omega arith) in
    let b : get_or (map (λ (b : TimedBlock). b.entry) bs) j 0 ≡ (get_or bs j d).entry = get_or-map (λ b. b.entry) bs j d 0 in' in
    let h : get_or (map (λ (b : TimedBlock). b.entry) bs) i 0 < get_or (map (λ (b : TimedBlock). b.entry) bs) j 0 = below_from_sorted (map (λ b. b.entry) bs) i j 0 (sorted_from_strictly_increasing (map (λ b. b.entry) bs) rise) lt (omega arith) in
    omega arith

in_order : (bs : List TimedBlock) → IsStrictlyIncreasing (map (λ b. b.entry) bs) → IsSortedBy (λ a b. is_lt (nat_cmp a.entry b.entry)) bs
in_order bs rise k d low high =
    let h : (get_or bs k d).entry < (get_or bs (k + 1) d).entry = below bs k (k + 1) d rise (omega arith) high in
    rw (le-ltb (get_or bs (k + 1) d).entry (get_or bs k d).entry (omega arith), ne_eqb (get_or bs (k + 1) d).entry (get_or bs k d).entry (λ e. absurd (omega arith))) refl

same_entries : (bs : List TimedBlock) → map (λ b. b.entry) (map block_of bs) ≡ map (λ b. b.entry) bs
same_entries [] = refl
same_entries (b ∷ bs) = ap (λ l. b.entry ∷ l) (same_entries bs)

-- what a binary search for an entry gives is the first block with that entry
pub search_finds : (bs : List TimedBlock) (e : ℕ) (r : Result ℕ ℕ) → IsStrictlyIncreasing (map (λ b. b.entry) (map block_of bs)) →
    IsSearchInRange r (length bs) → IsBinarySearchResult (λ b. nat_cmp b.entry e) bs r →
    option_and_then (λ i. slice_get (map block_of bs) i) (result_ok r) ≡ find (λ b. nat_eq b.entry e) (map block_of bs)
search_finds bs e (Ok i) rise range found =
    let rising = subst IsStrictlyIncreasing (same_entries bs) rise in
    found_at (λ b. nat_eq b.entry e) bs i range
    (λ d. eq-eqb (get_or bs i d).entry e (ranked (get_or bs i d).entry e Equal (sym (found d))))
    (λ k d lt. ne_eqb (get_or bs k d).entry e (λ q. let here : (get_or bs i d).entry ≡ e = ranked (get_or bs i d).entry e Equal (sym (found d)) in let h = below bs k i d rising lt range in omega arith))
search_finds bs e (Err i) rise range found =
    let rising = subst IsStrictlyIncreasing (same_entries bs) rise in
    let parted = found (searchable_from_sorted nat_cmp_total (λ b. b.entry) bs e (in_order bs rising)) in
    found_none (λ b. nat_eq b.entry e) bs (λ k d lt. ne_eqb (get_or bs k d).entry e (λ q. ⊎_elim
    (λ low. let h : (get_or bs k d).entry < e = ranked (get_or bs k d).entry e Less (sym (parted.0 k d (omega arith) low)) in omega arith)
    (λ high. let h : e < (get_or bs k d).entry = ranked (get_or bs k d).entry e Greater (sym (parted.1 k d high lt)) in omega arith)
    (cases_lt k i)))
