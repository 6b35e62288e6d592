-- The words between the blocks, one gap after another.
use Rattle.std.proofs.Common.{◌≡◌, ◌≢◌, ℕ, zero, suc, ◌+◌, ◌<◌, ◌≤◌, ◌&&◌, Bool, true, false, not, List, length, get_or, refl, sym, ap, ◌∙◌, eq-eqb, arith, ◌⊎◌, inl, inr}
use Rattle.std.specs.Prelude.{nat_eq, nat_lt, nat_le, slice_index, Option, Some, None, IfSome, IfNone}
use Rattle.std.specs.Option.{is_some}
use Rattle.std.proofs.lemmas.Bool.{cases_lt, lt-ltb, le-leb, le-ltb, lt-leb, ne_eqb}
use Rattle.std.specs.Cmp.Derive.{both_true}
use Rattle.std.proofs.lemmas.List.{get_or_default}
use Rattle.std.proofs.lemmas.List.Folds.{list_any_none, list_any-from_Any}
use Rattle.block_table.specs.Rows.{Rows, entry_of, count_of, end_of, end_before, IsRising}
use Rattle.block_table.specs.Padding.{is_in_block, is_unpadded, first_unpadded, AreZero, IsFirstFilled}
use Rattle.tnk_base.proofs.Searches.{finds_none, finds_some}

second_false : (x y : Bool) → y ≡ false → (x && y) ≡ false
second_false true y e = e
second_false false y e = refl

-- blocks end one after another
ends_rise : (rows : Rows) → IsRising rows → (j k : ℕ) → j < k → k ≤ length rows → end_of rows j ≤ end_before rows k
ends_rise rows rise j zero lt there = absurd (omega arith)
ends_rise rows rise j (suc k) lt there = elim (cases_lt j k) [
  | inl below ↦
      let h = ends_rise rows rise j k below (omega arith) in
      let a = rise.apart k (omega arith) in omega arith
  | inr above ↦ let same : j ≡ k = omega arith in rw same (omega arith)
]

-- an address in the block of a row
pub in_block : (rows : Rows) (k a : ℕ) → k < length rows → entry_of rows k ≤ a → a < end_of rows k → is_in_block rows a ≡ true
in_block rows k a there low high =
    list_any-from_Any (λ (row : ℕ × ℕ). nat_le row.0 a && nat_lt a (row.0 + row.1)) rows (
      k,
      get_or rows k (0, 0),
      there,
      get_or_default rows k (get_or rows k (0, 0)) (0, 0) there,
      both_true (le-leb (entry_of rows k) a low) (lt-ltb a (end_of rows k) high),
    )

-- a row whose block an address is before or behind
off_block : (e n a : ℕ) → (a < e) ⊎ (e + n ≤ a) → (nat_le e a && nat_lt a (e + n)) ≡ false
off_block e n a (inl before) = ap (λ (b : Bool). b && nat_lt a (e + n)) (lt-leb e a before)
off_block e n a (inr behind) = second_false (nat_le e a) (nat_lt a (e + n)) (le-ltb a (e + n) behind)

-- an address between the block before a row and the row's
pub in_gap : (rows : Rows) → IsRising rows → (k a : ℕ) → k ≤ length rows → end_before rows k ≤ a → (k < length rows → a < entry_of rows k) →
    is_in_block rows a ≡ false
in_gap rows rise k a there low high =
    list_any_none (λ (row : ℕ × ℕ). nat_le row.0 a && nat_lt a (row.0 + row.1)) rows
    (λ j d lt. let same : get_or rows j d ≡ get_or rows j (0, 0) = get_or_default rows j d (0, 0) lt in
    ap (λ (row : ℕ × ℕ). nat_le row.0 a && nat_lt a (row.0 + row.1)) same ∙ off_block (entry_of rows j) (count_of rows j) a (side j lt (cases_lt j k)))
  where
    side : (j : ℕ) → j < length rows → (j < k) ⊎ (k ≤ j) → (a < entry_of rows j) ⊎ (end_of rows j ≤ a)
    side j lt (inl below) = let h = ends_rise rows rise j k below there in inr (omega arith)
    side j lt (inr above) =
        let first = high (omega arith) in
        elim (cases_lt k j) [
          | inl later ↦
              let h = ends_rise rows rise k j later (omega arith) in
              let b = rise.apart j lt in inl (omega arith)
          | inr same ↦ let e : k ≡ j = omega arith in inl (rw (← e) first)
        ]

-- a word of 0 is padding
pub padded_zero : (rows : Rows) (words : List ℕ) (a : ℕ) → slice_index words a ≡ 0 → is_unpadded rows words a ≡ false
padded_zero rows words a e =
    second_false (not (is_in_block rows a)) (not (nat_eq (slice_index words a) 0)) (ap not (eq-eqb (slice_index words a) 0 e))

-- so is none in a block
pub padded_block : (rows : Rows) (words : List ℕ) (k a : ℕ) → k < length rows → entry_of rows k ≤ a → a < end_of rows k → is_unpadded rows words a ≡ false
padded_block rows words k a there low high =
    ap (λ (b : Bool). not b && not (nat_eq (slice_index words a) 0)) (in_block rows k a there low high)

-- one that isn't 0 in a gap breaks the rule
pub unpadded_gap : (rows : Rows) (words : List ℕ) → IsRising rows → (k a : ℕ) → k ≤ length rows → end_before rows k ≤ a →
    (k < length rows → a < entry_of rows k) → slice_index words a ≢ 0 → is_unpadded rows words a ≡ true
unpadded_gap rows words rise k a there low high filled =
    both_true (ap not (in_gap rows rise k a there low high)) (ap not (ne_eqb (slice_index words a) 0 filled))

-- what was found in a gap is the first of all
pub found_here : (rows : Rows) (words : List ℕ) → IsRising rows → (k end top : ℕ) (result : Option ℕ) → IfSome result (IsFirstFilled words end top) →
    is_some result ≡ true → k ≤ length rows → end ≡ end_before rows k → (k < length rows → top ≤ entry_of rows k) →
    ((a : ℕ) → a < end → is_unpadded rows words a ≡ false) → result ≡ first_unpadded rows words
found_here rows words rise k end top None first some there at gap clear = absurd (let k : ⊥ = cc in k)
found_here rows words rise k end top (Some a) first some there at gap clear =
    sym (finds_some (is_unpadded rows words) (length words) a first.there
    (λ j lt. elim (cases_lt j end) [
      | inl before ↦ clear j before
      | inr behind ↦ padded_zero rows words j (first.zeros j behind lt)
    ])
    (unpadded_gap rows words rise k a there (let b = first.from in omega arith) (λ more. let b = first.below in let g = gap more in omega arith) first.filled))

-- where nothing is found up to the end of the words, none breaks the rule
pub found_last : (rows : Rows) (words : List ℕ) → IsRising rows → (k end : ℕ) (result : Option ℕ) → IfNone result (AreZero words end (length words)) →
    IfSome result (IsFirstFilled words end (length words)) → k ≡ length rows → end ≡ end_before rows k →
    ((a : ℕ) → a < end → is_unpadded rows words a ≡ false) → result ≡ first_unpadded rows words
found_last rows words rise k end None zeros first all at clear =
    sym (finds_none (is_unpadded rows words) (length words) (λ j lt. elim (cases_lt j end) [
      | inl before ↦ clear j before
      | inr behind ↦ padded_zero rows words j (zeros j behind lt)
    ]))
found_last rows words rise k end (Some a) zeros first all at clear =
    found_here rows words rise k end (length words) (Some a) first refl (omega arith) at (λ more. absurd (omega arith)) clear

-- where nothing is found in the gap before a block, no address up to its end breaks the rule
pub passed : (rows : Rows) (words : List ℕ) (k end : ℕ) (result : Option ℕ) → IfNone result (AreZero words end (entry_of rows k)) →
    is_some result ≡ false → k < length rows → ((a : ℕ) → a < end → is_unpadded rows words a ≡ false) →
    (a : ℕ) → a < end_of rows k → is_unpadded rows words a ≡ false
passed rows words k end (Some x) zeros none there clear a lt = absurd (let k : ⊥ = cc in k)
passed rows words k end None zeros none there clear a lt = elim (cases_lt a end) [
  | inl before ↦ clear a before
  | inr behind ↦ elim (cases_lt a (entry_of rows k)) [
    | inl gap ↦ padded_zero rows words a (zeros a behind gap)
    | inr block ↦ padded_block rows words k a there block lt
  ]
]
