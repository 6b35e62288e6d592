-- The object in a file that breaks no rule keeps the rules.
use Rattle.std.proofs.Common.{◌≡◌, ℕ, zero, suc, ◌+◌, ◌-◌, ◌*◌, ◌%◌, ◌^◌, ◌<◌, ◌≤◌, Bool, true, false, cond, not, ◌&&◌, ◌||◌, List, [], ◌∷◌, ◌++◌, length, drop, get_or, All, refl, sym, ap, ◌∙◌, subst, arith, None, Some, Option, inl, inr, drop-drop}
use Rattle.std.specs.Prelude.{map, slice_index, slice_index_or, nat_eq, nat_lt, nat_le, bytes_eq, IfSome, sum_by}
use Rattle.std.specs.List.{range_with_len, list_any, list_all}
use Rattle.std.proofs.lemmas.Bool.{and_parts, and_from, leb-true, ltb-true, eqb-true, cases_lt, ne_eqb}
use Rattle.std.proofs.lemmas.List.{get_or_past, get_or-drop, length-drop, length-take-le}
use Rattle.std.proofs.lemmas.List.Elements.{All-drop, All-take}
use Rattle.std.proofs.lemmas.List.Sums.{AllPass-from_list_all, sum_by-cons}
use Rattle.std.proofs.lemmas.List.FromFn.{length-map-range_with_len, get_or-map-range_with_len}
use Rattle.byteorder.specs.Endian.{big_number}
use Rattle.machine_desc.specs.Numbers.{is_between}
use Rattle.image_format.specs.Layout.{number_at, words as words_in}
use Rattle.image_format.specs.Rules.{first_of}
use Rattle.object_format.specs.Layout as at
use Rattle.object_format.specs.Module.{IsModule, IsBlock, IsReference, IsLabel, AreRising, are_new, block_words}
use Rattle.object_format.specs.Rules.{Field, broken_in, first_in, names_from, is_new_name, block_fields, reference_fields, label_fields, block_size, referring, tail, is_referring}
use Rattle.object_format.proofs.HeaderKept.{all_kept}
use Rattle.object_format.proofs.Unbroken.{IsUnbroken}
use Rattle.object_format.proofs.ReadWritten.{Bytes, count_of_names}

-- ---- names

names_new : (offset : ℕ) (before ns : List (List ℕ)) → names_from offset before ns ≡ None → (list_all (λ n. is_between 1 32 (length n)) ns ≡ true) × (are_new before ns ≡ true)
names_new offset before [] h = (refl, refl)
names_new offset before (n ∷ ns) h = go (is_new_name before n) refl h (names_new (offset + (1 + length n)) (before ++ n ∷ []) ns)
  where
    go : (b : Bool) → is_new_name before n ≡ b → cond b (names_from (offset + (1 + length n)) (before ++ n ∷ []) ns) (Some offset) ≡ None →
        (names_from (offset + (1 + length n)) (before ++ n ∷ []) ns ≡ None → (list_all (λ m. is_between 1 32 (length m)) ns ≡ true) × (are_new (before ++ n ∷ []) ns ≡ true)) →
        ((is_between 1 32 (length n) && list_all (λ m. is_between 1 32 (length m)) ns) ≡ true) × ((not (list_any (bytes_eq n) before) && are_new (before ++ n ∷ []) ns) ≡ true)
    go false e g ih = absurd (let k : ⊥ = cc in k)
    go true e g ih =
        let p = and_parts (is_between 1 32 (length n)) (not (list_any (bytes_eq n) before)) e in
        let r = ih g in (
          and_from (is_between 1 32 (length n)) (list_all (λ m. is_between 1 32 (length m)) ns) p.0 r.0,
          and_from (not (list_any (bytes_eq n) before)) (are_new (before ++ n ∷ []) ns) p.1 r.1,
        )

-- ---- tables

none_in : (part : ℕ → Option ℕ) (from count : ℕ) → first_in part from count ≡ None → (k : ℕ) → k < count → part (from + k) ≡ None
none_in part from zero h k below = absurd (omega arith)
none_in part from (suc n) h zero below = go (part from) refl h
  where
    go : (o : Option ℕ) → part from ≡ o → first_of o (first_in part (from + 1) n) ≡ None → part (from + zero) ≡ None
    go None e g = let z : from + zero ≡ from = omega arith in ap part z ∙ e
    go (Some x) e g = absurd (let c : ⊥ = cc in c)
none_in part from (suc n) h (suc k) below = go (part from) h (none_in part (from + 1) n)
  where
    go : (o : Option ℕ) → first_of o (first_in part (from + 1) n) ≡ None → (first_in part (from + 1) n ≡ None → (j : ℕ) → j < n → part (from + 1 + j) ≡ None) → part (from + suc k) ≡ None
    go None g ih = let z : from + suc k ≡ from + 1 + k = omega arith in ap part z ∙ ih g k (omega arith)
    go (Some x) g ih = absurd (let c : ⊥ = cc in c)

-- each row of a table, by its fields
each_row : (part : ℕ → List Field) (count : ℕ) → first_in (λ k. broken_in (part k)) 0 count ≡ None → (k : ℕ) → k < count → list_all (λ f. f.1) (part k) ≡ true
each_row part count h k below =
    let z : 0 + k ≡ k = omega arith in
    all_kept (part k) (ap (λ j. broken_in (part j)) (sym z) ∙ none_in (λ j. broken_in (part j)) 0 count h k below)

-- a number in a row of a table, by its offset in the file
big_at : (n place k : ℕ) (bytes : List ℕ) → number_at n place (drop k bytes) ≡ number_at n (k + place) bytes
big_at n place k bytes = ap (big_number n) (drop-drop place k bytes)

pub at_row : (n size k place offset : ℕ) (bytes : List ℕ) → number_at n place (drop (size * k) (drop offset bytes)) ≡ number_at n (offset + size * k + place) bytes
at_row n size k place offset bytes =
    ap (number_at n place) (drop-drop (size * k) offset bytes) ∙ big_at n place (offset + size * k) bytes

-- ---- blocks

address_kept : (n : ℕ) → (nat_eq n 0xFFFFFFFF || nat_lt n 131072) ≡ true → IfSome (at.fixed n) (λ a. a < 131072)
address_kept n h = go (nat_eq n 0xFFFFFFFF) h
  where
    go : (b : Bool) → (b || nat_lt n 131072) ≡ true → IfSome (cond b None (Some n)) (λ a. a < 131072)
    go true g = tt
    go false g = ltb-true n 131072 g

between : (low high n : ℕ) → is_between low high n ≡ true → (low ≤ n) × (n ≤ high)
between low high n h = let p = and_parts (nat_le low n) (nat_le n high) h in (leb-true low n p.0, leb-true n high p.1)

block_kept : (bytes : List ℕ) (k : ℕ) → list_all (λ f. f.1) (block_fields bytes k) ≡ true →
    IsBlock (at.name_count bytes) (at.block (drop (10 * k) (drop (at.blocks_offset bytes) bytes)))
block_kept bytes k h =
    let offset = at.blocks_offset bytes + 10 * k in
    let address = number_at 4 (offset + 4) bytes in
    let p = and_parts (nat_lt (number_at 4 offset bytes) (at.name_count bytes)) _ h in
    let q = and_parts (nat_eq address 0xFFFFFFFF || nat_lt address 131072) _ p.1 in
    let r = and_parts (is_between 1 512 (number_at 2 (offset + 8) bytes)) true q.1 in
    let zero_on : offset + 0 ≡ offset = omega arith in
    record {
      name = subst (λ n. n < at.name_count bytes) (sym (at_row 4 10 k 0 (at.blocks_offset bytes) bytes ∙ ap (λ m. number_at 4 m bytes) zero_on)) (ltb-true (number_at 4 offset bytes) (at.name_count bytes) p.0);
      at = subst (λ n. IfSome (at.fixed n) (λ a. a < 131072)) (sym (at_row 4 10 k 4 (at.blocks_offset bytes) bytes)) (address_kept address q.0);
      count = subst (λ n. (1 ≤ n) × (n ≤ 512)) (sym (at_row 2 10 k 8 (at.blocks_offset bytes) bytes)) (between 1 512 (number_at 2 (offset + 8) bytes) r.0);
    }

-- each row of a table that is made from a range
each_made : {X : Type 0} (P : X → Type 0) (f : ℕ → X) (n : ℕ) → ((k : ℕ) → k < n → P (f k)) → All P (map f (range_with_len 0 n))
each_made P f n h k d below =
    let inside : k < n = omega (arith, length-map-range_with_len f 0 n) in
    let z : 0 + k ≡ k = omega arith in
    subst P (sym (get_or-map-range_with_len f 0 n k k d inside z)) (h k inside)

-- ---- labels

label_kept : (bytes : List ℕ) (k : ℕ) → list_all (λ f. f.1) (label_fields bytes k) ≡ true →
    IsLabel (at.name_count bytes) (at.data_size bytes) (at.pair (drop (8 * k) (drop (at.labels_offset bytes) bytes)))
label_kept bytes k h =
    let offset = at.labels_offset bytes + 8 * k in
    let p = and_parts (nat_lt (number_at 4 offset bytes) (at.name_count bytes)) _ h in
    let q = and_parts (nat_le (number_at 4 (offset + 4) bytes) (at.data_size bytes)) true p.1 in
    let zero_on : offset + 0 ≡ offset = omega arith in
    record {
      name = subst (λ n. n < at.name_count bytes) (sym (at_row 4 8 k 0 (at.labels_offset bytes) bytes ∙ ap (λ m. number_at 4 m bytes) zero_on)) (ltb-true (number_at 4 offset bytes) (at.name_count bytes) p.0);
      offset = subst (λ n. n ≤ at.data_size bytes) (sym (at_row 4 8 k 4 (at.labels_offset bytes) bytes)) (leb-true (number_at 4 (offset + 4) bytes) (at.data_size bytes) q.0);
    }

-- ---- words

-- each byte is below 256, also where there is none
few_at : (bytes : List ℕ) → Bytes bytes → (i : ℕ) → get_or bytes i 0 < 256
few_at bytes all i = elim (cases_lt i (length bytes)) [
  | inl below ↦ all i 0 below
  | inr past ↦ let none : get_or bytes i 0 ≡ 0 = get_or_past bytes i 0 past in omega arith
]

small_word : (xs : List ℕ) → ((i : ℕ) → get_or xs i 0 < 256) → big_number 8 xs < 2 ^ 64
small_word xs few =
    let a = few 0 in let b = few 1 in let c = few 2 in let d = few 3 in let e = few 4 in let f = few 5 in let g = few 6 in let h = few 7 in
    omega (arith, a, b, c, d, e, f, g, h)

-- the low half of a word
low_half : (xs : List ℕ) → ((i : ℕ) → get_or xs i 0 < 256) → big_number 8 xs % 2 ^ 32 ≡ big_number 4 (drop 4 xs)
low_half xs few =
    let a = few 0 in let b = few 1 in let c = few 2 in let d = few 3 in let e = few 4 in let f = few 5 in let g = few 6 in let h = few 7 in
    let p = get_or-drop 4 xs 0 0 in let q = get_or-drop 4 xs 1 0 in let r = get_or-drop 4 xs 2 0 in let s = get_or-drop 4 xs 3 0 in
    omega (arith, a, b, c, d, e, f, g, h, p, q, r, s)

few_behind : (bytes : List ℕ) → Bytes bytes → (n i : ℕ) → get_or (drop n bytes) i 0 < 256
few_behind bytes all n i = few_at (drop n bytes) (All-drop (λ b. b < 256) n bytes all) i

tail_none : (bytes : List ℕ) (w : ℕ) → Bytes bytes → nat_eq (tail bytes w) 0 ≡ true →
    number_at 8 (8 * w) (drop (at.words_offset bytes) bytes) % 2 ^ 32 ≡ 0
tail_none bytes w all h =
    let ys = drop (8 * w) (drop (at.words_offset bytes) bytes) in
    let whole : ys ≡ drop (at.words_offset bytes + 8 * w) bytes = drop-drop (8 * w) (at.words_offset bytes) bytes in
    let few : (i : ℕ) → get_or ys i 0 < 256 = λ i. few_behind (drop (at.words_offset bytes) bytes) (All-drop (λ b. b < 256) (at.words_offset bytes) bytes all) (8 * w) i in
    low_half ys few
    ∙ ap (λ xs. big_number 4 (drop 4 xs)) whole
    ∙ ap (big_number 4) (drop-drop 4 (at.words_offset bytes + 8 * w) bytes)
    ∙ eqb-true (tail bytes w) 0 h

-- ---- references

reference_kept : (bytes : List ℕ) (k : ℕ) → Bytes bytes → list_all (λ f. f.1) (reference_fields bytes k) ≡ true →
    IsReference (at.name_count bytes) (words_in (at.word_count bytes) (drop (at.words_offset bytes) bytes)) (at.pair (drop (8 * k) (drop (at.references_offset bytes) bytes)))
reference_kept bytes k all h =
    let offset = at.references_offset bytes + 8 * k in
    let words = words_in (at.word_count bytes) (drop (at.words_offset bytes) bytes) in
    let p = and_parts (is_referring bytes k) _ h in
    let q = and_parts (nat_lt (number_at 4 (offset + 4) bytes) (at.name_count bytes)) true p.1 in
    let r = and_parts (nat_lt (referring bytes k) (at.word_count bytes) && nat_eq (tail bytes (referring bytes k)) 0) _ p.0 in
    let s = and_parts (nat_lt (referring bytes k) (at.word_count bytes)) (nat_eq (tail bytes (referring bytes k)) 0) r.0 in
    let inside = ltb-true (referring bytes k) (at.word_count bytes) s.0 in
    let zero_on : offset + 0 ≡ offset = omega arith in
    let same : number_at 4 0 (drop (8 * k) (drop (at.references_offset bytes) bytes)) ≡ referring bytes k =
    at_row 4 8 k 0 (at.references_offset bytes) bytes ∙ ap (λ m. number_at 4 m bytes) zero_on in
    let long = length-map-range_with_len (λ j. number_at 8 (8 * j) (drop (at.words_offset bytes) bytes)) 0 (at.word_count bytes) in
    let z : 0 + referring bytes k ≡ referring bytes k = omega arith in
    let word : slice_index words (referring bytes k) ≡ number_at 8 (8 * referring bytes k) (drop (at.words_offset bytes) bytes) =
    get_or-map-range_with_len (λ j. number_at 8 (8 * j) (drop (at.words_offset bytes) bytes)) 0 (at.word_count bytes) (referring bytes k) (referring bytes k) 0 inside z in
    record {
      word = subst (λ n. n < length words) (sym same) (omega (arith, long, inside));
      tail = subst (λ n. slice_index words n % 2 ^ 32 ≡ 0) (sym same) (ap (λ n. n % 2 ^ 32) word ∙ tail_none bytes (referring bytes k) all s.1);
      name = subst (λ n. n < at.name_count bytes) (sym (at_row 4 8 k 4 (at.references_offset bytes) bytes)) (ltb-true (number_at 4 (offset + 4) bytes) (at.name_count bytes) q.0);
    }

rising : (bytes : List ℕ) → ((k : ℕ) → k < at.reference_count bytes → list_all (λ f. f.1) (reference_fields bytes k) ≡ true) →
    AreRising (at.pairs (at.reference_count bytes) (drop (at.references_offset bytes) bytes))
rising bytes each k d below =
    let n = at.reference_count bytes in
    let row = λ (j : ℕ). at.pair (drop (8 * j) (drop (at.references_offset bytes) bytes)) in
    let long = length-map-range_with_len row 0 n in
    let inside : k + 1 < n = omega (arith, long) in
    let h = each (k + 1) inside in
    let p = and_parts (is_referring bytes (k + 1)) _ h in
    let q = and_parts (nat_lt (referring bytes (k + 1)) (at.word_count bytes) && nat_eq (tail bytes (referring bytes (k + 1))) 0) (nat_eq (k + 1) 0 || nat_lt (referring bytes (k + 1 - 1)) (referring bytes (k + 1))) p.0 in
    let back : k + 1 - 1 ≡ k = omega arith in
    let no_first : nat_eq (k + 1) 0 ≡ false = ne_eqb (k + 1) 0 (λ e. omega arith) in
    let r : nat_lt (referring bytes k) (referring bytes (k + 1)) ≡ true =
    ap (λ j. nat_lt (referring bytes j) (referring bytes (k + 1))) (sym back) ∙ ap (λ b. b || nat_lt (referring bytes (k + 1 - 1)) (referring bytes (k + 1))) (sym no_first) ∙ q.1 in
    let less = ltb-true (referring bytes k) (referring bytes (k + 1)) r in
    let here : (j : ℕ) → (row j).0 ≡ referring bytes j =
    λ j. at_row 4 8 j 0 (at.references_offset bytes) bytes ∙ ap (λ m. number_at 4 m bytes) (let zero_on : at.references_offset bytes + 8 * j + 0 ≡ at.references_offset bytes + 8 * j = omega arith in zero_on) in
    let z : 0 + k ≡ k = omega arith in
    let y : 0 + (k + 1) ≡ k + 1 = omega arith in
    let first : slice_index_or (at.pairs n (drop (at.references_offset bytes) bytes)) k d ≡ row k = get_or-map-range_with_len row 0 n k k d (omega arith) z in
    let second : slice_index_or (at.pairs n (drop (at.references_offset bytes) bytes)) (k + 1) d ≡ row (k + 1) = get_or-map-range_with_len row 0 n (k + 1) (k + 1) d inside y in
    subst (λ x. x.0 < (slice_index_or (at.pairs n (drop (at.references_offset bytes) bytes)) (k + 1) d).0) (sym first)
    (subst (λ x. (row k).0 < x.0) (sym second)
    (subst (λ m. m < (row (k + 1)).0) (sym (here k)) (subst (λ m. referring bytes k < m) (sym (here (k + 1))) less)))

-- ---- how many words the blocks have

sum_of_rows : {X : Type 0} (g : X → ℕ) (row : ℕ → X) (f : ℕ → ℕ) → ((k : ℕ) → g (row k) ≡ f k) → (n a : ℕ) → sum_by g (map row (range_with_len a n)) ≡ sum_by f (range_with_len a n)
sum_of_rows g row f same zero a = refl
sum_of_rows g row f same (suc n) a =
    let e = sum_by-cons g (row a) (map row (range_with_len (a + 1) n)) in
    let h = sum_by-cons f a (range_with_len (a + 1) n) in
    let ih = sum_of_rows g row f same n (a + 1) in
    let s = same a in
    omega (arith, e, h, ih, s)

pub words_of_blocks : (bytes : List ℕ) → block_words (at.blocks (at.block_count bytes) (drop (at.blocks_offset bytes) bytes)) ≡ sum_by (block_size bytes) (range_with_len 0 (at.block_count bytes))
words_of_blocks bytes =
    sum_of_rows (λ b. b.count) (λ k. at.block (drop (10 * k) (drop (at.blocks_offset bytes) bytes))) (block_size bytes)
    (λ k. at_row 2 10 k 8 (at.blocks_offset bytes) bytes) (at.block_count bytes) 0

-- ---- names are bytes

names_bytes : (n : ℕ) (xs : List ℕ) → Bytes xs → (k : ℕ) (d : List ℕ) → k < length (at.names n xs) → Bytes (get_or (at.names n xs) k d)
names_bytes zero xs all k d below = absurd (omega arith)
names_bytes (suc n) xs all zero d below = All-take (λ b. b < 256) (slice_index xs 0) (drop 1 xs) (All-drop (λ b. b < 256) 1 xs all)
names_bytes (suc n) xs all (suc k) d below =
    names_bytes n (drop (1 + slice_index xs 0) xs) (All-drop (λ b. b < 256) (1 + slice_index xs 0) xs all) k d (omega arith)

-- ---- all rules

pub keeps_rules : (bytes : List ℕ) → IsUnbroken bytes → Bytes bytes → IsModule (at.module_in bytes)
keeps_rules bytes u all =
    let o = at.module_in bytes in
    let h = u.header in
    let new = names_new (at.names_offset bytes) [] o.names u.names in
    let short = AllPass-from_list_all (λ n. is_between 1 32 (length n)) o.names new.0 in
    let counted = count_of_names (at.name_count bytes) (drop (at.names_offset bytes) bytes) in
    let blocks_long = length-map-range_with_len (λ k. at.block (drop (10 * k) (drop (at.blocks_offset bytes) bytes))) 0 (at.block_count bytes) in
    let words_long = length-map-range_with_len (λ k. number_at 8 (8 * k) (drop (at.words_offset bytes) bytes)) 0 (at.word_count bytes) in
    let references_long = length-map-range_with_len (λ k. at.pair (drop (8 * k) (drop (at.references_offset bytes) bytes))) 0 (at.reference_count bytes) in
    let labels_long = length-map-range_with_len (λ k. at.pair (drop (8 * k) (drop (at.labels_offset bytes) bytes))) 0 (at.label_count bytes) in
    let fit = eqb-true (at.word_count bytes) (sum_by (block_size bytes) (range_with_len 0 (at.block_count bytes))) h.words_fit in
    let summed = words_of_blocks bytes in
    let each_reference = each_row (reference_fields bytes) (at.reference_count bytes) u.references in
    let initial_few = length-take-le (at.initial_size bytes) (drop (at.initial_offset bytes) bytes) (let given = u.readable.given in omega (arith, given, length-drop (at.initial_offset bytes) bytes)) in
    record {
      description = u.readable.description;
      pages = h.pages;
      names = (
        omega (arith, counted, h.names),
        λ k d below. let b = between 1 32 (length (get_or o.names k d)) (short k d below) in (b.0, b.1, names_bytes (at.name_count bytes) (drop (at.names_offset bytes) bytes) (All-drop (λ b. b < 256) (at.names_offset bytes) bytes all) k d below),
        new.1,
      );
      blocks = (
        omega (arith, blocks_long, h.blocks),
        subst (λ n. All (IsBlock n) o.blocks) (sym counted)
            (each_made (IsBlock (at.name_count bytes)) (λ k. at.block (drop (10 * k) (drop (at.blocks_offset bytes) bytes))) (at.block_count bytes)
            (λ k below. block_kept bytes k (each_row (block_fields bytes) (at.block_count bytes) u.blocks k below))),
      );
      words = (
        omega (arith, words_long, h.words),
        words_long ∙ fit ∙ sym summed,
        each_made (λ w. w < 2 ^ 64) (λ k. number_at 8 (8 * k) (drop (at.words_offset bytes) bytes)) (at.word_count bytes)
            (λ k below. small_word (drop (8 * k) (drop (at.words_offset bytes) bytes)) (λ i. few_behind (drop (at.words_offset bytes) bytes) (All-drop (λ b. b < 256) (at.words_offset bytes) bytes all) (8 * k) i)),
      );
      references = (
        omega (arith, references_long, words_long, h.references),
        subst (λ n. All (IsReference n o.words) o.references) (sym counted)
            (each_made (IsReference (at.name_count bytes) o.words) (λ k. at.pair (drop (8 * k) (drop (at.references_offset bytes) bytes))) (at.reference_count bytes)
            (λ k below. reference_kept bytes k all (each_reference k below))),
        rising bytes each_reference,
      );
      labels = (
        omega (arith, labels_long, h.labels),
        subst (λ n. All (IsLabel n o.size) o.labels) (sym counted)
            (each_made (IsLabel (at.name_count bytes) o.size) (λ k. at.pair (drop (8 * k) (drop (at.labels_offset bytes) bytes))) (at.label_count bytes)
            (λ k below. label_kept bytes k (each_row (label_fields bytes) (at.label_count bytes) u.labels k below))),
      );
      size = h.size;
      initial = (omega (arith, initial_few, h.initial), All-take (λ b. b < 256) (at.initial_size bytes) (drop (at.initial_offset bytes) bytes) (All-drop (λ b. b < 256) (at.initial_offset bytes) bytes all));
    }
