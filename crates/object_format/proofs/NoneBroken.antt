-- The file of an object breaks no rule.
use Rattle.std.proofs.Common.{◌≡◌, ℕ, zero, suc, ◌+◌, ◌-◌, ◌*◌, ◌%◌, ◌^◌, ◌<◌, ◌≤◌, Bool, true, false, not, cond, ◌&&◌, ◌||◌, List, [], ◌∷◌, ◌++◌, length, drop, All, refl, sym, ap, ◌∙◌, subst, arith, Option, Some, None}
use Rattle.std.specs.Prelude.{map, find, option_map, slice_index, slice_index_or, nat_eq, nat_lt, nat_le, bytes_eq, IfSome, sum_by}
use Rattle.std.specs.List.{range_with_len, list_any, list_all}
use Rattle.std.proofs.lemmas.Bool.{and_parts, and_from, or_right, le-leb, lt-ltb, eq-eqb, eqb-true}
use Rattle.std.proofs.lemmas.List.{length-drop, length-take-le}
use Rattle.std.proofs.lemmas.List.FromFn.{length-map-range_with_len, get_or-map-range_with_len}
use Rattle.machine_desc.specs.Numbers.{is_between, are_ones}
use Rattle.image_format.specs.Layout.{number_at}
use Rattle.image_format.specs.Bytes.{needs_two}
use Rattle.image_format.specs.Rules.{first_of}
use Rattle.object_format.specs.declared.ObjectFault.TheVariants as fault
use Rattle.object_format.specs.Layout as at
use Rattle.object_format.specs.Module.{Module, IsModule, IsName, IsBlock, IsReference, IsLabel, are_new}
use Rattle.object_format.specs.Bytes.{bytes_in, bytes_of}
use Rattle.object_format.specs.Laws.{HoldsModule}
use Rattle.object_format.specs.Rules.{Field, broken_in, first_in, names_from, is_new_name, block_fields, reference_fields, label_fields, block_size, referring, tail, is_referring, is_byte_in_range, needless_version, description, words_fit, names_fit, header, header_fields, names, blocks, references, labels, broken_field, has_magic, is_length_given, first_broken}
use Rattle.object_format.proofs.Described.{none_failing, is_between_from, byte_kept}
use Rattle.object_format.proofs.KeepsRules.{at_row, words_of_blocks}
use Rattle.object_format.proofs.ReadWritten.{count_of_names}
use Rattle.object_format.proofs.ReadBack.{two_read, module_read, length_written, word_count_read, names_end, tail_read}

-- all fields are kept, so none is broken
none_of : (fields : List Field) → list_all (λ f. f.1) fields ≡ true → broken_in fields ≡ None
none_of [] h = refl
none_of (f ∷ fs) h =
    let p = and_parts f.1 (list_all (λ g. g.1) fs) h in
    ap (λ b. option_map (λ g. g.0) (cond (not b) (Some f) (find (λ g. not g.1) fs))) p.0 ∙ none_of fs p.1

-- no part has a fault
none_in : (part : ℕ → Option ℕ) (from count : ℕ) → ((k : ℕ) → k < count → part (from + k) ≡ None) → first_in part from count ≡ None
none_in part from zero h = refl
none_in part from (suc n) h =
    let z : from ≡ from + zero = omega arith in
    ap (λ o. first_of o (first_in part (from + 1) n)) (ap part z ∙ h zero (omega arith))
    ∙ none_in part (from + 1) n (λ k below. let s : from + 1 + k ≡ from + suc k = omega arith in ap part s ∙ h (suc k) (omega arith))

each_row : (part : ℕ → List Field) (count : ℕ) → ((k : ℕ) → k < count → list_all (λ f. f.1) (part k) ≡ true) → first_in (λ k. broken_in (part k)) 0 count ≡ None
each_row part count h =
    none_in (λ k. broken_in (part k)) 0 count
    (λ k below. let z : 0 + k ≡ k = omega arith in ap (λ j. broken_in (part j)) z ∙ none_of (part k) (h k below))

-- each thing of a list that is made from a range
each_made : {X : Type 0} (P : X → Type 0) (f : ℕ → X) (n : ℕ) → All P (map f (range_with_len 0 n)) → (k : ℕ) → k < n → P (f k)
each_made P f n all k below =
    let z : 0 + k ≡ k = omega arith in
    subst P (get_or-map-range_with_len f 0 n k k (f k) below z) (all k (f k) (omega (arith, length-map-range_with_len f 0 n, below)))

-- names that are new and neither too short nor too long
names_kept : (offset : ℕ) (before ns : List (List ℕ)) → All IsName ns → are_new before ns ≡ true → names_from offset before ns ≡ None
names_kept offset before [] all h = refl
names_kept offset before (n ∷ ns) all h =
    let p = and_parts (not (list_any (bytes_eq n) before)) (are_new (before ++ n ∷ []) ns) h in
    let here = all 0 n (omega arith) in
    let new : is_new_name before n ≡ true =
    and_from (is_between 1 32 (length n)) (not (list_any (bytes_eq n) before)) (is_between_from 1 32 (length n) here.0 here.1) p.0 in
    ap (λ b. cond b (names_from (offset + (1 + length n)) (before ++ n ∷ []) ns) (Some offset)) new
    ∙ names_kept (offset + (1 + length n)) (before ++ n ∷ []) ns (λ k d below. all (suc k) d (omega arith)) p.1

address_kept : (n : ℕ) → IfSome (at.fixed n) (λ a. a < 131072) → (nat_eq n 0xFFFFFFFF || nat_lt n 131072) ≡ true
address_kept n h = go (nat_eq n 0xFFFFFFFF) h
  where
    go : (b : Bool) → IfSome (cond b None (Some n)) (λ a. a < 131072) → (b || nat_lt n 131072) ≡ true
    go true g = refl
    go false g = lt-ltb n 131072 g

-- the version isn't 2 for nothing
not_needless : (two one : Bool) → not one ≡ two → cond {A = Option ℕ} (two && one) (Some 15) None ≡ None
not_needless true true h = absurd (let k : ⊥ = cc in k)
not_needless true false h = refl
not_needless false one h = refl

-- a file begins and is as long as it should, its names end where it says, its version is needed, and it tells the tails of
-- the words of an object that keeps the rules
record IsFile (bytes : List ℕ) : Type 0 where
  magic : has_magic bytes ≡ true
  long : is_length_given bytes ≡ true
  names_end : names_fit bytes ≡ true
  needed : not (are_ones (at.busy_times bytes)) ≡ at.is_version_two bytes
  tails : (w : ℕ) → w < at.word_count bytes → tail bytes w ≡ slice_index (at.module_in bytes).words w % 2 ^ 32
  rules : IsModule (at.module_in bytes)

module _ (bytes : List ℕ) (file : IsFile bytes) where
  abbrev o : Module
  o = at.module_in bytes

  -- how many things there are
  name_count_is : length o.names ≡ at.name_count bytes
  name_count_is = count_of_names (at.name_count bytes) (drop (at.names_offset bytes) bytes)

  block_count_is : length o.blocks ≡ at.block_count bytes
  block_count_is = length-map-range_with_len (λ k. at.block (drop (10 * k) (drop (at.blocks_offset bytes) bytes))) 0 (at.block_count bytes)

  word_count_is : length o.words ≡ at.word_count bytes
  word_count_is = length-map-range_with_len (λ k. number_at 8 (8 * k) (drop (at.words_offset bytes) bytes)) 0 (at.word_count bytes)

  reference_count_is : length o.references ≡ at.reference_count bytes
  reference_count_is = length-map-range_with_len (λ k. at.pair (drop (8 * k) (drop (at.references_offset bytes) bytes))) 0 (at.reference_count bytes)

  label_count_is : length o.labels ≡ at.label_count bytes
  label_count_is = length-map-range_with_len (λ k. at.pair (drop (8 * k) (drop (at.labels_offset bytes) bytes))) 0 (at.label_count bytes)

  description_kept : description bytes ≡ None
  description_kept =
      ap (option_map (λ n. 4 + n))
      (ap (λ p. first_of p (needless_version bytes)) (none_failing (is_byte_in_range bytes) (at.numbers_offset bytes - 4) (byte_kept bytes file.rules.description))
      ∙ not_needless (at.is_version_two bytes) (are_ones (at.busy_times bytes)) file.needed)

  words_are_fit : words_fit bytes ≡ true
  words_are_fit =
      eq-eqb (at.word_count bytes) (sum_by (block_size bytes) (range_with_len 0 (at.block_count bytes)))
      (sym word_count_is ∙ file.rules.words.1 ∙ words_of_blocks bytes)

  initial_few : at.initial_size bytes ≤ at.data_size bytes
  initial_few =
      let p = and_parts (nat_le (at.names_offset bytes) (length bytes)) (nat_eq (length bytes) (at.given_length bytes)) file.long in
      let given = eqb-true (length bytes) (at.given_length bytes) p.1 in
      let long = length-take-le (at.initial_size bytes) (drop (at.initial_offset bytes) bytes) (omega (arith, given, length-drop (at.initial_offset bytes) bytes)) in
      let start = file.rules.initial.0 in
      omega (arith, long, start)

  header_kept : header bytes ≡ None
  header_kept =
      let few_names = file.rules.names.0 in
      let few_blocks = file.rules.blocks.0 in
      let few_words = file.rules.words.0 in
      let few_references = file.rules.references.0 in
      let few_labels = file.rules.labels.0 in
      let n = name_count_is in
      let b = block_count_is in
      let w = word_count_is in
      let r = reference_count_is in
      let l = label_count_is in
      none_of (header_fields bytes)
      (and_from (nat_le (at.pages bytes) 256) _ (le-leb (at.pages bytes) 256 file.rules.pages)
      (and_from (nat_le (at.name_count bytes) 262144) _ (le-leb (at.name_count bytes) 262144 (omega (arith, few_names, n)))
      (and_from (nat_le (at.block_count bytes) 131072) _ (le-leb (at.block_count bytes) 131072 (omega (arith, few_blocks, b)))
      (and_from (nat_le (at.word_count bytes) 131072 && words_fit bytes) _
      (and_from (nat_le (at.word_count bytes) 131072) (words_fit bytes) (le-leb (at.word_count bytes) 131072 (omega (arith, few_words, w))) words_are_fit)
      (and_from (nat_le (at.reference_count bytes) (at.word_count bytes)) _ (le-leb (at.reference_count bytes) (at.word_count bytes) (omega (arith, few_references, r, w)))
      (and_from (nat_le (at.label_count bytes) 262144) _ (le-leb (at.label_count bytes) 262144 (omega (arith, few_labels, l)))
      (and_from (nat_le (at.data_size bytes) 1048576) _ (le-leb (at.data_size bytes) 1048576 file.rules.size)
      (and_from (nat_le (at.initial_size bytes) (at.data_size bytes)) _ (le-leb (at.initial_size bytes) (at.data_size bytes) initial_few)
      (and_from (names_fit bytes) true file.names_end refl)))))))))

  all_names_kept : names bytes ≡ None
  all_names_kept = names_kept (at.names_offset bytes) [] o.names file.rules.names.1 file.rules.names.2

  blocks_kept : blocks bytes ≡ None
  blocks_kept =
      each_row (block_fields bytes) (at.block_count bytes)
      (λ k below.
      let offset = at.blocks_offset bytes + 10 * k in
      let zero_on : offset + 0 ≡ offset = omega arith in
      let b = each_made (IsBlock (length o.names)) (λ j. at.block (drop (10 * j) (drop (at.blocks_offset bytes) bytes))) (at.block_count bytes) file.rules.blocks.1 k below in
      let name : number_at 4 offset bytes < at.name_count bytes =
      subst (λ n. number_at 4 offset bytes < n) name_count_is (subst (λ n. n < length o.names) (at_row 4 10 k 0 (at.blocks_offset bytes) bytes ∙ ap (λ m. number_at 4 m bytes) zero_on) b.name) in
      let address : (nat_eq (number_at 4 (offset + 4) bytes) 0xFFFFFFFF || nat_lt (number_at 4 (offset + 4) bytes) 131072) ≡ true =
      address_kept (number_at 4 (offset + 4) bytes) (subst (λ n. IfSome (at.fixed n) (λ a. a < 131072)) (at_row 4 10 k 4 (at.blocks_offset bytes) bytes) b.at) in
      let count : (1 ≤ number_at 2 (offset + 8) bytes) × (number_at 2 (offset + 8) bytes ≤ 512) =
      subst (λ n. (1 ≤ n) × (n ≤ 512)) (at_row 2 10 k 8 (at.blocks_offset bytes) bytes) b.count in
      and_from (nat_lt (number_at 4 offset bytes) (at.name_count bytes)) _ (lt-ltb (number_at 4 offset bytes) (at.name_count bytes) name)
      (and_from (nat_eq (number_at 4 (offset + 4) bytes) 0xFFFFFFFF || nat_lt (number_at 4 (offset + 4) bytes) 131072) _ address
      (and_from (is_between 1 512 (number_at 2 (offset + 8) bytes)) true (is_between_from 1 512 (number_at 2 (offset + 8) bytes) count.0 count.1) refl)))

  -- the word of a reference
  referring_is : (k : ℕ) → (at.pair (drop (8 * k) (drop (at.references_offset bytes) bytes))).0 ≡ referring bytes k
  referring_is k =
      let zero_on : at.references_offset bytes + 8 * k + 0 ≡ at.references_offset bytes + 8 * k = omega arith in
      at_row 4 8 k 0 (at.references_offset bytes) bytes ∙ ap (λ m. number_at 4 m bytes) zero_on

  reference_is : (k : ℕ) → k < at.reference_count bytes → IsReference (length o.names) o.words (at.pair (drop (8 * k) (drop (at.references_offset bytes) bytes)))
  reference_is k below =
      each_made (IsReference (length o.names) o.words) (λ j. at.pair (drop (8 * j) (drop (at.references_offset bytes) bytes))) (at.reference_count bytes) file.rules.references.1 k below

  rises : (k : ℕ) → k < at.reference_count bytes → (nat_eq k 0 || nat_lt (referring bytes (k - 1)) (referring bytes k)) ≡ true
  rises zero below = refl
  rises (suc k) below =
      let row = λ (j : ℕ). at.pair (drop (8 * j) (drop (at.references_offset bytes) bytes)) in
      let n = at.reference_count bytes in
      let s : k + 1 ≡ suc k = omega arith in
      let back : suc k - 1 ≡ k = omega arith in
      let less = file.rules.references.2 k (row k) (omega (arith, below, reference_count_is)) in
      let z : 0 + k ≡ k = omega arith in
      let y : 0 + (k + 1) ≡ suc k = omega arith in
      let first : slice_index_or o.references k (row k) ≡ row k = get_or-map-range_with_len row 0 n k k (row k) (omega (arith, below)) z in
      let second : slice_index_or o.references (k + 1) (row k) ≡ row (suc k) = get_or-map-range_with_len row 0 n (k + 1) (suc k) (row k) (omega (arith, below)) y in
      let here : referring bytes k < referring bytes (suc k) =
      subst (λ m. m < referring bytes (suc k)) (ap (λ p. p.0) first ∙ referring_is k)
      (subst (λ m. (slice_index_or o.references k (row k)).0 < m) (ap (λ p. p.0) second ∙ referring_is (suc k)) less) in
      or_right (nat_eq (suc k) 0) (nat_lt (referring bytes (suc k - 1)) (referring bytes (suc k)))
      (ap (λ j. nat_lt (referring bytes j) (referring bytes (suc k))) back ∙ lt-ltb (referring bytes k) (referring bytes (suc k)) here)

  references_kept : references bytes ≡ None
  references_kept =
      each_row (reference_fields bytes) (at.reference_count bytes)
      (λ k below.
      let offset = at.references_offset bytes + 8 * k in
      let r = reference_is k below in
      let w = referring bytes k in
      let inside : w < at.word_count bytes = subst (λ n. w < n) word_count_is (subst (λ n. n < length o.words) (referring_is k) r.word) in
      let none : tail bytes w ≡ 0 = file.tails w inside ∙ subst (λ n. slice_index o.words n % 2 ^ 32 ≡ 0) (referring_is k) r.tail in
      let name : number_at 4 (offset + 4) bytes < at.name_count bytes =
      subst (λ n. number_at 4 (offset + 4) bytes < n) name_count_is (subst (λ n. n < length o.names) (at_row 4 8 k 4 (at.references_offset bytes) bytes) r.name) in
      and_from (is_referring bytes k) _
      (and_from (nat_lt w (at.word_count bytes) && nat_eq (tail bytes w) 0) _
      (and_from (nat_lt w (at.word_count bytes)) (nat_eq (tail bytes w) 0) (lt-ltb w (at.word_count bytes) inside) (eq-eqb (tail bytes w) 0 none)) (rises k below))
      (and_from (nat_lt (number_at 4 (offset + 4) bytes) (at.name_count bytes)) true (lt-ltb (number_at 4 (offset + 4) bytes) (at.name_count bytes) name) refl))

  labels_kept : labels bytes ≡ None
  labels_kept =
      each_row (label_fields bytes) (at.label_count bytes)
      (λ k below.
      let offset = at.labels_offset bytes + 8 * k in
      let zero_on : offset + 0 ≡ offset = omega arith in
      let l = each_made (IsLabel (length o.names) o.size) (λ j. at.pair (drop (8 * j) (drop (at.labels_offset bytes) bytes))) (at.label_count bytes) file.rules.labels.1 k below in
      let name : number_at 4 offset bytes < at.name_count bytes =
      subst (λ n. number_at 4 offset bytes < n) name_count_is (subst (λ n. n < length o.names) (at_row 4 8 k 0 (at.labels_offset bytes) bytes ∙ ap (λ m. number_at 4 m bytes) zero_on) l.name) in
      let within : number_at 4 (offset + 4) bytes ≤ at.data_size bytes = subst (λ n. n ≤ at.data_size bytes) (at_row 4 8 k 4 (at.labels_offset bytes) bytes) l.offset in
      and_from (nat_lt (number_at 4 offset bytes) (at.name_count bytes)) _ (lt-ltb (number_at 4 offset bytes) (at.name_count bytes) name)
      (and_from (nat_le (number_at 4 (offset + 4) bytes) (at.data_size bytes)) true (le-leb (number_at 4 (offset + 4) bytes) (at.data_size bytes) within) refl))

  fields_kept : broken_field bytes ≡ None
  fields_kept =
      ap (λ x. first_of x (first_of (header bytes) (first_of (names bytes) (first_of (blocks bytes) (first_of (references bytes) (labels bytes)))))) description_kept
      ∙ ap (λ x. first_of x (first_of (names bytes) (first_of (blocks bytes) (first_of (references bytes) (labels bytes))))) header_kept
      ∙ ap (λ x. first_of x (first_of (blocks bytes) (first_of (references bytes) (labels bytes)))) all_names_kept
      ∙ ap (λ x. first_of x (first_of (references bytes) (labels bytes))) blocks_kept
      ∙ ap (λ x. first_of x (labels bytes)) references_kept ∙ labels_kept

  kept : first_broken bytes ≡ None
  kept =
      ap (λ b. cond (not b) (Some fault.Magic) (cond (not (is_length_given bytes)) (Some fault.Length) (option_map (λ n. fault.Field n) (broken_field bytes)))) file.magic
      ∙ ap (λ b. cond (not b) (Some fault.Length) (option_map (λ n. fault.Field n) (broken_field bytes))) file.long
      ∙ ap (option_map (λ n. fault.Field n)) fields_kept

-- the file of an object is such a file
written : (two : Bool) (o : Module) → IsModule o → needs_two o.description ≡ two → IsFile (bytes_in two o)
written two o ok e =
    let bytes = bytes_in two o in
    let same = module_read two o ok e in
    let long = length_written two o ok in
    record {
      magic = begins two;
      long =
          and_from (nat_le (at.names_offset bytes) (length bytes)) (nat_eq (length bytes) (at.given_length bytes)) (le-leb (at.names_offset bytes) (length bytes) (omega (arith, long)))
          (eq-eqb (length bytes) (at.given_length bytes) long);
      names_end = eq-eqb (at.names_length (at.name_count bytes) (drop (at.names_offset bytes) bytes)) (at.name_bytes bytes) (names_end two o ok);
      needed = ap (λ (m : Module). needs_two m.description) same ∙ e ∙ sym (two_read two o);
      tails = λ w below.
          let w_there : w < length o.words = subst (λ n. w < n) (word_count_read two o ok) below in
          tail_read two o ok w w_there ∙ ap (λ (m : Module). slice_index m.words w % 2 ^ 32) (sym same);
      rules = subst IsModule (sym same) ok;
    }
  where
    begins : (two : Bool) → has_magic (bytes_in two o) ≡ true
    begins true = refl
    begins false = refl

-- the file of an object breaks no rule, and holds that object
pub holds : (o : Module) → IsModule o → HoldsModule (bytes_of o) o
holds o ok = record {
  kept = kept (bytes_of o) (written (needs_two o.description) o ok refl);
  same = module_read (needs_two o.description) o ok refl;
}
