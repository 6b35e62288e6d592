-- What was written is read again.
use Rattle.std.proofs.Common.{◌≡◌, ℕ, zero, suc, ◌+◌, ◌*◌, ◌%◌, ◌^◌, ◌<◌, Bool, true, false, cond, List, [], ◌∷◌, ◌++◌, length, take, drop, get_or, refl, sym, ap, ◌∙◌, arith, Option, Some, None}
use Rattle.std.specs.Prelude.{map, slice_index, IfSome}
use Rattle.std.proofs.lemmas.Bool.{not-false, ne_eqb}
use Rattle.std.specs.List.{range_with_len, flat_map}
use Rattle.std.proofs.lemmas.List.Elements.{All-get_or}
use Rattle.std.proofs.lemmas.List.{append_assoc, take_at, take_all, drop_at, drop-drop, length-append}
use Rattle.std.proofs.lemmas.List.FromFn.{fill_by_all}
use Rattle.byteorder.specs.Endian.{big_number, big_bytes}
use Rattle.byteorder.specs.Numbers.{big_number-reads_back, big_from-bytes}
use Rattle.machine_desc.specs.Description.{Description, IsDescription}
use Rattle.machine_desc.specs.Numbers.{are_ones}
use Rattle.image_format.specs.Layout.{number_at, words as words_in}
use Rattle.image_format.specs.Bytes.{needs_two}
use Rattle.image_format.proofs.ByKind.{units_by_kind, latencies_by_kind, busy_by_kind, nine_ones, equal}
use Rattle.image_format.proofs.ReadBack.{length_of_all, word_sized}
use Rattle.object_format.specs.declared.ObjBlock.{ObjBlock}
use Rattle.object_format.specs.Layout as at
use Rattle.object_format.specs.Module.{Module, IsModule, IsBlock}
use Rattle.object_format.specs.Bytes.{name_bytes, block_bytes, pair_bytes, numbers, tables, beginning, body, bytes_in}
use Rattle.object_format.proofs.Writable.{writable}

-- ---- things of one size, written one after another

-- what stands from the k-th on
from_kth : {X : Type 0} (write : X → List ℕ) (size : ℕ) → ((x : X) → length (write x) ≡ size) → (xs : List X) (rest : List ℕ) (k : ℕ) (d : X) →
    k < length xs → (after : List ℕ) × (drop (size * k) (flat_map write xs ++ rest) ≡ write (get_or xs k d) ++ after)
from_kth write size sized [] rest k d below = absurd (omega arith)
from_kth write size sized (x ∷ xs) rest zero d below =
    (flat_map write xs ++ rest, let z : size * zero ≡ zero = omega arith in ap (λ n. drop n ((write x ++ flat_map write xs) ++ rest)) z ∙ append_assoc (write x) (flat_map write xs) rest)
from_kth write size sized (x ∷ xs) rest (suc k) d below =
    let more = from_kth write size sized xs rest k d (omega arith) in
    let n : size * suc k ≡ size + size * k = omega arith in (
      more.0,
      ap (λ m. drop m ((write x ++ flat_map write xs) ++ rest)) n
          ∙ sym (drop-drop (size * k) size ((write x ++ flat_map write xs) ++ rest))
          ∙ ap (λ l. drop (size * k) (drop size l)) (append_assoc (write x) (flat_map write xs) rest)
          ∙ ap (drop (size * k)) (drop_at (write x) (flat_map write xs ++ rest) size (sized x))
          ∙ more.1,
    )

-- read again, they are the same
read_again : {X : Type 0} (write : X → List ℕ) (read : List ℕ → X) (size : ℕ) (Fits : X → Type 0) → ((x : X) → length (write x) ≡ size) →
    ((x : X) (rest : List ℕ) → Fits x → read (write x ++ rest) ≡ x) → (xs : List X) (rest : List ℕ) (d : X) → ((k : ℕ) → k < length xs → Fits (get_or xs k d)) →
    map (λ k. read (drop (size * k) (flat_map write xs ++ rest))) (range_with_len 0 (length xs)) ≡ xs
read_again write read size Fits sized reads xs rest d ok =
    sym (fill_by_all (λ k. read (drop (size * k) (flat_map write xs ++ rest))) xs (length xs) d refl
    (λ k below. let h = from_kth write size sized xs rest k d below in
    sym (ap read h.1 ∙ reads (get_or xs k d) h.0 (ok k below))))

-- a number
number : (n x : ℕ) (bytes rest : List ℕ) → bytes ≡ big_bytes n x ++ rest → x < 256 ^ n → big_number n bytes ≡ x
number n x bytes rest e h = ap (big_number n) e ∙ big_number-reads_back n x rest h

-- ---- a block

abbrev block_with : ℕ → Option ℕ → ℕ → ObjBlock
block_with name at count = record { name = name; at = at; count = count }

equal_blocks : (m n : ℕ) (a b : Option ℕ) (c d : ℕ) → m ≡ n → a ≡ b → c ≡ d → block_with m a c ≡ block_with n b d
equal_blocks m n a b c d e f g = cc

block_sized : (b : ObjBlock) → length (block_bytes b) ≡ 10
block_sized b = go b.name b.at b.count
  where
    go : (name : ℕ) (at : Option ℕ) (count : ℕ) → length (block_bytes (block_with name at count)) ≡ 10
    go name None count = refl
    go name (Some a) count = refl

fixed_again : (a : ℕ) → a < 131072 → at.fixed a ≡ Some a
fixed_again a below = ap (λ b. cond b None (Some a)) (ne_eqb a 0xFFFFFFFF (λ e. omega arith))

record FitsBlock (b : ObjBlock) : Type 0 where
  name : b.name < 2 ^ 32
  at : IfSome b.at (λ n. n < 131072)
  count : b.count < 2 ^ 16

block_reads : (b : ObjBlock) (rest : List ℕ) → FitsBlock b → at.block (block_bytes b ++ rest) ≡ b
block_reads b rest h = go b.name b.at b.count h.name h.at h.count
  where
    go : (name : ℕ) (a : Option ℕ) (count : ℕ) → name < 2 ^ 32 → IfSome a (λ n. n < 131072) → count < 2 ^ 16 →
        at.block (block_bytes (block_with name a count) ++ rest) ≡ block_with name a count
    go name None count e f g =
        let bytes = block_bytes (block_with name None count) ++ rest in
        equal_blocks (number_at 4 0 bytes) name (at.fixed (number_at 4 4 bytes)) None (number_at 2 8 bytes) count
        (number 4 name bytes (big_bytes 4 0xFFFFFFFF ++ (big_bytes 2 count ++ rest)) refl (omega (arith, e))) refl
        (number 2 count (drop 8 bytes) rest refl (omega (arith, g)))
    go name (Some a) count e f g =
        let bytes = block_bytes (block_with name (Some a) count) ++ rest in
        equal_blocks (number_at 4 0 bytes) name (at.fixed (number_at 4 4 bytes)) (Some a) (number_at 2 8 bytes) count
        (number 4 name bytes (big_bytes 4 a ++ (big_bytes 2 count ++ rest)) refl (omega (arith, e)))
        (ap at.fixed (number 4 a (drop 4 bytes) (big_bytes 2 count ++ rest) refl (let s : a < 131072 = f in omega (arith, s))) ∙ fixed_again a f)
        (number 2 count (drop 8 bytes) rest refl (omega (arith, g)))

-- ---- a pair of numbers

abbrev pair_with : ℕ → ℕ → ℕ × ℕ
pair_with m n = (m, n)

equal_pairs : (m n a b : ℕ) → m ≡ n → a ≡ b → pair_with m a ≡ pair_with n b
equal_pairs m n a b e f = cc

pair_sized : (p : ℕ × ℕ) → length (pair_bytes p) ≡ 8
pair_sized p = refl

abbrev FitsPair : ℕ × ℕ → Type 0
FitsPair p = (p.0 < 2 ^ 32) × (p.1 < 2 ^ 32)

pair_reads : (p : ℕ × ℕ) (rest : List ℕ) → FitsPair p → at.pair (pair_bytes p ++ rest) ≡ p
pair_reads p rest h =
    let bytes = pair_bytes p ++ rest in
    equal_pairs (number_at 4 0 bytes) p.0 (number_at 4 4 bytes) p.1
    (number 4 p.0 bytes (big_bytes 4 p.1 ++ rest) refl (omega (arith, h.0)))
    (number 4 p.1 (drop 4 bytes) rest refl (omega (arith, h.1)))

-- ---- names

pub names_read : (ns : List (List ℕ)) (rest : List ℕ) → at.names (length ns) (flat_map name_bytes ns ++ rest) ≡ ns
names_read [] rest = refl
names_read (n ∷ ns) rest =
    let more = flat_map name_bytes ns ++ rest in
    let flat : (n ++ flat_map name_bytes ns) ++ rest ≡ n ++ more = append_assoc n (flat_map name_bytes ns) rest in
    let s : 1 + length n ≡ suc (length n) = omega arith in
    ap (λ xs. take (length n) xs ∷ at.names (length ns) (drop (1 + length n) (length n ∷ xs))) flat
    ∙ ap (λ xs. xs ∷ at.names (length ns) (drop (1 + length n) (length n ∷ (n ++ more)))) (take_at n more (length n) refl)
    ∙ ap (λ m. n ∷ at.names (length ns) (drop m (length n ∷ (n ++ more)))) s
    ∙ ap (λ xs. n ∷ at.names (length ns) xs) (drop_at n more (length n) refl)
    ∙ ap (λ xs. n ∷ xs) (names_read ns rest)

pub names_walked : (ns : List (List ℕ)) (rest : List ℕ) → at.names_length (length ns) (flat_map name_bytes ns ++ rest) ≡ length (flat_map name_bytes ns)
names_walked [] rest = refl
names_walked (n ∷ ns) rest =
    let more = flat_map name_bytes ns ++ rest in
    let flat : (n ++ flat_map name_bytes ns) ++ rest ≡ n ++ more = append_assoc n (flat_map name_bytes ns) rest in
    let s : 1 + length n ≡ suc (length n) = omega arith in
    let later = names_walked ns rest in
    let long = length-append n (flat_map name_bytes ns) in
    let behind : drop (1 + length n) (length n ∷ ((n ++ flat_map name_bytes ns) ++ rest)) ≡ more =
    ap (λ xs. drop (1 + length n) (length n ∷ xs)) flat ∙ ap (λ m. drop m (length n ∷ (n ++ more))) s ∙ drop_at n more (length n) refl in
    ap (λ xs. 1 + length n + at.names_length (length ns) xs) behind
    ∙ ap (λ m. 1 + length n + m) later
    ∙ (omega (arith, long))

-- ---- the parts of a file

-- what follows the description
pub two_read : (two : Bool) (o : Module) → at.is_version_two (bytes_in two o) ≡ two
two_read true o = refl
two_read false o = refl

after_description : (two : Bool) (o : Module) → drop (at.numbers_offset (bytes_in two o)) (bytes_in two o) ≡ body o
after_description true o = refl
after_description false o = refl

behind : (two : Bool) (o : Module) (n : ℕ) → drop (at.numbers_offset (bytes_in two o) + n) (bytes_in two o) ≡ drop n (body o)
behind two o n =
    sym (drop-drop n (at.numbers_offset (bytes_in two o)) (bytes_in two o)) ∙ ap (drop n) (after_description two o)

-- what follows a part
next : (bytes here rest : List ℕ) (offset n : ℕ) → drop offset bytes ≡ here ++ rest → length here ≡ n → drop (offset + n) bytes ≡ rest
next bytes here rest offset n e l = sym (drop-drop n offset bytes) ∙ ap (drop n) e ∙ drop_at here rest n l

-- the tables and the initial bytes in one row
abbrev initial_on : Module → List ℕ
initial_on o = o.initial

abbrev labels_on : Module → List ℕ
labels_on o = flat_map pair_bytes o.labels ++ initial_on o

abbrev references_on : Module → List ℕ
references_on o = flat_map pair_bytes o.references ++ labels_on o

abbrev words_on : Module → List ℕ
words_on o = flat_map (λ w. big_bytes 8 w) o.words ++ references_on o

abbrev blocks_on : Module → List ℕ
blocks_on o = flat_map block_bytes o.blocks ++ words_on o

abbrev names_on : Module → List ℕ
names_on o = flat_map name_bytes o.names ++ blocks_on o

in_a_row : (n b w r l i : List ℕ) → (n ++ ((b ++ w) ++ (r ++ l))) ++ i ≡ n ++ (b ++ (w ++ (r ++ (l ++ i))))
in_a_row n b w r l i = simp append_assoc

row : (o : Module) → tables o ++ o.initial ≡ names_on o
row o =
    in_a_row (flat_map name_bytes o.names) (flat_map block_bytes o.blocks) (flat_map (λ w. big_bytes 8 w) o.words) (flat_map pair_bytes o.references)
    (flat_map pair_bytes o.labels) o.initial

module _ (two : Bool) (o : Module) (ok : IsModule o) where
  abbrev bytes : List ℕ
  bytes = bytes_in two o

  -- the numbers of the header
  header_read : (place x : ℕ) (rest : List ℕ) → drop place (body o) ≡ big_bytes 4 x ++ rest → x < 2 ^ 32 → at.header_number place bytes ≡ x
  header_read place x rest e h = number 4 x (drop (at.numbers_offset bytes + place) bytes) rest (behind two o place ∙ e) (omega (arith, h))

  abbrev rest : List ℕ
  rest = tables o ++ o.initial

  pub pages_read : at.pages bytes ≡ o.pages
  pages_read =
      number 2 o.pages (drop (at.numbers_offset bytes) bytes) (drop 2 (body o)) (after_description two o) (let h = ok.pages in omega (arith, h))

  pub name_count_read : at.name_count bytes ≡ length o.names
  name_count_read = header_read 2 (length o.names) (drop 6 (body o)) refl (writable o ok).names.0

  pub block_count_read : at.block_count bytes ≡ length o.blocks
  block_count_read = header_read 6 (length o.blocks) (drop 10 (body o)) refl (writable o ok).blocks

  pub word_count_read : at.word_count bytes ≡ length o.words
  word_count_read = header_read 10 (length o.words) (drop 14 (body o)) refl (writable o ok).words

  pub reference_count_read : at.reference_count bytes ≡ length o.references
  reference_count_read = header_read 14 (length o.references) (drop 18 (body o)) refl (writable o ok).references

  pub label_count_read : at.label_count bytes ≡ length o.labels
  label_count_read = header_read 18 (length o.labels) (drop 22 (body o)) refl (writable o ok).labels

  pub data_size_read : at.data_size bytes ≡ o.size
  data_size_read = header_read 22 o.size (drop 26 (body o)) refl (let h = ok.size in omega (arith, h))

  pub initial_size_read : at.initial_size bytes ≡ length o.initial
  initial_size_read = header_read 26 (length o.initial) (drop 30 (body o)) refl (writable o ok).initial

  pub name_bytes_read : at.name_bytes bytes ≡ length (flat_map name_bytes o.names)
  name_bytes_read = header_read 30 (length (flat_map name_bytes o.names)) rest refl (writable o ok).name_bytes

  -- where the names and the tables stand
  pub names_there : drop (at.names_offset bytes) bytes ≡ names_on o
  names_there = behind two o 34 ∙ row o

  blocks_there : drop (at.blocks_offset bytes) bytes ≡ blocks_on o
  blocks_there = next bytes (flat_map name_bytes o.names) (blocks_on o) (at.names_offset bytes) (at.name_bytes bytes) names_there (sym name_bytes_read)

  pub words_there : drop (at.words_offset bytes) bytes ≡ words_on o
  words_there = next bytes (flat_map block_bytes o.blocks) (words_on o) (at.blocks_offset bytes) (10 * at.block_count bytes) blocks_there
      (length_of_all block_bytes 10 block_sized o.blocks ∙ ap (λ n. 10 * n) (sym block_count_read))

  references_there : drop (at.references_offset bytes) bytes ≡ references_on o
  references_there = next bytes (flat_map (λ w. big_bytes 8 w) o.words) (references_on o) (at.words_offset bytes) (8 * at.word_count bytes) words_there
      (length_of_all (λ w. big_bytes 8 w) 8 word_sized o.words ∙ ap (λ n. 8 * n) (sym word_count_read))

  labels_there : drop (at.labels_offset bytes) bytes ≡ labels_on o
  labels_there = next bytes (flat_map pair_bytes o.references) (labels_on o) (at.references_offset bytes) (8 * at.reference_count bytes) references_there
      (length_of_all pair_bytes 8 pair_sized o.references ∙ ap (λ n. 8 * n) (sym reference_count_read))

  initial_there : drop (at.initial_offset bytes) bytes ≡ o.initial
  initial_there = next bytes (flat_map pair_bytes o.labels) o.initial (at.labels_offset bytes) (8 * at.label_count bytes) labels_there
      (length_of_all pair_bytes 8 pair_sized o.labels ∙ ap (λ n. 8 * n) (sym label_count_read))

  -- what they hold
  pub names_are : (at.module_in bytes).names ≡ o.names
  names_are =
      ap (λ n. at.names n (drop (at.names_offset bytes) bytes)) name_count_read ∙ ap (at.names (length o.names)) names_there
      ∙ names_read o.names (blocks_on o)

  pub names_end : at.names_length (at.name_count bytes) (drop (at.names_offset bytes) bytes) ≡ at.name_bytes bytes
  names_end =
      ap (λ n. at.names_length n (drop (at.names_offset bytes) bytes)) name_count_read ∙ ap (at.names_length (length o.names)) names_there
      ∙ names_walked o.names (blocks_on o) ∙ sym name_bytes_read

  blocks_are : (at.module_in bytes).blocks ≡ o.blocks
  blocks_are =
      let none : ObjBlock = block_with 0 None 0 in
      ap (λ n. at.blocks n (drop (at.blocks_offset bytes) bytes)) block_count_read ∙ ap (at.blocks (length o.blocks)) blocks_there
      ∙ read_again block_bytes at.block 10 FitsBlock block_sized block_reads o.blocks (words_on o) none
      (λ k below.
      let b = All-get_or (IsBlock (length o.names)) o.blocks k none below ok.blocks.1 in
      let few = ok.names.0 in
      let name = b.name in
      let count = b.count.1 in
      record { name = omega (arith, few, name); at = b.at; count = omega (arith, count) })

  words_are : (at.module_in bytes).words ≡ o.words
  words_are =
      ap (λ n. words_in n (drop (at.words_offset bytes) bytes)) word_count_read ∙ ap (words_in (length o.words)) words_there
      ∙ read_again (λ w. big_bytes 8 w) (big_number 8) 8 (λ w. w < 2 ^ 64) word_sized
      (λ w after h. big_number-reads_back 8 w after (omega (arith, h))) o.words (references_on o) 0
      (λ k below. All-get_or (λ w. w < 2 ^ 64) o.words k 0 below ok.words.2)

  references_are : (at.module_in bytes).references ≡ o.references
  references_are =
      ap (λ n. at.pairs n (drop (at.references_offset bytes) bytes)) reference_count_read ∙ ap (at.pairs (length o.references)) references_there
      ∙ read_again pair_bytes at.pair 8 FitsPair pair_sized pair_reads o.references (labels_on o) (0, 0)
      (λ k below.
      let r = ok.references.1 k (0, 0) below in
      let word = r.word in
      let name = r.name in
      let names = (writable o ok).names.0 in
      let words = (writable o ok).words in
      (omega (arith, word, words), omega (arith, name, names)))

  labels_are : (at.module_in bytes).labels ≡ o.labels
  labels_are =
      ap (λ n. at.pairs n (drop (at.labels_offset bytes) bytes)) label_count_read ∙ ap (at.pairs (length o.labels)) labels_there
      ∙ read_again pair_bytes at.pair 8 FitsPair pair_sized pair_reads o.labels o.initial (0, 0)
      (λ k below.
      let l = ok.labels.1 k (0, 0) below in
      let name = l.name in
      let offset = l.offset in
      let size = ok.size in
      let names = (writable o ok).names.0 in
      (omega (arith, name, names), omega (arith, offset, size)))

  initial_are : (at.module_in bytes).initial ≡ o.initial
  initial_are =
      ap (λ n. take n (drop (at.initial_offset bytes) bytes)) initial_size_read ∙ ap (take (length o.initial)) initial_there
      ∙ take_all (length o.initial) o.initial (omega arith)

  -- the tail of a word
  pub tail_read : (w : ℕ) → w < length o.words → number_at 4 (at.words_offset bytes + 8 * w + 4) bytes ≡ slice_index o.words w % 2 ^ 32
  tail_read w below =
      let h = from_kth (λ x. big_bytes 8 x) 8 word_sized o.words (references_on o) w 0 below in
      ap (big_number 4)
      (sym (drop-drop 4 (at.words_offset bytes + 8 * w) bytes)
      ∙ ap (drop 4) (sym (drop-drop (8 * w) (at.words_offset bytes) bytes) ∙ ap (drop (8 * w)) words_there ∙ h.1))
      ∙ big_from-bytes 4 (slice_index o.words w) h.0

-- the description
busy_read : (two : Bool) (o : Module) → IsDescription o.description → needs_two o.description ≡ two → at.busy_times (bytes_in two o) ≡ o.description.busy_times
busy_read true o ok e = busy_by_kind o.description ok
busy_read false o ok e = nine_ones o.description.busy_times ok.each.busy_times (not-false (are_ones o.description.busy_times) e)

description_read : (two : Bool) (o : Module) → IsDescription o.description → needs_two o.description ≡ two → (at.module_in (bytes_in two o)).description ≡ o.description
description_read true o ok e =
    let g = o.description in
    equal (at.module_in (bytes_in true o)).description g refl (units_by_kind g ok) (latencies_by_kind g ok) (busy_read true o ok e)
description_read false o ok e =
    let g = o.description in
    equal (at.module_in (bytes_in false o)).description g refl (units_by_kind g ok) (latencies_by_kind g ok) (busy_read false o ok e)

-- objects of equal parts
abbrev module_with : Description → ℕ → List (List ℕ) → List ObjBlock → List ℕ → (references labels : List (ℕ × ℕ)) → ℕ → List ℕ → Module
module_with d p n b w r l s i = record {
  description = d;
  pages = p;
  names = n;
  blocks = b;
  words = w;
  references = r;
  labels = l;
  size = s;
  initial = i;
}

equal_modules : (d d' : Description) (p p' : ℕ) (n n' : List (List ℕ)) (b b' : List ObjBlock) (w w' : List ℕ) (r r' l l' : List (ℕ × ℕ)) (s s' : ℕ) (i i' : List ℕ) →
    d ≡ d' → p ≡ p' → n ≡ n' → b ≡ b' → w ≡ w' → r ≡ r' → l ≡ l' → s ≡ s' → i ≡ i' → module_with d p n b w r l s i ≡ module_with d' p' n' b' w' r' l' s' i'
equal_modules d d' p p' n n' b b' w w' r r' l l' s s' i i' hd hp hn hb hw hr hl hs hi = cc

-- the object of the bytes
pub module_read : (two : Bool) (o : Module) → IsModule o → needs_two o.description ≡ two → at.module_in (bytes_in two o) ≡ o
module_read two o ok e =
    let m = at.module_in (bytes_in two o) in
    equal_modules m.description o.description m.pages o.pages m.names o.names m.blocks o.blocks m.words o.words m.references o.references m.labels o.labels
    m.size o.size m.initial o.initial
    (description_read two o ok.description e) (pages_read two o ok) (names_are two o ok) (blocks_are two o ok) (words_are two o ok)
    (references_are two o ok) (labels_are two o ok) (data_size_read two o ok) (initial_are two o ok)

-- how long a file is
pub length_written : (two : Bool) (o : Module) → IsModule o → length (bytes_in two o) ≡ at.given_length (bytes_in two o)
length_written two o ok =
    let bytes = bytes_in two o in
    let first : length (beginning two o) ≡ at.numbers_offset bytes = begun two in
    let header : length (numbers o) ≡ 34 = refl in
    let a = length-append (beginning two o) (body o) in
    let b = length-append (numbers o) (tables o ++ o.initial) in
    let r : length (tables o ++ o.initial) ≡ length (names_on o) = ap length (row o) in
    let c = length-append (flat_map name_bytes o.names) (blocks_on o) in
    let d = length-append (flat_map block_bytes o.blocks) (words_on o) in
    let e = length-append (flat_map (λ w. big_bytes 8 w) o.words) (references_on o) in
    let f = length-append (flat_map pair_bytes o.references) (labels_on o) in
    let g = length-append (flat_map pair_bytes o.labels) o.initial in
    let blocks = length_of_all block_bytes 10 block_sized o.blocks in
    let words = length_of_all (λ w. big_bytes 8 w) 8 word_sized o.words in
    let references = length_of_all pair_bytes 8 pair_sized o.references in
    let labels = length_of_all pair_bytes 8 pair_sized o.labels in
    omega (
      arith,
      first,
      header,
      a,
      b,
      r,
      c,
      d,
      e,
      f,
      g,
      blocks,
      words,
      references,
      labels,
      name_bytes_read two o ok,
      block_count_read two o ok,
      word_count_read two o ok,
      reference_count_read two o ok,
      label_count_read two o ok,
      initial_size_read two o ok,
    )
  where
    begun : (two : Bool) → length (beginning two o) ≡ at.numbers_offset (bytes_in two o)
    begun true = refl
    begun false = refl
