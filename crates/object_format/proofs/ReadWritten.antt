-- What was read is written again.
use Rattle.std.proofs.Common.{◌≡◌, ℕ, zero, suc, ◌+◌, ◌-◌, ◌*◌, ◌<◌, ◌≤◌, Bool, true, false, cond, List, [], ◌∷◌, ◌++◌, length, take, drop, All, refl, sym, ap, ◌∙◌, arith, None, Some}
use Rattle.std.specs.Prelude.{map, slice_index, nat_eq}
use Rattle.std.specs.List.{range_with_len, flat_map}
use Rattle.std.proofs.Math.Seq.{take-add}
use Rattle.std.proofs.lemmas.Bool.{eqb-true}
use Rattle.std.proofs.lemmas.List.{append_assoc, drop-drop, length-drop, length-take-le, get_or-drop, get_or-take, take-append-drop, take_all}
use Rattle.std.proofs.lemmas.List.Elements.{All-drop}
use Rattle.std.proofs.lemmas.List.FromFn.{fill_by_all, length-map-range_with_len}
use Rattle.byteorder.specs.Endian.{big_number, big_bytes}
use Rattle.tnk_base.proofs.ReadWritten.{written_again, written_again_at}
use Rattle.machine_desc.specs.Numbers.{description, ones}
use Rattle.image_format.specs.Layout.{number_at}
use Rattle.image_format.specs.Bytes.{description_bytes}
use Rattle.object_format.specs.Layout as at
use Rattle.object_format.specs.Readable.{IsReadable}
use Rattle.object_format.specs.Bytes.{name_bytes, address_bytes, block_bytes, pair_bytes, magic, bytes_in, bytes_of}
use Rattle.object_format.proofs.HeaderKept.{numbers_near}
use Rattle.object_format.proofs.Unbroken.{IsUnbroken}

-- a list of bytes
abbrev pub Bytes : List ℕ → Type 0
Bytes bytes = All (λ b. b < 256) bytes

-- things of one size, read one after another from the a-th on, and written again
written_from : {X : Type 0} (write : X → List ℕ) (read : List ℕ → X) (size : ℕ) →
    ((bytes : List ℕ) → size ≤ length bytes → Bytes bytes → write (read bytes) ≡ take size bytes) →
    (bytes : List ℕ) → Bytes bytes → (n a : ℕ) → size * (a + n) ≤ length bytes →
    flat_map write (map (λ k. read (drop (size * k) bytes)) (range_with_len a n)) ≡ take (size * n) (drop (size * a) bytes)
written_from write read size one bytes all zero a there =
    let z : size * zero ≡ zero = omega arith in ap (λ (m : ℕ). take m (drop (size * a) bytes)) (sym z)
written_from write read size one bytes all (suc n) a there =
    let s : size * suc n ≡ size + size * n = omega arith in
    let m : size * (a + suc n) ≡ size * a + (size + size * n) = omega arith in
    let next : size * (a + 1) ≡ size * a + size = omega arith in
    let first = one (drop (size * a) bytes) (omega (arith, length-drop (size * a) bytes)) (All-drop (λ b. b < 256) (size * a) bytes all) in
    let rest = written_from write read size one bytes all n (a + 1) (let e : size * (a + 1 + n) ≡ size * (a + suc n) = ap (λ (x : ℕ). size * x) (omega arith) in omega arith) in
    ap (λ (xs : List ℕ). xs ++ flat_map write (map (λ k. read (drop (size * k) bytes)) (range_with_len (a + 1) n))) first
    ∙ ap (λ (xs : List ℕ). take size (drop (size * a) bytes) ++ xs)
    (rest ∙ ap (λ (x : ℕ). take (size * n) (drop x bytes)) next ∙ ap (take (size * n)) (sym (drop-drop size (size * a) bytes)))
    ∙ sym (take-add size (size * n) (drop (size * a) bytes))
    ∙ ap (λ (x : ℕ). take x (drop (size * a) bytes)) (sym s)

written_all : {X : Type 0} (write : X → List ℕ) (read : List ℕ → X) (size : ℕ) →
    ((bytes : List ℕ) → size ≤ length bytes → Bytes bytes → write (read bytes) ≡ take size bytes) →
    (bytes : List ℕ) → Bytes bytes → (n : ℕ) → size * n ≤ length bytes →
    flat_map write (map (λ k. read (drop (size * k) bytes)) (range_with_len 0 n)) ≡ take (size * n) bytes
written_all write read size one bytes all n there =
    let e : size * (0 + n) ≡ size * n = ap (λ (x : ℕ). size * x) (omega arith) in
    let z : size * 0 ≡ 0 = omega arith in
    written_from write read size one bytes all n 0 (omega arith)
    ∙ ap (λ (x : ℕ). take (size * n) (drop x bytes)) z

-- a fixed address, or none
address_written : (n : ℕ) → address_bytes (at.fixed n) ≡ big_bytes 4 n
address_written n = go (nat_eq n 0xFFFFFFFF) refl
  where
    go : (b : Bool) → nat_eq n 0xFFFFFFFF ≡ b → address_bytes (cond b None (Some n)) ≡ big_bytes 4 n
    go true e = sym (ap (big_bytes 4) (eqb-true n 0xFFFFFFFF e))
    go false e = refl

-- a block
block_written : (bytes : List ℕ) → 10 ≤ length bytes → Bytes bytes → block_bytes (at.block bytes) ≡ take 10 bytes
block_written bytes there all =
    ap (λ (xs : List ℕ). xs ++ (address_bytes (at.fixed (number_at 4 4 bytes)) ++ big_bytes 2 (number_at 2 8 bytes))) (written_again 4 bytes (omega arith) all)
    ∙ ap (λ (xs : List ℕ). take 4 bytes ++ (xs ++ big_bytes 2 (number_at 2 8 bytes))) (address_written (number_at 4 4 bytes) ∙ written_again_at 4 4 bytes (omega arith) all)
    ∙ ap (λ (xs : List ℕ). take 4 bytes ++ (take 4 (drop 4 bytes) ++ xs)) (written_again_at 2 8 bytes (omega arith) all)
    ∙ ap (λ (xs : List ℕ). take 4 bytes ++ (take 4 (drop 4 bytes) ++ take 2 xs)) (sym (drop-drop 4 4 bytes))
    ∙ ap (λ (xs : List ℕ). take 4 bytes ++ xs) (sym (take-add 4 2 (drop 4 bytes)))
    ∙ sym (take-add 4 6 bytes)

-- two numbers
pair_written : (bytes : List ℕ) → 8 ≤ length bytes → Bytes bytes → pair_bytes (at.pair bytes) ≡ take 8 bytes
pair_written bytes there all =
    ap (λ (xs : List ℕ). xs ++ big_bytes 4 (number_at 4 4 bytes)) (written_again 4 bytes (omega arith) all)
    ∙ ap (λ (xs : List ℕ). take 4 bytes ++ xs) (written_again_at 4 4 bytes (omega arith) all)
    ∙ sym (take-add 4 4 bytes)

-- names
first_byte : (xs : List ℕ) → 1 ≤ length xs → slice_index xs 0 ∷ drop 1 xs ≡ xs
first_byte [] some = absurd (omega arith)
first_byte (x ∷ xs) some = refl

taken_behind : (b : ℕ) (xs : List ℕ) → 1 ≤ length xs → slice_index xs 0 ∷ take b (drop 1 xs) ≡ take (1 + b) xs
taken_behind b [] some = absurd (omega arith)
taken_behind b (x ∷ xs) some = let e : suc b ≡ 1 + b = omega arith in ap (λ n. take n (x ∷ xs)) e

names_written : (n : ℕ) (xs : List ℕ) → at.names_length n xs ≤ length xs → flat_map name_bytes (at.names n xs) ≡ take (at.names_length n xs) xs
names_written zero xs there = refl
names_written (suc n) xs there =
    let b = slice_index xs 0 in
    let rest = drop (1 + b) xs in
    let long : length (take b (drop 1 xs)) ≡ b = length-take-le b (drop 1 xs) (omega (arith, length-drop 1 xs)) in
    ap (λ k. (k ∷ take b (drop 1 xs)) ++ flat_map name_bytes (at.names n rest)) long
    ∙ ap (λ ys. ys ++ flat_map name_bytes (at.names n rest)) (taken_behind b xs (omega arith))
    ∙ ap (λ ys. take (1 + b) xs ++ ys) (names_written n rest (omega (arith, length-drop (1 + b) xs)))
    ∙ sym (take-add (1 + b) (at.names_length n rest) xs)

pub count_of_names : (n : ℕ) (xs : List ℕ) → length (at.names n xs) ≡ n
count_of_names zero xs = refl
count_of_names (suc n) xs = let e = count_of_names n (drop (1 + slice_index xs 0) xs) in omega (arith, e)

-- a part that stands at an offset, and what follows it
part : (n offset : ℕ) (bytes here rest : List ℕ) → here ≡ take n (drop offset bytes) → rest ≡ drop (offset + n) bytes → here ++ rest ≡ drop offset bytes
part n offset bytes here rest e f =
    ap (λ (xs : List ℕ). xs ++ rest) e
    ∙ ap (λ (xs : List ℕ). take n (drop offset bytes) ++ xs) (f ∙ sym (drop-drop n offset bytes))
    ∙ take-append-drop n (drop offset bytes)

-- the numbers of the description, in version 1 and in version 2
numbers_in : (count : ℕ) (bytes : List ℕ) → 4 + count ≤ length bytes → map (λ n. slice_index bytes (4 + n)) (range_with_len 0 count) ≡ take count (drop 4 bytes)
numbers_in count bytes there =
    sym (fill_by_all (λ n. slice_index bytes (4 + n)) (take count (drop 4 bytes)) count 0
    (length-take-le count (drop 4 bytes) (omega (arith, length-drop 4 bytes)))
    (λ k below. get_or-take count (drop 4 bytes) k 0 below ∙ get_or-drop 4 bytes k 0))

described : (two : Bool) (bytes : List ℕ) → cond two 28 19 ≤ length bytes →
    description_bytes two (description (at.width bytes) (at.units bytes) (at.latencies bytes) (cond two (at.written_busy_times bytes) ones))
    ≡ take (cond two 28 19 - 4) (drop 4 bytes)
described true bytes there = numbers_in 24 bytes there
described false bytes there = numbers_in 15 bytes there

-- a number of the header
number_written : (n offset x : ℕ) (bytes : List ℕ) → Bytes bytes → offset + n ≤ length bytes → x ≡ number_at n offset bytes →
    big_bytes n x ≡ take n (drop offset bytes)
number_written n offset x bytes all there e = ap (big_bytes n) e ∙ written_again_at n offset bytes there all

-- a part, where what follows it stands at a given offset
part_to : (n offset next : ℕ) (bytes here rest : List ℕ) → offset + n ≡ next → here ≡ take n (drop offset bytes) → rest ≡ drop next bytes → here ++ rest ≡ drop offset bytes
part_to n offset next bytes here rest s e f = part n offset bytes here rest e (f ∙ ap (λ m. drop m bytes) (sym s))

-- the parts of a file in one row
in_a_row : (a b c d e f g h i j k l m n o p q : List ℕ) →
    (a ++ b) ++ ((c ++ ((d ++ (e ++ (f ++ (g ++ h)))) ++ ((i ++ j) ++ k))) ++ ((l ++ ((m ++ n) ++ (o ++ p))) ++ q))
    ≡ a ++ (b ++ (c ++ (d ++ (e ++ (f ++ (g ++ (h ++ (i ++ (j ++ (k ++ (l ++ (m ++ (n ++ (o ++ (p ++ q)))))))))))))))
in_a_row a b c d e f g h i j k l m n o p q = simp append_assoc

in_version : (bytes : List ℕ) → IsReadable bytes → Bytes bytes → take 4 bytes ≡ magic (at.is_version_two bytes) →
    at.names_length (at.name_count bytes) (drop (at.names_offset bytes) bytes) ≡ at.name_bytes bytes → bytes_in (at.is_version_two bytes) (at.module_in bytes) ≡ bytes
in_version bytes ok all begins walked =
    let o = at.module_in bytes in
    let two = at.is_version_two bytes in
    let z = at.numbers_offset bytes in
    let near = numbers_near two in
    let there = ok.header in
    let given = ok.given in
    let names = flat_map name_bytes o.names in
    let blocks = flat_map block_bytes o.blocks in
    let words = flat_map (λ w. big_bytes 8 w) o.words in
    let references = flat_map pair_bytes o.references in
    let labels = flat_map pair_bytes o.labels in
    let behind = length-drop (at.names_offset bytes) bytes in
    let names_are : names ≡ take (at.name_bytes bytes) (drop (at.names_offset bytes) bytes) =
    names_written (at.name_count bytes) (drop (at.names_offset bytes) bytes) (omega (arith, behind, walked, given)) ∙ ap (λ n. take n (drop (at.names_offset bytes) bytes)) walked in
    let names_long : length names ≡ at.name_bytes bytes = ap length names_are ∙ length-take-le (at.name_bytes bytes) (drop (at.names_offset bytes) bytes) (omega (arith, behind, given)) in
    let table : (offset : ℕ) → length (drop offset bytes) ≡ length bytes - offset = λ offset. length-drop offset bytes in
    let initial_long : length o.initial ≡ at.initial_size bytes = length-take-le (at.initial_size bytes) (drop (at.initial_offset bytes) bytes) (omega (arith, given, table (at.initial_offset bytes))) in
    let initial_are : o.initial ≡ drop (at.initial_offset bytes) bytes = take_all (at.initial_size bytes) (drop (at.initial_offset bytes) bytes) (omega (arith, given, table (at.initial_offset bytes))) in
    let from = λ (offset : ℕ). All-drop (λ b. b < 256) offset bytes all in
    let count = λ (place x : ℕ) (inside : z + place + 4 ≤ length bytes) (e : x ≡ at.header_number place bytes). number_written 4 (z + place) x bytes all inside e in
    in_a_row (magic two) (description_bytes two o.description) (big_bytes 2 o.pages) (big_bytes 4 (length o.names)) (big_bytes 4 (length o.blocks)) (big_bytes 4 (length o.words))
    (big_bytes 4 (length o.references)) (big_bytes 4 (length o.labels)) (big_bytes 4 o.size) (big_bytes 4 (length o.initial)) (big_bytes 4 (length names)) names blocks words references labels o.initial
    ∙ part 4 0 bytes (magic two) _ (sym begins)
    (part_to (z - 4) 4 z bytes (description_bytes two o.description) _ (omega (arith, near.0)) (described two bytes (omega (arith, there)))
    (part_to 2 z (z + 2) bytes (big_bytes 2 o.pages) _ refl (number_written 2 z o.pages bytes all (omega (arith, there)) refl)
    (part_to 4 (z + 2) (z + 6) bytes (big_bytes 4 (length o.names)) _ (omega arith) (count 2 (length o.names) (omega (arith, there)) (count_of_names (at.name_count bytes) (drop (at.names_offset bytes) bytes)))
    (part_to 4 (z + 6) (z + 10) bytes (big_bytes 4 (length o.blocks)) _ (omega arith) (count 6 (length o.blocks) (omega (arith, there)) (length-map-range_with_len _ 0 (at.block_count bytes)))
    (part_to 4 (z + 10) (z + 14) bytes (big_bytes 4 (length o.words)) _ (omega arith) (count 10 (length o.words) (omega (arith, there)) (length-map-range_with_len _ 0 (at.word_count bytes)))
    (part_to 4 (z + 14) (z + 18) bytes (big_bytes 4 (length o.references)) _ (omega arith) (count 14 (length o.references) (omega (arith, there)) (length-map-range_with_len _ 0 (at.reference_count bytes)))
    (part_to 4 (z + 18) (z + 22) bytes (big_bytes 4 (length o.labels)) _ (omega arith) (count 18 (length o.labels) (omega (arith, there)) (length-map-range_with_len _ 0 (at.label_count bytes)))
    (part_to 4 (z + 22) (z + 26) bytes (big_bytes 4 o.size) _ (omega arith) (count 22 o.size (omega (arith, there)) refl)
    (part_to 4 (z + 26) (z + 30) bytes (big_bytes 4 (length o.initial)) _ (omega arith) (count 26 (length o.initial) (omega (arith, there)) initial_long)
    (part_to 4 (z + 30) (z + 34) bytes (big_bytes 4 (length names)) _ (omega arith) (count 30 (length names) (omega (arith, there)) names_long)
    (part (at.name_bytes bytes) (at.names_offset bytes) bytes names _ names_are
    (part (10 * at.block_count bytes) (at.blocks_offset bytes) bytes blocks _
    (written_all block_bytes at.block 10 block_written (drop (at.blocks_offset bytes) bytes) (from (at.blocks_offset bytes)) (at.block_count bytes) (omega (arith, given, table (at.blocks_offset bytes))))
    (part (8 * at.word_count bytes) (at.words_offset bytes) bytes words _
    (written_all (λ w. big_bytes 8 w) (big_number 8) 8 (written_again 8) (drop (at.words_offset bytes) bytes) (from (at.words_offset bytes)) (at.word_count bytes) (omega (arith, given, table (at.words_offset bytes))))
    (part (8 * at.reference_count bytes) (at.references_offset bytes) bytes references _
    (written_all pair_bytes at.pair 8 pair_written (drop (at.references_offset bytes) bytes) (from (at.references_offset bytes)) (at.reference_count bytes) (omega (arith, given, table (at.references_offset bytes))))
    (part (8 * at.label_count bytes) (at.labels_offset bytes) bytes labels o.initial
    (written_all pair_bytes at.pair 8 pair_written (drop (at.labels_offset bytes) bytes) (from (at.labels_offset bytes)) (at.label_count bytes) (omega (arith, given, table (at.labels_offset bytes))))
    initial_are)))))))))))))))

-- bytes that break no rule are the file of the object that they hold
pub all_written : (bytes : List ℕ) → IsUnbroken bytes → Bytes bytes → bytes_of (at.module_in bytes) ≡ bytes
all_written bytes u all = ap (λ two. bytes_in two (at.module_in bytes)) u.needed ∙ in_version bytes u.readable all u.magic u.walked
