-- The rules on the fields of an object file, in their order.
use Rattle.std.specs.Prelude.{ℕ, zero, suc, ◌+◌, ◌-◌, ◌*◌, ◌≡◌, Bool, not, ◌&&◌, ◌||◌, nat_eq, nat_lt, nat_le, bytes_eq, List, [], ◌∷◌, ◌++◌, length, take, drop, slice_index, find, codes, Option, Some, None, option_map, sum_by, if◌then◌else◌}
use Rattle.std.specs.List.{range_with_len, list_any}
use Rattle.machine_desc.specs.Numbers.{is_between, are_ones}
use Rattle.image_format.specs.Layout.{number_at}
use Rattle.image_format.specs.Rules.{first_of, least_failing, is_number_in_range}
use Rattle.object_format.specs.declared.ObjectFault.{ObjectFault}
use Rattle.object_format.specs.declared.ObjectFault.TheVariants as fault
use Rattle.object_format.specs.Layout as at

-- a field: its offset, and whether its rule is kept
abbrev pub Field : Type 0
Field = ℕ × Bool

-- the offset of the first field whose rule is broken
abbrev pub broken_in : List Field → Option ℕ
broken_in fields = option_map (λ f. f.0) (find (λ f. not f.1) fields)

-- the first of those that so many parts have, from one on
abbrev pub first_in : (ℕ → Option ℕ) → (from count : ℕ) → Option ℕ
first_in part from zero = None
first_in part from (suc n) = first_of (part from) (first_in part (from + 1) n)

-- ---- the rules, by rising offset

-- the description's byte n is in its range; nine bytes before a busy time stands its latency
abbrev pub is_byte_in_range : List ℕ → ℕ → Bool
is_byte_in_range bytes n = is_number_in_range n (slice_index bytes (n - 5)) (slice_index bytes (4 + n))

-- the version is 2 where version 1 would do: then the place is that of the first busy time
abbrev pub needless_version : List ℕ → Option ℕ
needless_version bytes = if at.is_version_two bytes && are_ones (at.busy_times bytes) then Some 15 else None

-- the place of the first byte of the description that is out of its range, or else of a needless version
abbrev pub broken_place : List ℕ → Option ℕ
broken_place bytes = first_of (least_failing (is_byte_in_range bytes) (at.numbers_offset bytes - 4)) (needless_version bytes)

-- the description
abbrev pub description : List ℕ → Option ℕ
description bytes = option_map (λ n. 4 + n) (broken_place bytes)

-- how many words block k has
abbrev pub block_size : List ℕ → ℕ → ℕ
block_size bytes k = number_at 2 (at.blocks_offset bytes + 10 * k + 8) bytes

-- the words are as many as the blocks have together
abbrev pub words_fit : List ℕ → Bool
words_fit bytes = nat_eq (at.word_count bytes) (sum_by (block_size bytes) (range_with_len 0 (at.block_count bytes)))

-- the names, walked by their lengths, end where the header says
abbrev pub names_fit : List ℕ → Bool
names_fit bytes = nat_eq (at.names_length (at.name_count bytes) (drop (at.names_offset bytes) bytes)) (at.name_bytes bytes)

-- the numbers of the header
abbrev pub header_fields : List ℕ → List Field
header_fields bytes =
    let offset = at.numbers_offset bytes in
    (offset, nat_le (at.pages bytes) 256) ∷ ((offset + 2, nat_le (at.name_count bytes) 262144)
    ∷ ((offset + 6, nat_le (at.block_count bytes) 131072) ∷ ((offset + 10, nat_le (at.word_count bytes) 131072 && words_fit bytes)
    ∷ ((offset + 14, nat_le (at.reference_count bytes) (at.word_count bytes)) ∷ ((offset + 18, nat_le (at.label_count bytes) 262144)
    ∷ ((offset + 22, nat_le (at.data_size bytes) 1048576) ∷ ((offset + 26, nat_le (at.initial_size bytes) (at.data_size bytes))
    ∷ ((offset + 30, names_fit bytes) ∷ []))))))))

abbrev pub header : List ℕ → Option ℕ
header bytes = broken_in (header_fields bytes)

-- a name of 1 to 32 bytes that differs from those before it
abbrev pub is_new_name : (before : List (List ℕ)) → List ℕ → Bool
is_new_name before name = is_between 1 32 (length name) && not (list_any (bytes_eq name) before)

-- names behind others, the first one's length at an offset
abbrev pub names_from : (offset : ℕ) (before names : List (List ℕ)) → Option ℕ
names_from offset before [] = None
names_from offset before (name ∷ names) =
    if is_new_name before name then names_from (offset + (1 + length name)) (before ++ name ∷ []) names else Some offset

abbrev pub names : List ℕ → Option ℕ
names bytes = names_from (at.names_offset bytes) [] (at.module_in bytes).names

-- a block: one of the names, an address below 131,072 or none, 1 to 512 words
abbrev pub block_fields : List ℕ → ℕ → List Field
block_fields bytes k =
    let offset = at.blocks_offset bytes + 10 * k in
    let address = number_at 4 (offset + 4) bytes in
    (offset, nat_lt (number_at 4 offset bytes) (at.name_count bytes)) ∷ ((offset + 4, nat_eq address 0xFFFFFFFF || nat_lt address 131072)
    ∷ ((offset + 8, is_between 1 512 (number_at 2 (offset + 8) bytes)) ∷ []))

abbrev pub blocks : List ℕ → Option ℕ
blocks bytes = first_in (λ k. broken_in (block_fields bytes k)) 0 (at.block_count bytes)

-- the number of the word that a reference is
abbrev pub referring : List ℕ → ℕ → ℕ
referring bytes k = number_at 4 (at.references_offset bytes + 8 * k) bytes

-- the tail of a word
abbrev pub tail : List ℕ → ℕ → ℕ
tail bytes word = number_at 4 (at.words_offset bytes + 8 * word + 4) bytes

-- a word whose tail is 0, behind that of the reference before
abbrev pub is_referring : List ℕ → ℕ → Bool
is_referring bytes k =
    (nat_lt (referring bytes k) (at.word_count bytes) && nat_eq (tail bytes (referring bytes k)) 0)
    && (nat_eq k 0 || nat_lt (referring bytes (k - 1)) (referring bytes k))

abbrev pub reference_fields : List ℕ → ℕ → List Field
reference_fields bytes k =
    let offset = at.references_offset bytes + 8 * k in
    (offset, is_referring bytes k) ∷ ((offset + 4, nat_lt (number_at 4 (offset + 4) bytes) (at.name_count bytes)) ∷ [])

abbrev pub references : List ℕ → Option ℕ
references bytes = first_in (λ k. broken_in (reference_fields bytes k)) 0 (at.reference_count bytes)

-- a label: one of the names, an offset within the data
abbrev pub label_fields : List ℕ → ℕ → List Field
label_fields bytes k =
    let offset = at.labels_offset bytes + 8 * k in
    (offset, nat_lt (number_at 4 offset bytes) (at.name_count bytes)) ∷ ((offset + 4, nat_le (number_at 4 (offset + 4) bytes) (at.data_size bytes)) ∷ [])

abbrev pub labels : List ℕ → Option ℕ
labels bytes = first_in (λ k. broken_in (label_fields bytes k)) 0 (at.label_count bytes)

-- the least offset of a field whose rule is broken
abbrev pub broken_field : List ℕ → Option ℕ
broken_field bytes =
    first_of (description bytes) (first_of (header bytes) (first_of (names bytes) (first_of (blocks bytes) (first_of (references bytes) (labels bytes)))))

-- the file begins with `TNKO` or `TNKP`
abbrev pub has_magic : List ℕ → Bool
has_magic bytes = bytes_eq (take 4 bytes) (codes "TNKO") || at.is_version_two bytes

-- the file is as long as its header says
abbrev pub is_length_given : List ℕ → Bool
is_length_given bytes = nat_le (at.names_offset bytes) (length bytes) && nat_eq (length bytes) (at.given_length bytes)

-- the first broken rule; None where all are kept
abbrev pub first_broken : List ℕ → Option ObjectFault
first_broken bytes =
    if not (has_magic bytes) then Some fault.Magic
    else (if not (is_length_given bytes) then Some fault.Length
    else option_map (λ n. fault.Field n) (broken_field bytes))

-- a fault is the first broken rule, or want of memory
abbrev pub IsObjectFault : List ℕ → ObjectFault → Type 0
IsObjectFault bytes fault.NoMemory = Unit {0}
IsObjectFault bytes f = first_broken bytes ≡ Some f
