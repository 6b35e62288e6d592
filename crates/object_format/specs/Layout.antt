-- Where the parts of an object file stand. Numbers are big-endian.
use Rattle.std.specs.Prelude.{ℕ, zero, suc, ◌+◌, ◌*◌, Bool, nat_eq, bytes_eq, codes, List, [], ◌∷◌, drop, take, map, slice_index, Option, Some, None, if◌then◌else◌}
use Rattle.std.specs.List.{range_with_len}
use Rattle.machine_desc.specs.Numbers.{description, ones}
use Rattle.image_format.specs.Layout.{number_at, words}
use Rattle.object_format.specs.declared.ObjBlock.{ObjBlock}
use Rattle.object_format.specs.Module.{Module}

-- the version is 2: the file begins with `TNKP`
abbrev pub is_version_two : List ℕ → Bool
is_version_two bytes = bytes_eq (take 4 bytes) (codes "TNKP")

-- the description: the width, the unit counts, the latencies and in version 2 the busy times by number, a byte each
abbrev pub width : List ℕ → ℕ
width bytes = slice_index bytes 4

abbrev pub units : List ℕ → List ℕ
units bytes = map (λ n. slice_index bytes (5 + n)) (range_with_len 0 5)

abbrev pub latencies : List ℕ → List ℕ
latencies bytes = map (λ n. slice_index bytes (10 + n)) (range_with_len 0 9)

abbrev pub written_busy_times : List ℕ → List ℕ
written_busy_times bytes = map (λ n. slice_index bytes (19 + n)) (range_with_len 0 9)

-- in version 1 all busy times are 1
abbrev pub busy_times : List ℕ → List ℕ
busy_times bytes = if is_version_two bytes then written_busy_times bytes else ones

-- where the numbers of the header begin, behind the description
abbrev pub numbers_offset : List ℕ → ℕ
numbers_offset bytes = if is_version_two bytes then 28 else 19

abbrev pub pages : List ℕ → ℕ
pages bytes = number_at 2 (numbers_offset bytes) bytes

-- the others have four bytes, and are told by how far behind the first one they stand
abbrev pub header_number : ℕ → List ℕ → ℕ
header_number place bytes = number_at 4 (numbers_offset bytes + place) bytes

abbrev pub name_count : List ℕ → ℕ
name_count bytes = header_number 2 bytes

abbrev pub block_count : List ℕ → ℕ
block_count bytes = header_number 6 bytes

abbrev pub word_count : List ℕ → ℕ
word_count bytes = header_number 10 bytes

abbrev pub reference_count : List ℕ → ℕ
reference_count bytes = header_number 14 bytes

abbrev pub label_count : List ℕ → ℕ
label_count bytes = header_number 18 bytes

abbrev pub data_size : List ℕ → ℕ
data_size bytes = header_number 22 bytes

abbrev pub initial_size : List ℕ → ℕ
initial_size bytes = header_number 26 bytes

abbrev pub name_bytes : List ℕ → ℕ
name_bytes bytes = header_number 30 bytes

-- where the names and the tables begin
abbrev pub names_offset : List ℕ → ℕ
names_offset bytes = numbers_offset bytes + 34

abbrev pub blocks_offset : List ℕ → ℕ
blocks_offset bytes = names_offset bytes + name_bytes bytes

abbrev pub words_offset : List ℕ → ℕ
words_offset bytes = blocks_offset bytes + 10 * block_count bytes

abbrev pub references_offset : List ℕ → ℕ
references_offset bytes = words_offset bytes + 8 * word_count bytes

abbrev pub labels_offset : List ℕ → ℕ
labels_offset bytes = references_offset bytes + 8 * reference_count bytes

abbrev pub initial_offset : List ℕ → ℕ
initial_offset bytes = labels_offset bytes + 8 * label_count bytes

-- the length that the header gives
abbrev pub given_length : List ℕ → ℕ
given_length bytes = initial_offset bytes + initial_size bytes

-- so many names, one after another: a byte of length, and so many bytes
abbrev pub names : ℕ → List ℕ → List (List ℕ)
names zero bytes = []
names (suc n) bytes = take (slice_index bytes 0) (drop 1 bytes) ∷ names n (drop (1 + slice_index bytes 0) bytes)

-- how many bytes so many names take, walked by their lengths
abbrev pub names_length : ℕ → List ℕ → ℕ
names_length zero bytes = 0
names_length (suc n) bytes = 1 + slice_index bytes 0 + names_length n (drop (1 + slice_index bytes 0) bytes)

-- a fixed address, or none
abbrev pub fixed : ℕ → Option ℕ
fixed n = if nat_eq n 0xFFFFFFFF then None else Some n

-- the block in the first ten bytes
abbrev pub block : List ℕ → ObjBlock
block bytes = record { name = number_at 4 0 bytes; at = fixed (number_at 4 4 bytes); count = number_at 2 8 bytes }

abbrev pub blocks : ℕ → List ℕ → List ObjBlock
blocks count bytes = map (λ k. block (drop (10 * k) bytes)) (range_with_len 0 count)

-- two numbers in the first eight bytes
abbrev pub pair : List ℕ → ℕ × ℕ
pair bytes = (number_at 4 0 bytes, number_at 4 4 bytes)

abbrev pub pairs : ℕ → List ℕ → List (ℕ × ℕ)
pairs count bytes = map (λ k. pair (drop (8 * k) bytes)) (range_with_len 0 count)

-- the object in a file's bytes
abbrev pub module_in : List ℕ → Module
module_in bytes = record {
  description = description (width bytes) (units bytes) (latencies bytes) (busy_times bytes);
  pages = pages bytes;
  names = names (name_count bytes) (drop (names_offset bytes) bytes);
  blocks = blocks (block_count bytes) (drop (blocks_offset bytes) bytes);
  words = words (word_count bytes) (drop (words_offset bytes) bytes);
  references = pairs (reference_count bytes) (drop (references_offset bytes) bytes);
  labels = pairs (label_count bytes) (drop (labels_offset bytes) bytes);
  size = data_size bytes;
  initial = take (initial_size bytes) (drop (initial_offset bytes) bytes);
}
