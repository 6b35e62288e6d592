-- What a description file is: a TOML document with a whole number in its range at each key.
use Rattle.std.specs.Prelude.{codes, ℕ, ℤ, pos, ◌≡◌, ◌-◌, Bool, false, not, ◌||◌, ◌&&◌, ◌==◌, nat_le, int_lt, nat_abs, if◌then◌else◌, List, [], ◌∷◌, map, find, slice_index_or, Option, Some, None, option_map, is_none, is_some, bytes_eq, Result, Ok, Err}
use Rattle.std.specs.Option.{option_or, option_map_or}
use Rattle.std.specs.List.{list_any, range_with_len}
use Rattle.std.specs.Str.{IsUtf8, is_utf8}
use Rattle.toml.specs.Data.{Data, Members, no_members, member, integer, get_member, as_integer}
use Rattle.toml.specs.Parse.{parse_document}
use Rattle.machine_desc.specs.declared.reading.MdesFault.{MdesFault}
use Rattle.machine_desc.specs.declared.reading.MdesFault.TheVariants.{Toml, Missing, Unknown, NotNumber, Range, NoMemory}
use Rattle.machine_desc.specs.Description.{Description}
use Rattle.machine_desc.specs.Numbers.{description}

-- the keys, by number: the width, the units I M L P B, the latencies and the busy times in the order of their kinds
abbrev pub keys : List (List ℕ)
keys =
    codes "width" ∷ (codes "unit_i" ∷ (codes "unit_m" ∷ (codes "unit_l" ∷ (codes "unit_p" ∷ (codes "unit_b" ∷
    (codes "alu" ∷ (codes "mul" ∷ (codes "div" ∷ (codes "load" ∷ (codes "store" ∷ (codes "io" ∷ (codes "cmp" ∷ (codes "pbr" ∷ (codes "branch" ∷
    (codes "busy_alu" ∷ (codes "busy_mul" ∷ (codes "busy_div" ∷ (codes "busy_load" ∷ (codes "busy_store" ∷ (codes "busy_io" ∷ (codes "busy_cmp" ∷
    (codes "busy_pbr" ∷ (codes "busy_branch" ∷ [])))))))))))))))))))))))

-- the key of a number
abbrev pub key : ℕ → List ℕ
key n = slice_index_or keys n []

-- the name is a key
unfoldable pub is_known : List ℕ → Bool
is_known name = list_any (λ n. bytes_eq (key n) name) (range_with_len 0 24)

-- what stands at a key of a document
abbrev pub value : Members → ℕ → Option Data
value m n = get_member (key n) m

-- the whole number among what may stand at a key, and 1 where there is none: so are the busy times that aren't given
abbrev pub number_in : Option Data → ℤ
number_in (Some (integer z)) = z
number_in _ = pos 1

abbrev pub number : Members → ℕ → ℤ
number m n = number_in (value m n)

-- a key isn't there
abbrev pub is_missing : Members → ℕ → Bool
is_missing m n = is_none (value m n)

-- a key has a value that isn't a whole number
abbrev pub is_other : Members → ℕ → Bool
is_other m n = option_map_or (λ d. not (is_some (as_integer d))) (value m n) false

-- the least number that may stand at a key: 0 of units, and else 1
abbrev pub least : ℕ → ℤ
least n = if nat_le 1 n && nat_le n 5 then pos 0 else pos 1

-- the greatest: a width of 16, 8 units, latencies of 32, and busy times of the latency that stands nine keys before
abbrev pub greatest : Members → ℕ → ℤ
greatest m n = if n == 0 then pos 16 else if nat_le n 5 then pos 8 else if nat_le n 14 then pos 32 else number m (n - 9)

-- the number at a key is out of its range
abbrev pub is_out : Members → ℕ → Bool
is_out m n = int_lt (number m n) (least n) || int_lt (greatest m n) (number m n)

-- the names in a document; they stand in the order of their bytes
abbrev pub names : Members → List (List ℕ)
names no_members = []
names (member name d ms) = name ∷ names ms

-- the first name that is no key
abbrev pub first_unknown : Members → Option (List ℕ)
first_unknown m = find (λ name. not (is_known name)) (names m)

-- the first of so many keys for which a test holds
abbrev pub first_key : (ℕ → Bool) → ℕ → Option ℕ
first_key test count = find test (range_with_len 0 count)

-- the first fault of a document: the first fifteen keys must be there, no other names than the keys, and each number in its range
abbrev pub first_fault : Members → Option MdesFault
first_fault m =
    option_or (option_map Missing (first_key (is_missing m) 15))
    (option_or (option_map Unknown (first_unknown m))
    (option_or (option_map NotNumber (first_key (is_other m) 24))
    (option_map (λ n. Range n (number m n)) (first_key (is_out m) 24))))

-- each number is in its range
abbrev pub AreInRange : Members → Type 0
AreInRange m = first_key (is_out m) 24 ≡ None

-- the numbers at so many keys, from a key on
abbrev pub numbers : Members → (first count : ℕ) → List ℕ
numbers m first count = map (λ n. nat_abs (number m n)) (range_with_len first count)

-- the numbers in a document
abbrev pub described : Members → Description
described m = description (nat_abs (number m 0)) (numbers m 1 5) (numbers m 6 9) (numbers m 15 9)

-- what the bytes of a description file come to: the numbers in it, or its first fault
abbrev pub read_members : Option MdesFault → Members → Result Description MdesFault
read_members None m = Ok (described m)
read_members (Some fault) m = Err fault

abbrev pub read_document : Option Members → Result Description MdesFault
read_document None = Err Toml
read_document (Some m) = read_members (first_fault m) m

unfoldable pub read_description : List ℕ → Result Description MdesFault
read_description bytes = if is_utf8 bytes then read_document (parse_document bytes) else Err Toml

-- the bytes are a TOML document
abbrev pub IsDocument : List ℕ → Members → Type 0
IsDocument bytes m = IsUtf8 bytes × (parse_document bytes ≡ Some m)

-- the bytes are a document without a fault, and the description has its numbers
abbrev pub IsMdesFile : List ℕ → Description → Type 0
IsMdesFile bytes g = (m : Members) × IsDocument bytes m × (first_fault m ≡ None) × (g ≡ described m)

-- the bytes are a document that has this fault as its first
abbrev pub HasFault : List ℕ → MdesFault → Type 0
HasFault bytes fault = (m : Members) × IsDocument bytes m × (first_fault m ≡ Some fault)

-- what is wrong with the bytes; or there was no memory
abbrev pub IsMdesFault : List ℕ → MdesFault → Type 0
IsMdesFault bytes Toml = (m : Members) → IsDocument bytes m → ⊥
IsMdesFault bytes NoMemory = Unit {0}
IsMdesFault bytes fault = HasFault bytes fault
