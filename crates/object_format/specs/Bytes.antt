-- The bytes of an object's file.
use Rattle.std.specs.Prelude.{ℕ, Bool, if◌then◌else◌, List, ◌∷◌, ◌++◌, length, codes, Option, Some, None}
use Rattle.std.specs.List.{flat_map}
use Rattle.byteorder.specs.Endian.{big_bytes}
use Rattle.image_format.specs.Bytes.{needs_two, description_bytes}
use Rattle.object_format.specs.declared.ObjBlock.{ObjBlock}
use Rattle.object_format.specs.Module.{Module}

-- a name behind its length
abbrev pub name_bytes : List ℕ → List ℕ
name_bytes name = length name ∷ name

-- an address, where it is fixed
abbrev pub address_bytes : Option ℕ → List ℕ
address_bytes None = big_bytes 4 0xFFFFFFFF
address_bytes (Some n) = big_bytes 4 n

abbrev pub block_bytes : ObjBlock → List ℕ
block_bytes b = big_bytes 4 b.name ++ (address_bytes b.at ++ big_bytes 2 b.count)

abbrev pub pair_bytes : ℕ × ℕ → List ℕ
pair_bytes p = big_bytes 4 p.0 ++ big_bytes 4 p.1

-- the counts of blocks, words, references and labels
abbrev pub table_counts : Module → List ℕ
table_counts o =
    big_bytes 4 (length o.blocks) ++ (big_bytes 4 (length o.words) ++ (big_bytes 4 (length o.references) ++ big_bytes 4 (length o.labels)))

-- the count of names, and those
abbrev pub counts : Module → List ℕ
counts o = big_bytes 4 (length o.names) ++ table_counts o

-- the data size and the initial size
abbrev pub data_sizes : Module → List ℕ
data_sizes o = big_bytes 4 o.size ++ big_bytes 4 (length o.initial)

-- these and the size of the names
abbrev pub sizes : Module → List ℕ
sizes o = data_sizes o ++ big_bytes 4 (length (flat_map name_bytes o.names))

-- the numbers of the header
abbrev pub numbers : Module → List ℕ
numbers o = big_bytes 2 o.pages ++ (counts o ++ sizes o)

-- the blocks and the words
abbrev pub code : Module → List ℕ
code o = flat_map block_bytes o.blocks ++ flat_map (λ w. big_bytes 8 w) o.words

-- the references and the labels
abbrev pub uses : Module → List ℕ
uses o = flat_map pair_bytes o.references ++ flat_map pair_bytes o.labels

abbrev pub tables : Module → List ℕ
tables o = flat_map name_bytes o.names ++ (code o ++ uses o)

-- what a file of version 2 or 1 begins with
abbrev pub magic : (two : Bool) → List ℕ
magic two = if two then codes "TNKP" else codes "TNKO"

-- the header up to its numbers, in version 2 or 1
abbrev pub beginning : (two : Bool) → Module → List ℕ
beginning two o = magic two ++ description_bytes two o.description

-- what follows, in either version
abbrev pub body : Module → List ℕ
body o = numbers o ++ (tables o ++ o.initial)

-- the file of an object in version 2 or 1
abbrev pub bytes_in : (two : Bool) → Module → List ℕ
bytes_in two o = beginning two o ++ body o

-- the file of an object
abbrev pub bytes_of : Module → List ℕ
bytes_of o = bytes_in (needs_two o.description) o
