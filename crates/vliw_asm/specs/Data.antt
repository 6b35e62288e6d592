-- The data that statements give. The statements are listed last first, and what they give in order.
use Rattle.std.specs.Prelude.{ℕ, ℤ, pos, negsuc, Bool, true, false, if◌then◌else◌, List, [], ◌∷◌, ◌++◌, length, map, replicate}
use Rattle.std.specs.Int.{to_le_bytes, w32}
use Rattle.asm_syntax.specs.Statements.{Statement, Data, Bytes, Word32, Space}
use Rattle.asm_syntax.specs.Meanings.{bits, byte}

-- a number that isn't below 0
abbrev pub natural : ℤ → ℕ
natural (pos n) = n
natural (negsuc n) = 0

-- the bytes that a statement gives
abbrev pub data_of : Statement → List ℕ
data_of (Bytes ns) = map byte ns
data_of (Word32 n) = to_le_bytes w32 (bits n)
data_of (Space n) = replicate (natural n) 0
data_of _ = []

-- all data
abbrev pub data_bytes : List Statement → List ℕ
data_bytes [] = []
data_bytes (st ∷ before) = data_bytes before ++ data_of st

-- it gives bytes by `.byte` or `.word`
abbrev pub gives_bytes : Statement → Bool
gives_bytes (Bytes ns) = true
gives_bytes (Word32 n) = true
gives_bytes _ = false

-- the data up to the last byte that `.byte` or `.word` gives
abbrev pub initial_bytes : List Statement → List ℕ
initial_bytes [] = []
initial_bytes (st ∷ before) = if gives_bytes st then data_bytes (st ∷ before) else initial_bytes before

-- the labels, each with its offset: how much data stands before it
abbrev pub labels : List Statement → List (List ℕ × ℕ)
labels [] = []
labels (Data name ∷ before) = labels before ++ (name, length (data_bytes before)) ∷ []
labels (_ ∷ before) = labels before
