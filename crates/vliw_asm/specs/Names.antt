-- Names, numbered in order of first appearance.
use Rattle.std.specs.Prelude.{ℕ, bytes_eq, List, [], ◌∷◌, ◌++◌, Option, Some, None, if◌then◌else◌}
use Rattle.std.specs.List.{list_any, position_or_len}

-- a name goes last where it isn't there
abbrev pub with_name : List (List ℕ) → List ℕ → List (List ℕ)
with_name known name = if list_any (bytes_eq name) known then known else known ++ name ∷ []

-- the number of a name among names: its place
abbrev pub number_in : (names : List (List ℕ)) → List ℕ → ℕ
number_in names name = position_or_len (bytes_eq name) names
