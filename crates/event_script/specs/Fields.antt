-- Texts by their lines, and lines by their fields.
use Rattle.std.specs.Prelude.{ℕ, Bool, true, false, ◌||◌, nat_eq, List, [], ◌∷◌, filter}
use Rattle.std.specs.List.{slice_split}

-- LF ends a line
abbrev pub is_line_end : ℕ → Bool
is_line_end b = nat_eq b 10

-- a space, a tab or a CR separates fields
abbrev pub is_blank : ℕ → Bool
is_blank b = nat_eq b 32 || (nat_eq b 9 || nat_eq b 13)

-- the lines of a text: the parts between its LFs, of which the last stands behind the last LF
abbrev pub lines : List ℕ → List (List ℕ)
lines text = slice_split is_line_end text

-- there is something
abbrev pub is_there : List ℕ → Bool
is_there [] = false
is_there (b ∷ bs) = true

-- the fields of a line: its longest runs of bytes that aren't blank
abbrev pub fields : List ℕ → List (List ℕ)
fields line = filter is_there (slice_split is_blank line)
