-- For contracts within the crate. One block that is added.
use Rattle.std.specs.Prelude.{ℕ, List, ◌++◌, length}
use Rattle.workload.specs.Layout.{placed, zeros}

-- a block at its place: zeros from the cursor up to there, and its words
abbrev pub placed_words : (cursor : ℕ) → (block : List ℕ) → List ℕ
placed_words cursor block = zeros cursor (placed cursor (length block)) ++ block
