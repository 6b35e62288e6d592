-- What holds of generated images.
use Rattle.std.specs.Prelude.{ℕ, ◌≡◌, ◌<◌}
use Rattle.image_check.specs.Accepted.{IsAccepted}
use Rattle.image_check.specs.Blocks.{words_of}
use Rattle.workload.specs.Generated.{generated, block, IsSize}

-- every generated image is accepted
abbrev pub GeneratedIsAccepted : Type 0
GeneratedIsAccepted = (number blocks ops : ℕ) → IsSize blocks ops → IsAccepted (generated number blocks ops)

-- the row i of its block table has the words of the block i
abbrev pub BlocksStandInTheirRows : Type 0
BlocksStandInTheirRows =
    (number blocks ops : ℕ) → IsSize blocks ops → (i : ℕ) → i < blocks →
    words_of (generated number blocks ops) i ≡ block number blocks ops i
