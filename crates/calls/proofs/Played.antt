-- Blocks of sound programs, and machines at their start.
use Rattle.std.proofs.Common.{◌≡◌, ◌<◌, ℕ, List, length, map, get_or, All, sym, subst}
use Rattle.std.proofs.lemmas.List.Elements.{All-get_or}
use Rattle.std.proofs.lemmas.List.{length-map, get_or-map}
use Rattle.timed_meaning.specs.declared.TimedBlock.{TimedBlock}
use Rattle.timed_meaning.specs.Program.{block_of}
use Rattle.timed_meaning.specs.Sound.{IsSoundBlock}

-- the first block of a sound program is sound
pub first_sound : (blocks : List TimedBlock) (b : TimedBlock) → 0 < length blocks → b ≡ get_or blocks 0 b
    → All IsSoundBlock (map block_of blocks) → IsSoundBlock (block_of b)
first_sound blocks b some e h =
    subst (λ (x : TimedBlock). IsSoundBlock (block_of x)) (sym e)
    (subst IsSoundBlock (get_or-map block_of blocks 0 b (block_of b) some)
    (All-get_or IsSoundBlock (map block_of blocks) 0 (block_of b) (subst (λ (n : ℕ). 0 < n) (sym (length-map blocks block_of)) some) h))
