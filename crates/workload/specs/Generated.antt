-- The image that is generated from a number.
use Rattle.std.specs.Prelude.{ℕ, suc, ◌+◌, ◌-◌, ◌*◌, ◌%◌, ◌≤◌, Bool, nat_eq, if◌then◌else◌, List, [], ◌∷◌, ◌++◌, map}
use Rattle.std.specs.List.{range_with_len}
use Rattle.operation.specs.declared.Op.TheVariants as op
use Rattle.machine_desc.specs.BuiltIn.{t1}
use Rattle.image_format.specs.Image.{Image}
use Rattle.workload.specs.Draws.{after}
use Rattle.workload.specs.Words.{serial_word, drawn_words}
use Rattle.workload.specs.Layout.{rows_from, words_from}

-- what ends a block: the last one halts, and every other one goes on to the next
abbrev pub ending : (last : Bool) → List ℕ
ending last = if last then serial_word 0 (op.Halt 0) ∷ [] else []

-- the words of the block i of so many operations, whose draws begin in a state: a byte is put out, and what is drawn follows
abbrev pub block_words : (i ops : ℕ) (last : Bool) (x : ℕ) → List ℕ
block_words i ops last x = serial_word 0 (op.Outb (1 + i % 15)) ∷ (drawn_words (ops - 1) x ++ ending last)

-- the block i of an image: each block before it has made five draws for each of its operations but the first
abbrev pub block : (number blocks ops i : ℕ) → List ℕ
block number blocks ops i = block_words i ops (nat_eq (suc i) blocks) (after (5 * (i * (ops - 1))) number)

-- all blocks
abbrev pub all_blocks : (number blocks ops : ℕ) → List (List ℕ)
all_blocks number blocks ops = map (block number blocks ops) (range_with_len 0 blocks)

-- the image of so many blocks of so many operations, made for t1: it begins at the first block, with 256 bytes of memory
abbrev pub generated : (number blocks ops : ℕ) → Image
generated number blocks ops = record {
  description = t1;
  entry = 0;
  rows = rows_from 0 (all_blocks number blocks ops);
  memory = 256;
  init = [];
  words = words_from 0 (all_blocks number blocks ops);
}

-- how many blocks and operations there may be: then each block fits on a page, and the pages in an image
pub record IsSize (blocks ops : ℕ) : Type 0 where
  pub blocks_in_range : (1 ≤ blocks) × (blocks ≤ 256)
  pub ops_in_range : (1 ≤ ops) × (ops ≤ 500)
