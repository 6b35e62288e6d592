-- When the operations of a block issue, and when the block ends.
use Rattle.std.specs.Prelude.{◌≡◌, ℕ, ◌+◌, ◌-◌, ◌≤◌, Bool, true, false, List, All, map, filter, take, sum, count_by, length, slice_index}
use Rattle.std.specs.List.{range_with_len}
use Rattle.list_encoding.specs.declared.Coded.{Coded}
use Rattle.list_encoding.specs.Word.{is_head, pause_in, IsReadable}

-- whether a listed operation begins a MultiOp, and how many empty cycles follow the MultiOp then
pub record Pace : Type 0 where
  pub head : Bool
  pub pause : ℕ

-- the pace of a reading, and that of a word
abbrev pub pace : Coded → Pace
pace c = record { head = c.head; pause = c.pause }

abbrev pub word_pace : ℕ → Pace
word_pace word = record { head = is_head word; pause = pause_in word }

-- how many cycles each MultiOp takes: its own and its head's pause
abbrev pub spans : List Pace → List ℕ
spans ops = map (λ k. 1 + k.pause) (filter (λ k. k.head) ops)

-- how many MultiOps begin at or before the operation k
abbrev pub begun_by : List Pace → ℕ → ℕ
begun_by ops k = count_by (λ j. j.head) (take (k + 1) ops)

-- the issue cycle of the operation k: the cycles of the MultiOps before the one that holds it
abbrev pub issue_cycle : List Pace → ℕ → ℕ
issue_cycle ops k = sum (take (begun_by ops k - 1) (spans ops))

-- the issue cycle of each operation
abbrev pub issue_cycles : List Pace → List ℕ
issue_cycles ops = map (issue_cycle ops) (range_with_len 0 (length ops))

-- the block's end: the cycles of all its MultiOps
abbrev pub block_end : List Pace → ℕ
block_end ops = sum (spans ops)

-- the head rule: the block's first word has the head mark, and a word without it has no pause
pub record HasHeads (words : List ℕ) : Type 0 where
  pub first : is_head (slice_index words 0) ≡ true
  pub others : All (λ w. is_head w ≡ false → pause_in w ≡ 0) words

-- a block that has times: 1 to 512 words, each with a reading, under the head rule
pub record IsTimed (words : List ℕ) : Type 0 where
  pub some : 1 ≤ length words
  pub few : length words ≤ 512
  pub readable : All IsReadable words
  pub heads : HasHeads words
