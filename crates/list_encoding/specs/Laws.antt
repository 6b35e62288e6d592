-- What holds of words and of times.
use Rattle.std.specs.Prelude.{◌≡◌, ℕ, ◌%◌, ◌*◌, ◌^◌, ◌<◌, ◌≤◌, ◌↔◌, IsTrue, List, map, length, Option, Some}
use Rattle.std.specs.List.{AllZip}
use Rattle.list_encoding.specs.declared.Coded.{Coded}
use Rattle.list_encoding.specs.Word.{HasReading, IsReadable, IsReadingOf}
use Rattle.list_encoding.specs.Reading.{guarded_in, is_readable, operation_of}
use Rattle.list_encoding.specs.Times.{Pace, pace, word_pace, issue_cycle, block_end, IsTimed}

-- a word has at most one reading
abbrev pub OneReading : Type 0
OneReading = (word : ℕ) (a b : Coded) → HasReading word a → HasReading word b → a ≡ b

-- a reading has at most one word
abbrev pub OneWord : Type 0
OneWord = (c : Coded) (v w : ℕ) → v < 2 ^ 64 → w < 2 ^ 64 → HasReading v c → HasReading w c → v ≡ w

-- what is decoded from the word of a reading is that reading
abbrev pub DecodedAgain : Type 0
DecodedAgain = (c : Coded) (word : ℕ) (found : Option Coded) → HasReading word c → IsReadingOf word found → found ≡ Some c

-- what is encoded from the reading of a word is that word
abbrev pub EncodedAgain : Type 0
EncodedAgain =
    (word : ℕ) (c : Coded) (other : ℕ) → word < 2 ^ 64 → other < 2 ^ 64 → IsReadingOf word (Some c) → HasReading other c →
    other ≡ word

-- whether a word has a reading is decided by its low 54 bits: not by the head mark, the unit and the pause
abbrev pub PlaceDecidesNothing : Type 0
PlaceDecidesNothing = (v w : ℕ) → v % 2 ^ 54 ≡ w % 2 ^ 54 → IsReadable v → IsReadable w

-- a word has a reading exactly where a guarded operation is read in it
abbrev pub ReadableDecided : Type 0
ReadableDecided = (word : ℕ) → IsReadable word ↔ IsTrue (is_readable word)

-- what is read in the word of a reading is the reading's guarded operation
abbrev pub GuardedOfReading : Type 0
GuardedOfReading = (word : ℕ) (c : Coded) → HasReading word c → guarded_in word ≡ Some c.guarded

-- so the operation of a word is that of its reading
abbrev pub OperationOfReading : Type 0
OperationOfReading = (word : ℕ) (c : Coded) → HasReading word c → operation_of word ≡ c.guarded

-- words have the head marks and pauses of their readings
abbrev pub SamePaces : Type 0
SamePaces = (words : List ℕ) (ops : List Coded) → AllZip HasReading words ops → map word_pace words ≡ map pace ops

-- a later operation issues no earlier
abbrev pub IssuesRise : Type 0
IssuesRise = (ops : List Pace) (j k : ℕ) → j ≤ k → issue_cycle ops j ≤ issue_cycle ops k

-- no operation issues after the end
abbrev pub IssuesByEnd : Type 0
IssuesByEnd = (ops : List Pace) (k : ℕ) → issue_cycle ops k ≤ block_end ops

-- each operation of a block that has times issues before its end
abbrev pub IssuesBeforeEnd : Type 0
IssuesBeforeEnd =
    (words : List ℕ) → IsTimed words → (k : ℕ) → k < length words →
    issue_cycle (map word_pace words) k < block_end (map word_pace words)

-- the end comes after at most 32 cycles a word
abbrev pub EndsInTime : Type 0
EndsInTime = (words : List ℕ) → block_end (map word_pace words) ≤ 32 * length words
