-- What a script says: its lines, or its first fault.
use Rattle.std.specs.Prelude.{ℕ, ◌≡◌, ◌<◌, ◌≤◌, Bool, false, ◌&&◌, nat_eq, nat_lt, nat_le, List, [], ◌∷◌, length, map, filter_map, slice_index, codes, bytes_eq, Option, Some, None, Result, Ok, Err, if◌then◌else◌}
use Rattle.std.specs.List.{enumerate_from}
use Rattle.std.specs.Option.{option_flatten}
use Rattle.std.specs.Result.{result_ok, result_err}
use Rattle.tnk_text.specs.Digits.{decimal_in}
use Rattle.event_script.specs.declared.reading.Line.{Line}
use Rattle.event_script.specs.declared.reading.Line.TheVariants.{Turn, Evict, Drop, Prefetch, Look}
use Rattle.event_script.specs.declared.faults.ScriptFault.{ScriptFault}
use Rattle.event_script.specs.declared.faults.ScriptFault.TheVariants.{Word, Number, Context, Page, NoMemory}
use Rattle.event_script.specs.Fields.{lines, fields}

-- what is read goes on to the next step, a fault ends it
infixl 10 ◌>>=◌
abbrev pub ◌>>=◌ : {A B : Type 0} → Result A ScriptFault → (A → Result B ScriptFault) → Result B ScriptFault
(Ok x) >>= f = f x
(Err fault) >>= f = Err fault

-- the number that a field of line n writes
abbrev pub number_in : (n : ℕ) → List ℕ → Result ℕ ScriptFault
number_in n field = elim (decimal_in field) [ None ↦ Err (Number n) | Some v ↦ Ok v ]

-- how many turns a field asks for, 1 to 1,000,000
abbrev pub turns_in : (n : ℕ) → List ℕ → Result ℕ ScriptFault
turns_in n field = number_in n field >>= λ v. (if nat_le 1 v && nat_le v 1000000 then Ok v else Err (Number n))

-- a context that is there, where each has the number of its image's pages in a list
abbrev pub context_at : (pages : List ℕ) → (n c : ℕ) → Result ℕ ScriptFault
context_at pages n c = if nat_lt c (length pages) then Ok c else Err (Context n c)

-- a page of context c's image
abbrev pub page_at : (pages : List ℕ) → (n c p : ℕ) → Result ℕ ScriptFault
page_at pages n c p = if nat_lt p (slice_index pages c) then Ok p else Err (Page n p)

-- `C`: a context
abbrev pub context_line : (pages : List ℕ) → (n : ℕ) → (context : List ℕ) → Result ℕ ScriptFault
context_line pages n context = number_in n context >>= λ c. context_at pages n c

-- `C N`: turns of a context
abbrev pub turns_line : (pages : List ℕ) → (n : ℕ) → (context turns : List ℕ) → Result Line ScriptFault
turns_line pages n context turns = do
  c ← number_in n context
  t ← turns_in n turns
  here ← context_at pages n c
  Ok (Turn here t)

-- `C P`: a page of a context
abbrev pub page_line : (pages : List ℕ) → (n : ℕ) → (context page : List ℕ) → Result (ℕ × ℕ) ScriptFault
page_line pages n context page = do
  c ← number_in n context
  p ← number_in n page
  here ← context_at pages n c
  there ← page_at pages n here p
  Ok (here, there)

-- the fields behind `turn`: C, for one turn, or C N
abbrev pub turn : (pages : List ℕ) → (n : ℕ) → List (List ℕ) → Result Line ScriptFault
turn pages n (context ∷ []) = context_line pages n context >>= λ c. Ok (Turn c 1)
turn pages n (context ∷ (turns ∷ [])) = turns_line pages n context turns
turn pages n _ = Err (Word n)

-- those behind the word of a page event: C P
abbrev pub page_event : (pages : List ℕ) → (n : ℕ) → List (List ℕ) → Result (ℕ × ℕ) ScriptFault
page_event pages n (context ∷ (page ∷ [])) = page_line pages n context page
page_event pages n _ = Err (Word n)

-- those behind `evict`, `drop` and `prefetch`
abbrev pub evict : (pages : List ℕ) → (n : ℕ) → List (List ℕ) → Result Line ScriptFault
evict pages n others = page_event pages n others >>= λ k. Ok (Evict k.0 k.1)

abbrev pub drop : (pages : List ℕ) → (n : ℕ) → List (List ℕ) → Result Line ScriptFault
drop pages n others = page_event pages n others >>= λ k. Ok (Drop k.0 k.1)

abbrev pub prefetch : (pages : List ℕ) → (n : ℕ) → List (List ℕ) → Result Line ScriptFault
prefetch pages n others = page_event pages n others >>= λ k. Ok (Prefetch k.0 k.1)

-- those behind `look`: C
abbrev pub look : (pages : List ℕ) → (n : ℕ) → List (List ℕ) → Result Line ScriptFault
look pages n (context ∷ []) = context_line pages n context >>= λ c. Ok (Look c)
look pages n _ = Err (Word n)

-- what line n says by its first field and the others
abbrev pub said : (pages : List ℕ) → (n : ℕ) → (word : List ℕ) → (others : List (List ℕ)) → Result Line ScriptFault
said pages n word others =
    if bytes_eq word (codes "turn") then turn pages n others else
    (if bytes_eq word (codes "evict") then evict pages n others else
    (if bytes_eq word (codes "drop") then drop pages n others else
    (if bytes_eq word (codes "prefetch") then prefetch pages n others else
    (if bytes_eq word (codes "look") then look pages n others else Err (Word n)))))

-- a field that begins with `#`: with it a line is a remark
abbrev pub is_remark : List ℕ → Bool
is_remark [] = false
is_remark (b ∷ bs) = nat_eq b 35

-- what line n says by its fields: nothing where it is skipped
abbrev pub reading : (pages : List ℕ) → (n : ℕ) → List (List ℕ) → Result (Option Line) ScriptFault
reading pages n [] = Ok None
reading pages n (word ∷ others) = if is_remark word then Ok None else (said pages n word others >>= λ line. Ok (Some line))

-- what each line says, where the first of them has number n
abbrev pub readings : (pages : List ℕ) → (n : ℕ) → (lines : List (List ℕ)) → List (Result (Option Line) ScriptFault)
readings pages n lines = map (λ line. reading pages line.0 (fields line.1)) (enumerate_from n lines)

-- the first of the faults, and where there is none the lines
abbrev pub first_or : (faults : List ScriptFault) → List Line → Result (List Line) ScriptFault
first_or [] lines = Ok lines
first_or (fault ∷ faults) lines = Err fault

-- what some readings come to: the first fault among them, and else what they say, in order
abbrev pub outcome : List (Result (Option Line) ScriptFault) → Result (List Line) ScriptFault
outcome readings =
    first_or (filter_map result_err readings) (filter_map (λ reading. option_flatten (result_ok reading)) readings)

-- what a text says, whose lines are counted from 1
abbrev pub script : (pages : List ℕ) → (text : List ℕ) → Result (List Line) ScriptFault
script pages text = outcome (readings pages 1 (lines text))

-- the first fault of a text; or there was no memory
abbrev pub IsScriptFault : (pages : List ℕ) → (text : List ℕ) → ScriptFault → Type 0
IsScriptFault pages text NoMemory = Unit {0}
IsScriptFault pages text fault = script pages text ≡ Err fault

-- context c is there, and page p is one of its image's
pub record IsPage (pages : List ℕ) (c p : ℕ) : Type 0 where
  pub context : c < length pages
  pub page : p < slice_index pages c

-- context c is there, and the number of turns is in its range
pub record AreTurns (pages : List ℕ) (c turns : ℕ) : Type 0 where
  pub context : c < length pages
  pub least : 1 ≤ turns
  pub most : turns ≤ 1000000

-- a line is about what is there
abbrev pub IsFor : (pages : List ℕ) → Line → Type 0
IsFor pages (Turn c turns) = AreTurns pages c turns
IsFor pages (Evict c p) = IsPage pages c p
IsFor pages (Drop c p) = IsPage pages c p
IsFor pages (Prefetch c p) = IsPage pages c p
IsFor pages (Look c) = c < length pages
