-- The lines of a text, by what their tokens say.
--
-- The text `add r1, r2, r3` and a line's end has the lines `Word add, Word r1, Mark 44, Word r2, Mark 44, Word r3` and the
-- empty line.
use Rattle.std.specs.Prelude.{ℕ, ℤ, List, [], ◌∷◌, Option, Some, None}
use Rattle.tnk_text.specs.declared.Kind.{Kind}
use Rattle.tnk_text.specs.declared.Kind.TheVariants as kind
use Rattle.tnk_text.specs.declared.Token.{Token}
use Rattle.tnk_text.specs.Slices.{slice_of}

-- what a token of a line says
pub data Lexeme : Type 0 where
  Word : List ℕ → Lexeme
  Number : ℤ → Lexeme
  Mark : ℕ → Lexeme
  Pair : Lexeme

-- what a token of a kind says, by its bytes; a line's end says nothing
abbrev pub lexeme_by : Kind → List ℕ → Option Lexeme
lexeme_by kind.Word bytes = Some (Word bytes)
lexeme_by (kind.Number z) bytes = Some (Number z)
lexeme_by (kind.Mark c) bytes = Some (Mark c)
lexeme_by kind.Pair bytes = Some Pair
lexeme_by kind.Newline bytes = None

-- what a token of a text says
abbrev pub lexeme_at : List ℕ → Token → Option Lexeme
lexeme_at text t = lexeme_by t.kind (slice_of text t)

-- a lexeme before the first line
abbrev pub with_lexeme : Lexeme → List (List Lexeme) → List (List Lexeme)
with_lexeme x [] = (x ∷ []) ∷ []
with_lexeme x (line ∷ lines) = (x ∷ line) ∷ lines

-- what a token says, before the lines: a line's end begins a new one
abbrev pub before_lines : Option Lexeme → List (List Lexeme) → List (List Lexeme)
before_lines (Some x) lines = with_lexeme x lines
before_lines None lines = [] ∷ lines

-- the lines of a text with these tokens, one more than it has line ends
abbrev pub lines_of : List ℕ → List Token → List (List Lexeme)
lines_of text [] = [] ∷ []
lines_of text (t ∷ ts) = before_lines (lexeme_at text t) (lines_of text ts)
