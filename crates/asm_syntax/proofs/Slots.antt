-- Operands for slots, one after another.
use Rattle.std.proofs.Common.{◌≡◌, List, [], ◌∷◌, Some, refl, ap, ◌∙◌, Option}
use Rattle.std.specs.Prelude.{option_map, option_and_then}
use Rattle.list_encoding.specs.declared.shapes.Slot.{Slot}
use Rattle.asm_syntax.specs.Lexemes.{Lexeme}
use Rattle.asm_syntax.specs.Operands.{Operand}
use Rattle.asm_syntax.specs.Reading.{operand_for, next_operand, further_operands, operands_in}

-- an operand with what stands behind it
abbrev pub found : Operand → List Lexeme → Option (Operand × List Lexeme)
found x rest = Some (x, rest)

pub first_step : (slot : Slot) (slots : List Slot) (line rest : List Lexeme) (x : Operand) → operand_for slot line ≡ found x rest →
    operands_in (slot ∷ slots) line ≡ option_map (λ xs. x ∷ xs) (further_operands slots rest)
first_step slot slots line rest x h = ap (option_and_then (λ r. option_map (λ xs. r.0 ∷ xs) (further_operands slots r.1))) h

pub next_step : (slot : Slot) (slots : List Slot) (line rest : List Lexeme) (x : Operand) → next_operand slot line ≡ found x rest →
    further_operands (slot ∷ slots) line ≡ option_map (λ xs. x ∷ xs) (further_operands slots rest)
next_step slot slots line rest x h = ap (option_and_then (λ r. option_map (λ xs. r.0 ∷ xs) (further_operands slots r.1))) h

-- ---- three and four of them, up to the line's end

pub three_read : (a b c : Slot) (line l m n : List Lexeme) (x y z : Operand) → operand_for a line ≡ found x l → next_operand b l ≡ found y m →
    next_operand c m ≡ found z n → operands_in (a ∷ (b ∷ (c ∷ []))) line ≡ option_map (λ xs. x ∷ (y ∷ (z ∷ []))) (further_operands [] n)
three_read a b c line l m n x y z f g h =
    first_step a (b ∷ (c ∷ [])) line l x f
    ∙ ap (option_map (λ xs. x ∷ xs)) (next_step b (c ∷ []) l m y g)
    ∙ ap (λ o. option_map (λ xs. x ∷ xs) (option_map (λ xs. y ∷ xs) o)) (next_step c [] m n z h)
    ∙ ended n
  where
    ended : (rest : List Lexeme) → option_map (λ xs. x ∷ xs) (option_map (λ xs. y ∷ xs) (option_map (λ xs. z ∷ xs) (further_operands [] rest))) ≡ option_map (λ xs. x ∷ (y ∷ (z ∷ []))) (further_operands [] rest)
    ended [] = refl
    ended (r ∷ rest) = refl

pub four_read : (a b c d : Slot) (line l m n o : List Lexeme) (x y z w : Operand) → operand_for a line ≡ found x l → next_operand b l ≡ found y m →
    next_operand c m ≡ found z n → next_operand d n ≡ found w o →
    operands_in (a ∷ (b ∷ (c ∷ (d ∷ [])))) line ≡ option_map (λ xs. x ∷ (y ∷ (z ∷ (w ∷ [])))) (further_operands [] o)
four_read a b c d line l m n o x y z w f g h k =
    first_step a (b ∷ (c ∷ (d ∷ []))) line l x f
    ∙ ap (option_map (λ xs. x ∷ xs)) (next_step b (c ∷ (d ∷ [])) l m y g)
    ∙ ap (λ r. option_map (λ xs. x ∷ xs) (option_map (λ xs. y ∷ xs) r)) (next_step c (d ∷ []) m n z h)
    ∙ ap (λ r. option_map (λ xs. x ∷ xs) (option_map (λ xs. y ∷ xs) (option_map (λ xs. z ∷ xs) r))) (next_step d [] n o w k)
    ∙ ended o
  where
    ended : (rest : List Lexeme) → option_map (λ xs. x ∷ xs) (option_map (λ xs. y ∷ xs) (option_map (λ xs. z ∷ xs) (option_map (λ xs. w ∷ xs) (further_operands [] rest)))) ≡ option_map (λ xs. x ∷ (y ∷ (z ∷ (w ∷ [])))) (further_operands [] rest)
    ended [] = refl
    ended (r ∷ rest) = refl
