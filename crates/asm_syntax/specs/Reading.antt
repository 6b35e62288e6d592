-- The operands that a line's lexemes write: the table read the other way.
use Rattle.std.specs.Prelude.{ℕ, ◌+◌, ◌-◌, ◌*◌, Bool, ◌&&◌, nat_eq, nat_le, List, [], ◌∷◌, Option, Some, None, option_map, option_and_then, if◌then◌else◌}
use Rattle.std.specs.List.{list_any, before_first, after_first}
use Rattle.std.specs.Char.{is_ascii_digit}
use Rattle.operation.specs.declared.Action.{Action}
use Rattle.operation.specs.declared.Action.TheVariants.{Un, Uc, On, Oc, An, Ac}
use Rattle.operation.specs.Ranges.{is_register, is_target}
use Rattle.list_encoding.specs.declared.shapes.Slot.{Slot}
use Rattle.asm_syntax.specs.Lexemes.{Lexeme, Word, Number, Mark}
use Rattle.asm_syntax.specs.Spellings.{is_name}
use Rattle.asm_syntax.specs.Operands.{Operand, General, Predicate, Target, Destination, Immediate, Named}
use Rattle.asm_syntax.specs.Fitting.{fits}

-- the number of one or two digits, without a leading zero
abbrev pub number_in : List ℕ → Option ℕ
number_in (a ∷ []) = if is_ascii_digit a then Some (a - 48) else None
number_in (a ∷ (b ∷ [])) = if (is_ascii_digit a && is_ascii_digit b) && nat_le 49 a then Some (10 * (a - 48) + (b - 48)) else None
number_in _ = None

-- the number where it is a register's, or a target's
abbrev pub register_in : List ℕ → Option ℕ
register_in digits = option_and_then (λ n. if is_register n then Some n else None) (number_in digits)

abbrev pub target_in : List ℕ → Option ℕ
target_in digits = option_and_then (λ n. if is_target n then Some n else None) (number_in digits)

-- the action of a name
abbrev pub action_named : List ℕ → Option Action
action_named (a ∷ (b ∷ [])) =
    if nat_eq a 117 && nat_eq b 110 then Some Un
    else (if nat_eq a 117 && nat_eq b 99 then Some Uc
    else (if nat_eq a 111 && nat_eq b 110 then Some On
    else (if nat_eq a 111 && nat_eq b 99 then Some Oc
    else (if nat_eq a 97 && nat_eq b 110 then Some An
    else (if nat_eq a 97 && nat_eq b 99 then Some Ac
    else None)))))
action_named _ = None

abbrev pub is_dot : ℕ → Bool
is_dot b = nat_eq b 46

-- a predicate with an action behind a dot
abbrev pub destination_by : Option ℕ → Option Action → Option Operand
destination_by (Some n) (Some action) = Some (Destination (record { p = n; action = action }))
destination_by _ _ = None

-- what stands behind a `p`: a predicate's number, and behind a dot an action
abbrev pub predicate_in : List ℕ → Option Operand
predicate_in rest =
    if list_any is_dot rest then destination_by (register_in (before_first is_dot rest)) (action_named (after_first is_dot rest))
    else option_map Predicate (register_in rest)

-- the register that a word names, by its letter
abbrev pub named_by : ℕ → List ℕ → Option Operand
named_by letter rest =
    if nat_eq letter 114 then option_map General (register_in rest)
    else (if nat_eq letter 112 then predicate_in rest
    else (if nat_eq letter 98 then option_map Target (target_in rest)
    else None))

abbrev pub word_operand : List ℕ → Option Operand
word_operand [] = None
word_operand (letter ∷ rest) = named_by letter rest

-- the operand that begins a line, and what stands behind it
abbrev pub operand_in : List Lexeme → Option (Operand × List Lexeme)
operand_in (Word w ∷ rest) = option_map (λ x. (x, rest)) (word_operand w)
operand_in (Number z ∷ rest) = Some (Immediate z, rest)
operand_in (Mark c ∷ (Word w ∷ rest)) = if nat_eq c 64 && is_name w then Some (Named w, rest) else None
operand_in _ = None

-- what stands behind a comma
abbrev pub behind_comma : List Lexeme → Option (List Lexeme)
behind_comma (Mark c ∷ rest) = if nat_eq c 44 then Some rest else None
behind_comma _ = None

-- the operand for a slot
abbrev pub operand_for : Slot → List Lexeme → Option (Operand × List Lexeme)
operand_for slot line = option_and_then (λ r. if fits slot r.0 then Some r else None) (operand_in line)

-- the operand for a slot, behind a comma
abbrev pub next_operand : Slot → List Lexeme → Option (Operand × List Lexeme)
next_operand slot line = option_and_then (operand_for slot) (behind_comma line)

-- the operands for slots, each behind a comma, up to the line's end
abbrev pub further_operands : List Slot → List Lexeme → Option (List Operand)
further_operands [] [] = Some []
further_operands [] (x ∷ rest) = None
further_operands (slot ∷ slots) line =
    option_and_then (λ r. option_map (λ xs. r.0 ∷ xs) (further_operands slots r.1)) (next_operand slot line)

-- the operands for slots, with commas between
abbrev pub operands_in : List Slot → List Lexeme → Option (List Operand)
operands_in [] line = None
operands_in (slot ∷ slots) line =
    option_and_then (λ r. option_map (λ xs. r.0 ∷ xs) (further_operands slots r.1)) (operand_for slot line)

-- the predicate that a word names
abbrev pub predicate_of : Option Operand → Option ℕ
predicate_of (Some (Predicate n)) = Some n
predicate_of _ = None

abbrev pub guard_named : List ℕ → Option ℕ
guard_named word = predicate_of (word_operand word)
