-- Which operands an operation may have.
use Rattle.std.specs.Prelude.{Bool, true, false, ◌&&◌, List, [], ◌∷◌}
use Rattle.list_encoding.specs.declared.shapes.Slot.{Slot}
use Rattle.list_encoding.specs.declared.shapes.Slot.TheVariants.{R, P, B, V, D, N}
use Rattle.asm_syntax.specs.Operands.{Operand, General, Predicate, Target, Destination, Immediate, Named, is_operand}

-- an operand may stand in a slot
abbrev pub fits : Slot → Operand → Bool
fits R (General n) = true
fits P (Predicate n) = true
fits B (Target n) = true
fits V (Immediate z) = true
fits V (Named name) = true
fits D (Destination d) = true
fits N (Immediate z) = true
fits _ _ = false

-- operands may stand in slots, one in each
abbrev pub all_fit : List Slot → List Operand → Bool
all_fit [] [] = true
all_fit (slot ∷ slots) (x ∷ xs) = (is_operand x && fits slot x) && all_fit slots xs
all_fit _ _ = false
