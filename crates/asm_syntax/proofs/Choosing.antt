-- The parts of slices of a known length.
use Rattle.std.proofs.Common.{◌≡◌, ◌<◌, ◌≤◌, List, [], ◌∷◌, length, get_or, refl, arith}

pub two_are : {X : Type 0} (xs : List X) (d e : X) → 2 ≤ length xs → length xs < 3 → get_or xs 0 d ∷ (get_or xs 1 e ∷ []) ≡ xs
two_are [] d e h k = absurd (omega arith)
two_are (x ∷ []) d e h k = absurd (omega arith)
two_are (x ∷ (y ∷ [])) d e h k = refl
two_are (x ∷ (y ∷ (z ∷ xs))) d e h k = absurd (omega arith)

pub three_are : {X : Type 0} (xs : List X) (d e f : X) → 3 ≤ length xs → length xs < 4 → get_or xs 0 d ∷ (get_or xs 1 e ∷ (get_or xs 2 f ∷ [])) ≡ xs
three_are [] d e f h k = absurd (omega arith)
three_are (x ∷ []) d e f h k = absurd (omega arith)
three_are (x ∷ (y ∷ [])) d e f h k = absurd (omega arith)
three_are (x ∷ (y ∷ (z ∷ []))) d e f h k = refl
three_are (x ∷ (y ∷ (z ∷ (w ∷ xs)))) d e f h k = absurd (omega arith)

pub four_are : {X : Type 0} (xs : List X) (d e f g : X) → 4 ≤ length xs → length xs < 5 → get_or xs 0 d ∷ (get_or xs 1 e ∷ (get_or xs 2 f ∷ (get_or xs 3 g ∷ []))) ≡ xs
four_are [] d e f g h k = absurd (omega arith)
four_are (x ∷ []) d e f g h k = absurd (omega arith)
four_are (x ∷ (y ∷ [])) d e f g h k = absurd (omega arith)
four_are (x ∷ (y ∷ (z ∷ []))) d e f g h k = absurd (omega arith)
four_are (x ∷ (y ∷ (z ∷ (w ∷ [])))) d e f g h k = refl
four_are (x ∷ (y ∷ (z ∷ (w ∷ (v ∷ xs))))) d e f g h k = absurd (omega arith)
