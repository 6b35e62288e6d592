-- Bytes that were appended one part after another.
use Rattle.std.proofs.Common.{◌≡◌, ℕ, List, ◌++◌, ap, ◌∙◌, append_assoc}
use Rattle.image_format.proofs.Pushed.{two_pushed}

-- three parts
pub three_pushed : (old a b c m n new : List ℕ) → m ≡ old ++ a → n ≡ m ++ b → new ≡ n ++ c → new ≡ old ++ (a ++ (b ++ c))
three_pushed old a b c m n new e f g = two_pushed m b c n new f g ∙ ap (λ xs. xs ++ (b ++ c)) e ∙ append_assoc old a (b ++ c)
