-- A front of one value, before what stands.
use Rattle.std.proofs.Common.{◌≡◌, ◌<◌, ◌+◌, ℕ, zero, suc, refl, List, [], ◌∷◌, ◌++◌, replicate, drop, length, set, ap, arith}

one_more : {A : Type 0} → (v : A) (n : ℕ) (xs : List A) → n < length xs → set (replicate n v ++ drop n xs) n v ≡ replicate (suc n) v ++ drop (suc n) xs
one_more v n [] below = absurd (omega arith)
one_more v zero (x ∷ xs) below = refl
one_more v (suc n) (x ∷ xs) below = ap (λ l. v ∷ l) (one_more v n xs (omega arith))

-- one more is written
pub front_grows : {A : Type 0} → (v : A) (n : ℕ) (xs : List A) → n < length xs → set (replicate n v ++ drop n xs) n v ≡ replicate (n + 1) v ++ drop (n + 1) xs
front_grows v n xs below = let e : n + 1 ≡ suc n = omega arith in rw e (one_more v n xs below)
