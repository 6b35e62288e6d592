-- The first number of a range at which a test fails.
use Rattle.std.proofs.Common.{◌≡◌, ℕ, zero, suc, ◌<◌, ◌≤◌, Bool, true, false, ◌⊎◌, inl, inr, refl, ap, ◌∙◌, arith}
use Rattle.std.proofs.lemmas.Bool.{cases_lt}

-- the test fails at k, for the first time from a on
pub record FailsFirst (test : ℕ → Bool) (a b k : ℕ) : Type 0 where
  pub from : a ≤ k
  pub below : k < b
  pub fails : test k ≡ false
  pub passed : (j : ℕ) → a ≤ j → j < k → test j ≡ true

abbrev pub PassesAll : (ℕ → Bool) → (a b : ℕ) → Type 0
PassesAll test a b = (j : ℕ) → a ≤ j → j < b → test j ≡ true

-- it passes all of the range, or fails first somewhere
pub scan : (test : ℕ → Bool) (a b : ℕ) → PassesAll test a b ⊎ ((k : ℕ) × FailsFirst test a b k)
scan test a zero = inl (λ j from below. absurd (omega arith))
scan test a (suc m) = go (scan test a m) (cases_lt m a) (test m) refl
  where
    last : PassesAll test a m → test m ≡ true → (j : ℕ) → (j < m) ⊎ (m ≤ j) → a ≤ j → j < suc m → test j ≡ true
    last all e j (inl low) from below = all j from low
    last all e j (inr high) from below = let same : j ≡ m = omega arith in ap test same ∙ e

    go : PassesAll test a m ⊎ ((k : ℕ) × FailsFirst test a m k) → (m < a) ⊎ (a ≤ m) → (b : Bool) → test m ≡ b →
        PassesAll test a (suc m) ⊎ ((k : ℕ) × FailsFirst test a (suc m) k)
    go (inr r) c b e = let f = r.1 in inr (r.0, record { from = f.from; below = (let lt = f.below in omega arith); fails = f.fails; passed = f.passed })
    go (inl all) (inl low) b e = inl (λ j from below. absurd (omega arith))
    go (inl all) (inr high) false e = inr (m, record { from = high; below = omega arith; fails = e; passed = all })
    go (inl all) (inr high) true e = inl (λ j from below. last all e j (cases_lt j m) from below)
