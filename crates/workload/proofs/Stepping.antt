-- Draws behind draws.
use Rattle.std.proofs.Common.{◌≡◌, ℕ, zero, suc, ◌+◌, ◌*◌, ap, ◌∙◌, arith}
use Rattle.workload.specs.Draws.{step, after}

-- so many draws and then more are that many together
pub after_add : (m n x : ℕ) → after (m + n) x ≡ after m (after n x)
after_add zero n x = let e : zero + n ≡ n = omega arith in ap (λ k. after k x) e
after_add (suc m) n x = let e : suc m + n ≡ suc (m + n) = omega arith in ap (λ k. after k x) e ∙ ap step (after_add m n x)

-- the five draws of one more operation
pub after_one_more : (k x : ℕ) → after (5 * (k + 1)) x ≡ after 5 (after (5 * k) x)
after_one_more k x = let e : 5 * (k + 1) ≡ 5 + 5 * k = omega arith in ap (λ n. after n x) e ∙ after_add 5 (5 * k) x
