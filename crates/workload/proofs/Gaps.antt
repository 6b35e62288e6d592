-- Zeros between blocks.
use Rattle.std.proofs.Common.{◌≡◌, ℕ, ◌+◌, ◌-◌, ◌*◌, ◌/◌, ◌%◌, ◌≤◌, Bool, true, false, cond, List, ◌++◌, length, take, Result, Ok, Err, OnOk, ap, ◌∙◌, arith}
use Rattle.std.specs.Prelude.{nat_le, replicate, is_ok}
use Rattle.std.proofs.lemmas.List.{take_all}
use Rattle.workload.specs.Layout.{placed, page_end, zeros}

-- a block is placed at the cursor or behind it
pub placed_behind : (cursor words : ℕ) → cursor ≤ placed cursor words
unfolding placed
placed_behind cursor words = go (nat_le (cursor % 512 + words) 512)
  where
    go : (b : Bool) → cursor ≤ cond b cursor ((cursor / 512 + 1) * 512)
    go true = omega arith
    go false = omega arith

pub page_end_behind : (cursor : ℕ) → cursor ≤ page_end cursor
unfolding page_end
page_end_behind cursor = omega arith

-- words that are made as long as an address says have zeros up to it
pub resized : {E : Type 0} (r : Result Unit E) (old new : List ℕ) (n at end : ℕ) →
    new ≡ cond (is_ok r) (take at old ++ replicate (at - n) 0) old → n ≡ length old → at ≡ end → length old ≤ end →
    OnOk r (new ≡ old ++ zeros (length old) end)
resized (Ok u) old new n at end e p q le =
    e ∙ ap (λ (xs : List ℕ). xs ++ replicate (at - n) 0) (take_all at old (omega arith))
    ∙ ap (λ m. old ++ replicate m 0) (let k : at - n ≡ end - length old = omega arith in k)
resized (Err x) old new n at end e p q le = tt
