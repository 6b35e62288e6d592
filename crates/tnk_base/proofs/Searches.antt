-- Searches among the numbers from one on: the least of which a test holds, and whether it holds of any.
use Rattle.std.proofs.Common.{◌≡◌, ℕ, zero, suc, ◌+◌, ◌<◌, ◌≤◌, Bool, true, false, cond, Some, None, length, get_or, refl, sym, ap, ◌∙◌, arith, ◌⊎◌, inl, inr}
use Rattle.std.specs.Prelude.{find}
use Rattle.std.specs.List.{range_with_len, list_any}
use Rattle.std.proofs.lemmas.Bool.{cases_lt, cases_eq, or_parts}
use Rattle.std.proofs.lemmas.List.FromFn.{length-range_with_len, get_or-range_with_len}
use Rattle.std.proofs.lemmas.List.Folds.{list_any_at}

-- ---- what the search finds

finds_none_from : (test : ℕ → Bool) (a n : ℕ) → ((j : ℕ) → a ≤ j → j < a + n → test j ≡ false) → find test (range_with_len a n) ≡ None
finds_none_from test a zero h = refl
finds_none_from test a (suc n) h =
    ap (λ b. cond b (Some a) (find test (range_with_len (a + 1) n))) (h a (omega arith) (omega arith))
    ∙ finds_none_from test (a + 1) n (λ j low high. h j (omega arith) (omega arith))

finds_some_from : (test : ℕ → Bool) (a n k : ℕ) → a ≤ k → k < a + n → ((j : ℕ) → a ≤ j → j < k → test j ≡ false) → test k ≡ true → find test (range_with_len a n) ≡ Some k
finds_some_from test a zero k low high h t = absurd (omega arith)
finds_some_from test a (suc n) k low high h t =
    go (finds_some_from test (a + 1) n k) (cases_lt a k)
  where
    go : (a + 1 ≤ k → k < a + 1 + n → ((j : ℕ) → a + 1 ≤ j → j < k → test j ≡ false) → test k ≡ true → find test (range_with_len (a + 1) n) ≡ Some k) →
        (a < k) ⊎ (k ≤ a) → cond (test a) (Some a) (find test (range_with_len (a + 1) n)) ≡ Some k
    go ih (inl below) =
        ap (λ b. cond b (Some a) (find test (range_with_len (a + 1) n))) (h a (omega arith) below)
        ∙ ih (omega arith) (omega arith) (λ j from to. h j (omega arith) to) t
    go ih (inr above) =
        let same : k ≡ a = omega arith in
        ap (λ b. cond b (Some a) (find test (range_with_len (a + 1) n))) (ap test (sym same) ∙ t) ∙ ap (λ (x : ℕ). Some x) (sym same)

-- where no number passes, none is found
pub finds_none : (test : ℕ → Bool) (n : ℕ) → ((j : ℕ) → j < n → test j ≡ false) → find test (range_with_len 0 n) ≡ None
finds_none test n h = finds_none_from test 0 n (λ j low high. h j (omega arith))

-- the least number that passes is found
pub finds_some : (test : ℕ → Bool) (n k : ℕ) → k < n → ((j : ℕ) → j < k → test j ≡ false) → test k ≡ true → find test (range_with_len 0 n) ≡ Some k
finds_some test n k below h t = finds_some_from test 0 n k (omega arith) (omega arith) (λ j low high. h j high) t

-- ---- what it says of the numbers

none_from : (test : ℕ → Bool) (a n j : ℕ) → find test (range_with_len a n) ≡ None → a ≤ j → j < a + n → test j ≡ false
none_from test a zero j e low high = absurd (omega arith)
none_from test a (suc n) j e low high = go (test a) refl e (λ rest above. none_from test (a + 1) n j rest above (omega arith)) (cases_lt a j)
  where
    go : (b : Bool) → test a ≡ b → cond b (Some a) (find test (range_with_len (a + 1) n)) ≡ None →
        (find test (range_with_len (a + 1) n) ≡ None → a + 1 ≤ j → test j ≡ false) → (a < j) ⊎ (j ≤ a) → test j ≡ false
    go true t e' ih c = absurd (let k : ⊥ = cc in k)
    go false t e' ih (inl above) = ih e' (omega arith)
    go false t e' ih (inr below) = let same : j ≡ a = omega arith in ap test same ∙ t

-- where the search finds none, no number passes
pub none_at : (test : ℕ → Bool) (n j : ℕ) → find test (range_with_len 0 n) ≡ None → j < n → test j ≡ false
none_at test n j e h = none_from test 0 n j e (omega arith) (omega arith)

some_from : (test : ℕ → Bool) (a n k : ℕ) → find test (range_with_len a n) ≡ Some k → (k < a + n) × (test k ≡ true)
some_from test a zero k e = absurd (let c : ⊥ = cc in c)
some_from test a (suc n) k e = go (test a) refl e (λ rest. some_from test (a + 1) n k rest)
  where
    go : (b : Bool) → test a ≡ b → cond b (Some a) (find test (range_with_len (a + 1) n)) ≡ Some k →
        (find test (range_with_len (a + 1) n) ≡ Some k → (k < a + 1 + n) × (test k ≡ true)) → (k < a + suc n) × (test k ≡ true)
    go true t e' ih = let same : a ≡ k = cc in (omega arith, ap test (sym same) ∙ t)
    go false t e' ih = let r = ih e' in let low = r.0 in (omega arith, r.1)

-- what is found is one of the numbers, and passes
pub some_at : (test : ℕ → Bool) (n k : ℕ) → find test (range_with_len 0 n) ≡ Some k → (k < n) × (test k ≡ true)
some_at test n k e = let r = some_from test 0 n k e in let low = r.0 in (omega arith, r.1)

below_from : (test : ℕ → Bool) (a n k j : ℕ) → find test (range_with_len a n) ≡ Some k → a ≤ j → j < k → test j ≡ false
below_from test a zero k j e low high = absurd (let c : ⊥ = cc in c)
below_from test a (suc n) k j e low high = go (test a) refl e (λ rest above. below_from test (a + 1) n k j rest above high) (cases_lt a j)
  where
    go : (b : Bool) → test a ≡ b → cond b (Some a) (find test (range_with_len (a + 1) n)) ≡ Some k →
        (find test (range_with_len (a + 1) n) ≡ Some k → a + 1 ≤ j → test j ≡ false) → (a < j) ⊎ (j ≤ a) → test j ≡ false
    go true t e' ih c = let same : a ≡ k = cc in absurd (omega arith)
    go false t e' ih (inl above) = ih e' (omega arith)
    go false t e' ih (inr below) = let same : j ≡ a = omega arith in ap test same ∙ t

-- no number below the one that is found passes
pub below_found : (test : ℕ → Bool) (n k j : ℕ) → find test (range_with_len 0 n) ≡ Some k → j < k → test j ≡ false
below_found test n k j e h = below_from test 0 n k j e (omega arith) h

-- ---- whether a test holds of any

any_none_from : (test : ℕ → Bool) (a n : ℕ) → ((j : ℕ) → a ≤ j → j < a + n → test j ≡ false) → list_any test (range_with_len a n) ≡ false
any_none_from test a zero h = refl
any_none_from test a (suc n) h = rw (h a (omega arith) (omega arith)) (any_none_from test (a + 1) n (λ j low high. h j (omega arith) (omega arith)))

-- where no number passes, the test holds of none
pub any_none : (test : ℕ → Bool) (n : ℕ) → ((j : ℕ) → j < n → test j ≡ false) → list_any test (range_with_len 0 n) ≡ false
any_none test n h = any_none_from test 0 n (λ j low high. h j (omega arith))

none_any_from : (test : ℕ → Bool) (a n j : ℕ) → list_any test (range_with_len a n) ≡ false → a ≤ j → j < a + n → test j ≡ false
none_any_from test a zero j e low high = absurd (omega arith)
none_any_from test a (suc n) j e low high =
    go (or_parts (test a) (list_any test (range_with_len (a + 1) n)) e) (λ rest above. none_any_from test (a + 1) n j rest above (omega arith)) (cases_lt a j)
  where
    go : (test a ≡ false) × (list_any test (range_with_len (a + 1) n) ≡ false) →
        (list_any test (range_with_len (a + 1) n) ≡ false → a + 1 ≤ j → test j ≡ false) → (a < j) ⊎ (j ≤ a) → test j ≡ false
    go parts ih (inl above) = ih parts.1 (omega arith)
    go parts ih (inr below) = let same : j ≡ a = omega arith in ap test same ∙ parts.0

-- where a test holds of none, no number passes
pub none_any : (test : ℕ → Bool) (n j : ℕ) → list_any test (range_with_len 0 n) ≡ false → j < n → test j ≡ false
none_any test n j e h = none_any_from test 0 n j e (omega arith) (omega arith)

-- where one number alone may pass, it decides
pub any_one : (test : ℕ → Bool) (n b : ℕ) → b < n → ((j : ℕ) → j < n → (j ≡ b → ⊥) → test j ≡ false) → list_any test (range_with_len 0 n) ≡ test b
any_one test n b h others = go (test b) refl
  where
    go : (t : Bool) → test b ≡ t → list_any test (range_with_len 0 n) ≡ test b
    go true e =
        let there : b < length (range_with_len 0 n) = omega (arith, length-range_with_len 0 n) in
        let here : get_or (range_with_len 0 n) b 0 ≡ b = get_or-range_with_len 0 n b 0 h ∙ (omega arith) in
        list_any_at test (range_with_len 0 n) b 0 there (ap test here ∙ e) ∙ sym e
    go false e = any_none test n (λ j below. elim (cases_eq j b) [ inl same ↦ ap test same ∙ e | inr ne ↦ others j below ne ]) ∙ sym e
