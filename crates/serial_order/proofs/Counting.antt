-- Counts of unplaced operations.
use Rattle.std.proofs.Common.{◌≡◌, ℕ, zero, suc, ◌+◌, ◌*◌, ◌<◌, ◌≤◌, ◌⊎◌, Bool, true, false, cond, not, List, [], ◌∷◌, ◌++◌, inl, inr, refl, sym, ap, subst, arith, add-one}
use Rattle.std.proofs.lemmas.Bool.{cases_lt, cases_Bool}
use Rattle.serial_order.specs.Lists.{Among, has}
use Rattle.serial_order.specs.Counts.{one_where, waiting, unplaced_before}
use Rattle.serial_order.proofs.Members.{has_among, not_among, not_has, has_push_same, has_push_other}

pub one_most : (t : Bool) → one_where t ≤ 1
one_most true = omega arith
one_most false = omega arith

pub one_true : (t : Bool) → 0 < one_where t → t ≡ true
one_true true h = refl
one_true false h = absurd (omega arith)

pub true_one : (t : Bool) → t ≡ true → 0 < one_where t
true_one true e = omega arith
true_one false e = absurd (let k : ⊥ = cc in k)

pub not_true : (p : Bool) → not p ≡ true → p ≡ false
not_true true e = absurd (let k : ⊥ = cc in k)
not_true false e = refl

module _ (counted : ℕ → ℕ → ℕ) where
  -- nothing below 0
  pub count_none : (placed : List ℕ) (j : ℕ) → waiting counted placed j 0 ≡ 0
  unfolding waiting
  count_none placed j = refl

  -- one operation more, where none is placed
  pub count_more : (j i : ℕ) → waiting counted [] j (i + 1) ≡ waiting counted [] j i + counted i j
  unfolding waiting
  count_more j i = rw add-one refl

  pub count_most : (most : ℕ) → ((i j : ℕ) → counted i j ≤ most) → (placed : List ℕ) (j m : ℕ) → waiting counted placed j m ≤ most * m
  unfolding waiting
  count_most most few placed j zero = omega arith
  count_most most few placed j (suc i) = go (has i placed) (count_most most few placed j i)
    where
      go : (b : Bool) → waiting counted placed j i ≤ most * i → waiting counted placed j i + cond b 0 (counted i j) ≤ most * suc i
      go true r = omega arith
      go false r = let s = few i j in omega arith

  -- where it is 0, all that count something at j are placed
  pub zero_all : (placed : List ℕ) (j m : ℕ) → waiting counted placed j m ≡ 0 → (i : ℕ) → i < m → 0 < counted i j → Among i placed
  unfolding waiting
  zero_all placed j zero e i lt t = absurd (omega arith)
  zero_all placed j (suc m) e i lt t = go (zero_all placed j m) (cases_Bool (has m placed)) (cases_lt i m)
    where
      go : (waiting counted placed j m ≡ 0 → (i : ℕ) → i < m → 0 < counted i j → Among i placed) → (has m placed ≡ true) ⊎ (has m placed ≡ false) → (i < m) ⊎ (m ≤ i) → Among i placed
      go f b (inl h) = f (omega arith) i h t
      go f (inl b) (inr h) = let same : m ≡ i = omega arith in subst (λ k. Among k placed) same (has_among m placed b)
      go f (inr b) (inr h) =
          let same : m ≡ i = omega arith in
          let here = ap (λ (c : Bool). cond {A = ℕ} c 0 (counted m j)) b in
          let there = subst (λ k. 0 < counted k j) (sym same) t in
          absurd (omega arith)

  -- and else one of them isn't
  pub positive_one : (placed : List ℕ) (j m : ℕ) → 0 < waiting counted placed j m → (i : ℕ) × (i < m) × (0 < counted i j) × (Among i placed → ⊥)
  unfolding waiting
  positive_one placed j zero h = absurd (omega arith)
  positive_one placed j (suc m) h = go (positive_one placed j m) (cases_Bool (has m placed)) (cases_lt 0 (counted m j))
    where
      go : (0 < waiting counted placed j m → (i : ℕ) × (i < m) × (0 < counted i j) × (Among i placed → ⊥)) →
          (has m placed ≡ true) ⊎ (has m placed ≡ false) → (0 < counted m j) ⊎ (counted m j ≤ 0) →
          (i : ℕ) × (i < suc m) × (0 < counted i j) × (Among i placed → ⊥)
      go f (inr b) (inl c) = (m, omega arith, c, not_among m placed b)
      go f (inl b) c =
          let here = ap (λ (d : Bool). cond {A = ℕ} d 0 (counted m j)) b in
          let r = f (omega arith) in
          (r.0, (let lt = r.1 in omega arith), r.2, r.3)
      go f (inr b) (inr c) =
          let here = ap (λ (d : Bool). cond {A = ℕ} d 0 (counted m j)) b in
          let r = f (omega arith) in
          (r.0, (let lt = r.1 in omega arith), r.2, r.3)

  -- an operation is placed: those below it are counted as before, and it no more
  count_below : (placed : List ℕ) (x j m : ℕ) → m ≤ x → waiting counted (placed ++ x ∷ []) j m ≡ waiting counted placed j m
  unfolding waiting
  count_below placed x j zero le = refl
  count_below placed x j (suc i) le =
      let r = count_below placed x j i (omega arith) in
      let s = ap (λ (b : Bool). cond {A = ℕ} b 0 (counted i j)) (has_push_other placed x i (λ e. omega arith)) in
      omega arith

  pub count_placed : (placed : List ℕ) (x j m : ℕ) → (Among x placed → ⊥) → x < m → waiting counted (placed ++ x ∷ []) j m + counted x j ≡ waiting counted placed j m
  unfolding waiting
  count_placed placed x j zero f lt = absurd (omega arith)
  count_placed placed x j (suc i) f lt = go (count_placed placed x j i f) (cases_lt x i)
    where
      go : (x < i → waiting counted (placed ++ x ∷ []) j i + counted x j ≡ waiting counted placed j i) → (x < i) ⊎ (i ≤ x) →
          waiting counted (placed ++ x ∷ []) j (suc i) + counted x j ≡ waiting counted placed j (suc i)
      go ih (inl h) =
          let r = ih h in
          let s = ap (λ (b : Bool). cond {A = ℕ} b 0 (counted i j)) (has_push_other placed x i (λ e. omega arith)) in
          omega arith
      go ih (inr h) =
          let same : i ≡ x = omega arith in
          let r = count_below placed x j i h in
          let gone = ap (λ (b : Bool). cond {A = ℕ} b 0 (counted x j)) (has_push_same placed x) in
          let was = ap (λ (b : Bool). cond {A = ℕ} b 0 (counted x j)) (not_has x placed f) in
          rw same (let q = count_below placed x j x (omega arith) in omega arith)
