-- Loops over the parts of a file.
use Rattle.std.proofs.Common.{◌≡◌, ℕ, suc, ◌+◌, ◌-◌, ◌*◌, ◌<◌, ◌≤◌, List, drop, Some, None, sym, ap, ◌∙◌, arith, drop-drop, get_or-drop}
use Rattle.std.specs.Prelude.{Option, slice_index}
use Rattle.object_format.specs.Layout.{names_length, is_version_two, names_offset}
use Rattle.object_format.proofs.HeaderKept.{numbers_near}
use Rattle.image_format.specs.Rules.{first_of}
use Rattle.object_format.specs.Rules.{first_in}

-- ---- a search through parts

-- no part before k has a fault
pub record Searched (part : ℕ → Option ℕ) (n k : ℕ) : Type 0 where
  pub same : first_in part k (n - k) ≡ first_in part 0 n

pub begun : (part : ℕ → Option ℕ) (n : ℕ) → Searched part n 0
begun part n = record { same = let e : n - 0 ≡ n = omega arith in ap (first_in part 0) e }

first_step : (part : ℕ → Option ℕ) (n k : ℕ) → k < n → first_in part k (n - k) ≡ first_of (part k) (first_in part (k + 1) (n - (k + 1)))
first_step part n k below = let e : n - k ≡ suc (n - (k + 1)) = omega arith in ap (first_in part k) e

pub passed : (part : ℕ → Option ℕ) (n end k : ℕ) → end ≡ n → k < end → part k ≡ None → Searched part n k → Searched part n (k + 1)
passed part n end k e below none s = record {
  same = sym (first_step part n k (omega arith) ∙ ap (λ o. first_of o (first_in part (k + 1) (n - (k + 1)))) none) ∙ s.same;
}

pub found : (part : ℕ → Option ℕ) (n end k x : ℕ) → end ≡ n → k < end → part k ≡ Some x → Searched part n k → Some x ≡ first_in part 0 n
found part n end k x e below some s =
    sym (first_step part n k (omega arith) ∙ ap (λ o. first_of o (first_in part (k + 1) (n - (k + 1)))) some) ∙ s.same

pub ended : (part : ℕ → Option ℕ) (n end k : ℕ) → end ≡ n → end ≤ k → Searched part n k → None ≡ first_in part 0 n
ended part n end k e above s = let z : 0 ≡ n - k = omega arith in ap (first_in part k) z ∙ s.same

-- ---- the walk through names

pub record Walked (bytes : List ℕ) (count k end : ℕ) : Type 0 where
  pub same : end + names_length (count - k) (drop end bytes) ≡ names_offset bytes + names_length count (drop (names_offset bytes) bytes)
  pub bound : end ≤ 62 + 256 * k

pub walk_begun : (bytes : List ℕ) (count : ℕ) → Walked bytes count 0 (names_offset bytes)
walk_begun bytes count = record {
  same = let e : count - 0 ≡ count = omega arith in ap (λ n. names_offset bytes + names_length n (drop (names_offset bytes) bytes)) e;
  bound = let h = numbers_near (is_version_two bytes) in omega arith;
}

pub head_at : (bytes : List ℕ) (end : ℕ) → slice_index (drop end bytes) 0 ≡ slice_index bytes end
head_at bytes end = get_or-drop end bytes 0 0 ∙ (let e : end + 0 ≡ end = omega arith in ap (slice_index bytes) e)

pub walk_on : (bytes : List ℕ) (count k end b : ℕ) → k < count → b ≡ slice_index bytes end → b < 256 → Walked bytes count k end → Walked bytes count (k + 1) (end + (1 + b))
walk_on bytes count k end b below here few w =
    let e : count - k ≡ suc (count - (k + 1)) = omega arith in
    let head : slice_index (drop end bytes) 0 ≡ b = head_at bytes end ∙ sym here in
    let n : ℕ = count - (k + 1) in
    let one : names_length (count - k) (drop end bytes) ≡ 1 + b + names_length n (drop (end + (1 + b)) bytes) =
    ap (λ m. names_length m (drop end bytes)) e
    ∙ ap (λ h. 1 + h + names_length n (drop (1 + h) (drop end bytes))) head
    ∙ ap (λ xs. 1 + b + names_length n xs) (drop-drop (1 + b) end bytes) in
    record {
      same = omega (arith, w.same, one);
      bound = omega (arith, w.bound);
    }

pub walk_ended : (bytes : List ℕ) (count k end : ℕ) → count ≤ k → Walked bytes count k end → end ≡ names_offset bytes + names_length count (drop (names_offset bytes) bytes)
walk_ended bytes count k end above w =
    let e : count - k ≡ 0 = omega arith in
    let none : names_length (count - k) (drop end bytes) ≡ 0 = ap (λ m. names_length m (drop end bytes)) e in
    omega (arith, w.same, none)
