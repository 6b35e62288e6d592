-- Rows that keep the rule `Table` rise.
use Rattle.std.proofs.Common.{◌≡◌, ℕ, zero, suc, ◌+◌, ◌*◌, ◌<◌, ◌≤◌, ◌||◌, Bool, true, false, length, get_or, refl, add-one, arith, ⊎_elim}
use Rattle.std.specs.Prelude.{nat_eq, nat_lt, nat_le}
use Rattle.std.specs.List.Sorted.{IsStrictlyIncreasing}
use Rattle.std.proofs.lemmas.Bool.{cases_lt, lt-ltb, le-leb}
use Rattle.std.proofs.lemmas.List.{length-map, get_or-map}
use Rattle.block_table.specs.Rows.{Rows, entry_of, count_of, end_of, end_before, entries}
use Rattle.block_table.specs.Rules.{breaks_table}

or_first : (a b : Bool) → (a || b) ≡ false → a ≡ false
or_first true b h = absurd (let k : ⊥ = cc in k)
or_first false b h = refl

or_second : (a b : Bool) → (a || b) ≡ false → b ≡ false
or_second true b h = absurd (let k : ⊥ = cc in k)
or_second false b h = h

-- what the rule says of a row
pub record Kept (rows : Rows) (pages k : ℕ) : Type 0 where
  pub counted : 0 < count_of rows k
  pub inside : entry_of rows k < pages * 512
  pub behind : end_before rows k ≤ entry_of rows k

positive : (n : ℕ) → nat_eq n 0 ≡ false → 0 < n
positive zero h = absurd (let k : ⊥ = cc in k)
positive (suc n) h = omega arith

not_le : (a b : ℕ) → nat_le a b ≡ false → b < a
not_le a b h = ⊎_elim (λ below. below) (λ above. let t = le-leb a b above in absurd (let k : ⊥ = cc in k)) (cases_lt b a)

-- a test of < that fails
pub not_lt : (a b : ℕ) → nat_lt a b ≡ false → b ≤ a
not_lt a b h = ⊎_elim (λ below. let t = lt-ltb a b below in absurd (let k : ⊥ = cc in k)) (λ above. above) (cases_lt a b)

pub kept : (rows : Rows) (pages k : ℕ) → breaks_table rows pages k ≡ false → Kept rows pages k
kept rows pages k h =
    let later = or_second (nat_eq (count_of rows k) 0) (nat_le (pages * 512) (entry_of rows k) || nat_lt (entry_of rows k) (end_before rows k)) h in
    record {
      counted = positive (count_of rows k) (or_first (nat_eq (count_of rows k) 0) (nat_le (pages * 512) (entry_of rows k) || nat_lt (entry_of rows k) (end_before rows k)) h);
      inside = not_le (pages * 512) (entry_of rows k) (or_first (nat_le (pages * 512) (entry_of rows k)) (nat_lt (entry_of rows k) (end_before rows k)) later);
      behind = not_lt (entry_of rows k) (end_before rows k) (or_second (nat_le (pages * 512) (entry_of rows k)) (nat_lt (entry_of rows k) (end_before rows k)) later);
    }

pub end_before-next : (rows : Rows) (k : ℕ) → end_of rows k ≡ end_before rows (k + 1)
end_before-next rows k = rw add-one refl

pub rising : (rows : Rows) (pages : ℕ) → ((j : ℕ) → j < length rows → breaks_table rows pages j ≡ false) → IsStrictlyIncreasing (entries rows)
rising rows pages h k within =
    let n : length (entries rows) ≡ length rows = length-map rows (λ row. row.0) in
    let a : get_or (entries rows) k 0 ≡ entry_of rows k = get_or-map (λ row. row.0) rows k (0, 0) 0 (omega arith) in
    let b : get_or (entries rows) (k + 1) 0 ≡ entry_of rows (k + 1) = get_or-map (λ row. row.0) rows (k + 1) (0, 0) 0 (omega arith) in
    let this = kept rows pages k (h k (omega arith)) in
    let next = kept rows pages (k + 1) (h (k + 1) (omega arith)) in
    omega (arith, end_before-next rows k)
