-- Where a block is placed.
use Rattle.std.proofs.Common.{◌≡◌, ℕ, ◌+◌, ◌*◌, ◌/◌, ◌%◌, ◌<◌, ◌≤◌, cond, ap, arith, inl, inr}
use Rattle.std.proofs.lemmas.Bool.{cases_lt, le-leb, lt-leb}
use Rattle.workload.specs.Layout.{placed, page_end}

-- where it fits, and where it doesn't
pub fits : (cursor words : ℕ) → cursor % 512 + words ≤ 512 → placed cursor words ≡ cursor
unfolding placed
fits cursor words h = ap (λ b. cond b cursor ((cursor / 512 + 1) * 512)) (le-leb (cursor % 512 + words) 512 h)

moves : (cursor words : ℕ) → 512 < cursor % 512 + words → placed cursor words ≡ (cursor / 512 + 1) * 512
unfolding placed
moves cursor words h = ap (λ b. cond b cursor ((cursor / 512 + 1) * 512)) (lt-leb (cursor % 512 + words) 512 h)

-- it is on one page, behind the cursor, and no block fills more than a page
pub record IsPlaced (cursor words : ℕ) : Type 0 where
  pub behind : cursor ≤ placed cursor words
  pub on_page : placed cursor words % 512 + words ≤ 512
  pub near : (n : ℕ) → cursor ≤ 512 * n → placed cursor words + words ≤ 512 * (n + 1)

pub is_placed : (cursor words : ℕ) → words ≤ 512 → IsPlaced cursor words
is_placed cursor words few = elim (cases_lt 512 (cursor % 512 + words)) [
  | inr here ↦ (let e = fits cursor words here in record {
    behind = omega arith;
    on_page = omega arith;
    near = λ n h. omega arith;
  })
  | inl next ↦ (let e = moves cursor words next in record {
    behind = omega arith;
    on_page = omega arith;
    near = λ n h. omega arith;
  })
]

-- the last page ends behind the cursor, with the page on which the cursor is
pub record IsEnd (cursor : ℕ) : Type 0 where
  pub behind : cursor ≤ page_end cursor
  pub whole : page_end cursor % 512 ≡ 0
  pub near : (n : ℕ) → cursor ≤ 512 * n → page_end cursor ≤ 512 * n

pub is_end : (cursor : ℕ) → IsEnd cursor
unfolding page_end
is_end cursor = record { behind = omega arith; whole = omega arith; near = λ n h. omega arith }
