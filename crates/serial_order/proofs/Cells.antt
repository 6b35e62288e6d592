-- A write to one cell.
use Rattle.std.proofs.Common.{◌≡◌, ℕ, suc, ◌+◌, ◌*◌, ◌<◌, ◌≤◌, ◌&&◌, Bool, true, false, cond, List, length, get_or, Option, None, refl, sym, ◌∙◌, arith}
use Rattle.std.specs.Prelude.{ℤ, nat_lt, slice_set}
use Rattle.std.proofs.lemmas.Bool.{and_parts, ltb-true}
use Rattle.std.proofs.lemmas.List.{get_or-set_other, length-set}
use Rattle.std.proofs.lemmas.Nat.{same_from_place, mul-le}
use Rattle.serial_order.specs.Table.{Table, delay_of, IsTable}

abbrev table : ℕ → List (Option ℤ) → Table
table n cells = record { count = n; cells = cells }

module _ (n : ℕ) (cells : List (Option ℤ)) (i j : ℕ) (v : Option ℤ) (inside : j < n) where
  pub elsewhere : (a b : ℕ) → (a ≡ i → b ≡ j → ⊥) → delay_of (table n (slice_set cells (i * n + j) v)) a b ≡ delay_of (table n cells) a b
  unfolding delay_of
  elsewhere a b ne = go (nat_lt a n && nat_lt b n) refl
    where
      go : (t : Bool) → (nat_lt a n && nat_lt b n) ≡ t → cond t (get_or (slice_set cells (i * n + j) v) (a * n + b) None) None ≡ cond t (get_or cells (a * n + b) None) None
      go false e = refl
      go true e =
          get_or-set_other cells (i * n + j) (a * n + b) v None (λ same.
          let below : b < n = ltb-true b n (and_parts (nat_lt a n) (nat_lt b n) e).1 in
          let r = same_from_place a b i j n below inside same in
          ne r.0 r.1)

  pub still_table : (i ≡ j → ⊥) → IsTable (table n cells) → IsTable (table n (slice_set cells (i * n + j) v))
  still_table ne t = record {
    few = t.few;
    room = let same = length-set cells (i * n + j) v in let r = t.room in omega arith;
    itself = λ k. elsewhere k k (λ e f. ne (sym e ∙ f)) ∙ t.itself k;
  }

-- an inner place is one of the rows'
in_rows : (n a b : ℕ) → a < n → b < n → a * n + b < n * n
in_rows n a b below inside =
    let rows : suc a * n ≤ n * n = mul-le (suc a) n n n below (omega arith) in
    let row : suc a * n ≡ a * n + n = omega arith in
    omega arith

pub none_before : (n : ℕ) (cells : List (Option ℤ)) → ((k : ℕ) → k < n * n → get_or cells k None ≡ None) → (a b : ℕ) → delay_of (table n cells) a b ≡ None
unfolding delay_of
none_before n cells empty a b = go (nat_lt a n && nat_lt b n) refl
  where
    go : (t : Bool) → (nat_lt a n && nat_lt b n) ≡ t → cond t (get_or cells (a * n + b) None) None ≡ None
    go false e = refl
    go true e =
        let p = and_parts (nat_lt a n) (nat_lt b n) e in
        empty (a * n + b) (in_rows n a b (ltb-true a n p.0) (ltb-true b n p.1))

-- emptied cells are a table in which nothing is before another
pub emptied : (n : ℕ) (cells : List (Option ℤ)) → n ≤ 512 → n * n ≤ length cells → ((k : ℕ) → k < n * n → get_or cells k None ≡ None) → IsTable (table n cells)
emptied n cells few room empty = record { few = few; room = room; itself = λ i. none_before n cells empty i i }
