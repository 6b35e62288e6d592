-- All links, counted at the operations that they lead to, and taken off again.
use Rattle.std.proofs.Common.{◌≡◌, ◌≢◌, ℕ, zero, suc, ◌+◌, ◌-◌, ◌<◌, ◌≤◌, cond, List, [], ◌∷◌, ◌++◌, length, take, inl, inr, refl, sym, ap, subst, ◌∙◌, arith, get_or-set_other, get_or-set_same}
use Rattle.std.specs.Prelude.{slice_index, slice_set, nat_eq}
use Rattle.std.proofs.lemmas.Bool.{cases_eq, ne_eqb, eq-eqb}
use Rattle.serial_order.specs.Counts.{waiting}
use Rattle.serial_order.proofs.Counting.{count_none, count_more}
use Rattle.block_links.specs.declared.links.Link.{Link}
use Rattle.block_links.specs.declared.links.Links.{Links}
use Rattle.block_links.specs.Links.{row, count_to, AreLinks}
use Rattle.block_links.proofs.Rows.{count_push, count_short, count_take, row_short}

-- what was counted for whom
abbrev pub links_of : Links → ℕ → ℕ → ℕ
links_of l i j = count_to (row l i) j

-- what is counted so far are links of the rows so far
pub count_rows : (l : Links) (n : ℕ) → AreLinks l n → (j m : ℕ) → m ≤ n → waiting (links_of l) [] j m ≤ slice_index l.starts.items m
count_rows l n a j zero le = let c = count_none (links_of l) [] j in omega arith
count_rows l n a j (suc m) le =
    let r = count_rows l n a j m (omega arith) in
    let more = count_more (links_of l) j m in
    let short = count_short (row l m) j in
    let long = row_short l m in
    let e = a.ends m (omega arith) in
    let next : m + 1 ≡ suc m = omega arith in
    subst (λ k. waiting (links_of l) [] j k ≤ slice_index l.starts.items k) next (omega arith)

-- ---- taking off

module _ (links : List Link) (k : ℕ) (lt : k < length links) (x : Link) (next : take (k + 1) links ≡ take k links ++ x ∷ [])
    (initial waits : List ℕ) (size : length waits ≡ length initial) (inside : x.to < length initial)
    (counted : (j : ℕ) → count_to links j ≤ slice_index initial j)
    (off : (j : ℕ) → slice_index waits j + count_to (take k links) j ≡ slice_index initial j) where
  abbrev t : ℕ
  t = x.to

  abbrev waits' : List ℕ
  waits' = slice_set waits t (slice_index waits t - 1)

  more : (j : ℕ) → count_to (take (k + 1) links) j ≡ count_to (take k links) j + cond (nat_eq t j) 1 0
  more j = ap (λ l. count_to l j) next ∙ count_push (take k links) x j

  -- the operation still waits for this link
  pub waits_still : 1 ≤ slice_index waits t
  waits_still =
      let a = more t in
      let one : cond {A = ℕ} (nat_eq t t) 1 0 ≡ 1 = ap (λ b. cond {A = ℕ} b 1 0) (eq-eqb t t refl) in
      let b = count_take links (k + 1) t in
      let c = counted t in
      let d = off t in
      omega arith

  pub off_here : slice_index waits' t ≡ slice_index waits t - 1
  off_here = let s : t < length waits = omega arith in rw get_or-set_same

  pub off_other : (j : ℕ) → j ≢ t → slice_index waits' j ≡ slice_index waits j
  off_other j ne = rw get_or-set_other

  pub off_more : (j : ℕ) → slice_index waits' j + count_to (take (k + 1) links) j ≡ slice_index initial j
  off_more j = elim (cases_eq j t) [
    | inl e ↦ subst (λ m. slice_index waits' m + count_to (take (k + 1) links) m ≡ slice_index initial m) (sym e)
        (let a = more t in
        let one : cond {A = ℕ} (nat_eq t t) 1 0 ≡ 1 = ap (λ b. cond {A = ℕ} b 1 0) (eq-eqb t t refl) in
        let h = off_here in let s = waits_still in let o = off t in omega arith)
    | inr ne ↦
        (let a = more j in
        let none : cond {A = ℕ} (nat_eq t j) 1 0 ≡ 0 = ap (λ b. cond {A = ℕ} b 1 0) (ne_eqb t j (λ e. ne (sym e))) in
        let h = off_other j ne in let o = off j in omega arith)
  ]
