-- Those that wait for none any more, as links are taken off, get entries.
use Rattle.std.proofs.Common.{◌≡◌, ◌≢◌, ℕ, ◌+◌, ◌-◌, ◌<◌, ◌≤◌, Bool, true, false, ◌&&◌, not, List, length, ◌⊎◌, inl, inr, refl, sym, ap, subst, ◌∙◌, arith, get_or-set_other}
use Rattle.std.specs.Prelude.{slice_index, slice_set, nat_eq, nat_lt}
use Rattle.std.proofs.lemmas.Bool.{cases_eq, ne_eqb, eq-eqb, lt-ltb}
use Rattle.std.proofs.lemmas.List.{length-set}
use Rattle.operation.specs.declared.UnitKind.{UnitKind}
use Rattle.operation.specs.declared.LatKind.{LatKind}
use Rattle.serial_order.specs.Counts.{one_where}
use Rattle.list_sched.specs.Queue.{Entry, IsMore, entries_of, is_branch, is_freed}

-- an operation that still waits, for one less
module _ (t : ℕ) (initial waits : List ℕ) (size : length waits ≡ length initial) (inside : t < length initial) (still : 1 ≤ slice_index waits t) (waited : 1 ≤ slice_index initial t) where
  abbrev waits' : List ℕ
  waits' = slice_set waits t (slice_index waits t - 1)

  other : (j : ℕ) → j ≢ t → slice_index waits' j ≡ slice_index waits j
  other j ne = rw get_or-set_other

  module _ (kinds : List (UnitKind × LatKind)) (first queue : List Entry) (idle : (j : ℕ) → 0 < entries_of first j → slice_index initial j ≡ 0)
      (freed : (j : ℕ) → j < length waits → entries_of queue j ≡ entries_of first j + one_where (is_freed kinds initial waits j)) where
    not_yet : is_freed kinds initial waits t ≡ false
    not_yet = rw (ne_eqb (slice_index waits t) 0 (λ e. omega arith)) (both (nat_lt 0 (slice_index initial t)))
      where
        both : (b : Bool) → (b && (false && not (is_branch kinds t))) ≡ false
        both true = refl
        both false = refl

    -- so it has no entry
    pub no_entry : entries_of queue t ≡ 0
    no_entry =
        let f = freed t (omega arith) in
        let n = ap one_where not_yet in
        let i = idle t in
        f ∙ (elim (cases_eq (entries_of first t) 0) [ inl z ↦ omega arith | inr ne ↦ absurd (let z = i (omega arith) in omega arith) ])

    same_other : (j : ℕ) → j ≢ t → is_freed kinds initial waits' j ≡ is_freed kinds initial waits j
    same_other j ne = ap (λ n. nat_lt 0 (slice_index initial j) && (nat_eq n 0 && not (is_branch kinds j))) (other j ne)

    -- where it waits for no other, it is freed
    pub freed_more : (queue' : List Entry) → slice_index waits' t ≡ 0 → is_branch kinds t ≡ false → IsMore queue t queue' →
        (j : ℕ) → j < length waits' → entries_of queue' j ≡ entries_of first j + one_where (is_freed kinds initial waits' j)
    freed_more queue' none straight grown j below = elim (cases_eq j t) [
      | inl e ↦ subst (λ m. entries_of queue' m ≡ entries_of first m + one_where (is_freed kinds initial waits' m)) (sym e)
          (let g = grown t in
          let one = ap one_where (eq-eqb t t refl) in
          let n = no_entry in
          let f = freed t (omega arith) in
          let now : is_freed kinds initial waits' t ≡ true = (rw (lt-ltb 0 (slice_index initial t) waited, none, straight) refl) in
          let o = ap one_where now in
          omega arith)
      | inr ne ↦
          (let g = grown j in
          let z = ap one_where (ne_eqb t j (λ e. ne (sym e))) in
          let f = freed j (let s = length-set waits t (slice_index waits t - 1) in omega arith) in
          let o = ap one_where (same_other j ne) in
          omega arith)
    ]

    -- and else not
    pub freed_same : ((slice_index waits' t ≡ 0 → ⊥) ⊎ (is_branch kinds t ≡ true)) → (j : ℕ) → j < length waits' → entries_of queue j ≡ entries_of first j + one_where (is_freed kinds initial waits' j)
    freed_same why j below = freed j (let s = length-set waits t (slice_index waits t - 1) in omega arith) ∙ ap (λ b. entries_of first j + one_where b) (elim (cases_eq j t) [
      | inl e ↦ subst (λ m. is_freed kinds initial waits m ≡ is_freed kinds initial waits' m) (sym e) (not_yet ∙ sym (never why))
      | inr ne ↦ sym (same_other j ne)
    ])
      where
        off_both : (b c : Bool) → (b && (c && false)) ≡ false
        off_both true true = refl
        off_both true false = refl
        off_both false c = refl

        off_one : (b c : Bool) → (b && (false && c)) ≡ false
        off_one true c = refl
        off_one false c = refl

        never : ((slice_index waits' t ≡ 0 → ⊥) ⊎ (is_branch kinds t ≡ true)) → is_freed kinds initial waits' t ≡ false
        never (inl some) = rw (ne_eqb (slice_index waits' t) 0 some) (off_one (nat_lt 0 (slice_index initial t)) (not (is_branch kinds t)))
        never (inr b) = rw b (off_both (nat_lt 0 (slice_index initial t)) (nat_eq (slice_index waits' t) 0))
