-- There is a serial order exactly where nothing is stuck.
use Rattle.std.proofs.Common.{◌≡◌, ℕ, zero, suc, ◌<◌, ◌≤◌, Bool, true, false, List, [], ◌∷◌, ◌++◌, ◌⊎◌, inl, inr, refl, sym, ap, subst, ◌∙◌, arith, None}
use Rattle.std.proofs.lemmas.Bool.{cases_eq, cases_Bool, both_ways}
use Rattle.serial_order.specs.Lists.{Among, Earlier, EachOnce, has}
use Rattle.serial_order.specs.SerialOrder.{IsOrder, is_stuck, first_stuck}
use Rattle.serial_order.specs.Counts.{ones, unplaced_before}
use Rattle.serial_order.specs.Laws.{OrderedWhereNoneStuck}
use Rattle.serial_order.proofs.Members.{has_among, not_among, earlier_right}
use Rattle.serial_order.proofs.Counting.{zero_all, positive_one, count_placed}
use Rattle.serial_order.proofs.Stuck.{has_stuck, not_stuck, first_none, none_first}
use Rattle.serial_order.proofs.Front.{IsFront, front_none, front_next, front_order, left, in_left, left_stuck}

-- a set of which each member in a list has a member earlier in it has none in the list
none_earlier : (set l : List ℕ) → EachOnce l → ((j : ℕ) → Among j set → Among j l → (i : ℕ) × Among i set × Earlier l i j) → (j : ℕ) → Among j l → Among j set → ⊥
none_earlier set [] o h j a m = elim a [ ]
none_earlier set (x ∷ xs) o h j a m = go (none_earlier set xs o.1) a
  where
    not_x : Among x set → ⊥
    not_x s = let r = h x s (inl refl) in elim r.2 [ inl e ↦ o.0 e.1 | inr e ↦ o.0 (earlier_right xs r.0 x e) ]

    rest : (i : ℕ) → Among i set → Among i xs → (k : ℕ) × Among k set × Earlier xs k i
    rest i s b = let r = h i s (inr b) in elim r.2 [ inl e ↦ absurd (not_x (subst (λ k. Among k set) (sym e.0) r.1)) | inr e ↦ (r.0, r.1, e) ]

    go : (((i : ℕ) → Among i set → Among i xs → (k : ℕ) × Among k set × Earlier xs k i) → (i : ℕ) → Among i xs → Among i set → ⊥) → Among j (x ∷ xs) → ⊥
    go ih (inl e) = not_x (subst (λ k. Among k set) (sym e) m)
    go ih (inr b) = ih rest j b m

module _ (before : ℕ → ℕ → Bool) (n : ℕ) where
  order_first : (order : List ℕ) → IsOrder before n order → first_stuck before n ≡ None
  order_first order o = first_none before n (λ k lt. not_stuck before n k (λ set s m.
      none_earlier set order o.each_once (λ j a b.
      let r = s.held j a in
      (r.0, r.1, o.kept r.0 j (s.inside r.0 r.1) (s.inside j a) r.2)) k ((o.complete k).1 lt) m))

  abbrev Follows : List ℕ → ℕ → Type 0
  Follows order x = (x < n) × (Among x order → ⊥) × (unplaced_before before order x n ≡ 0)

  -- one of the operations below m can follow, or none
  one_follows : (order : List ℕ) (m : ℕ) → m ≤ n → ((x : ℕ) × Follows order x) ⊎ ((j : ℕ) → j < m → (Among j order → ⊥) → unplaced_before before order j n ≡ 0 → ⊥)
  one_follows order zero le = inr (λ j lt. absurd (omega arith))
  one_follows order (suc m) le = go (one_follows order m (omega arith)) (cases_Bool (has m order)) (cases_eq (unplaced_before before order m n) 0)
    where
      last : (((j : ℕ) → j < m → (Among j order → ⊥) → unplaced_before before order j n ≡ 0 → ⊥)) → ((Among m order → ⊥) → unplaced_before before order m n ≡ 0 → ⊥) →
          (j : ℕ) → j < suc m → (Among j order → ⊥) → unplaced_before before order j n ≡ 0 → ⊥
      last f g j lt un e = elim (cases_eq j m) [
        | inl same ↦ g (λ a. un (subst (λ k. Among k order) (sym same) a)) (ap (λ k. unplaced_before before order k n) (sym same) ∙ e)
        | inr ne ↦ f j (omega arith) un e
      ]

      go : ((x : ℕ) × Follows order x) ⊎ ((j : ℕ) → j < m → (Among j order → ⊥) → unplaced_before before order j n ≡ 0 → ⊥) →
          (has m order ≡ true) ⊎ (has m order ≡ false) → (unplaced_before before order m n ≡ 0) ⊎ (unplaced_before before order m n ≡ 0 → ⊥) →
          ((x : ℕ) × Follows order x) ⊎ ((j : ℕ) → j < suc m → (Among j order → ⊥) → unplaced_before before order j n ≡ 0 → ⊥)
      go (inl r) p z = inl r
      go (inr f) (inl t) z = inr (last f (λ un e. un (has_among m order t)))
      go (inr f) (inr t) (inr ne) = inr (last f (λ un e. ne e))
      go (inr f) (inr t) (inl e) = inl (m, (omega arith, not_among m order t, e))

  -- any two operations
  abbrev always : ℕ → ℕ → Bool
  always i j = true

  grow : first_stuck before n ≡ None → (m : ℕ) (order : List ℕ) → IsFront before n order → unplaced_before always order 0 n ≡ m → (list : List ℕ) × IsOrder before n list
  grow none zero order f e = (order, front_order before n order f (λ k lt. zero_all (ones always) order 0 n e k lt (omega arith)))
  grow none (suc m) order f e = go (grow none m) (one_follows order n (omega arith))
    where
      go : ((list : List ℕ) → IsFront before n list → unplaced_before always list 0 n ≡ m → (all : List ℕ) × IsOrder before n all) →
          ((x : ℕ) × Follows order x) ⊎ ((j : ℕ) → j < n → (Among j order → ⊥) → unplaced_before before order j n ≡ 0 → ⊥) →
          (list : List ℕ) × IsOrder before n list
      go ih (inl r) =
          ih (order ++ r.0 ∷ []) (front_next before n order r.0 f r.1.0 r.1.1 r.1.2)
          (let c = count_placed (ones always) order r.0 0 n r.1.1 r.1.0 in omega arith)
      go ih (inr g) =
          let p = positive_one (ones always) order 0 n (omega arith) in
          absurd (both_ways (is_stuck before n p.0) (none_first before n none p.0 p.1)
          (has_stuck before n p.0 (left before n order) (left_stuck before n order g) (in_left before n order p.0 p.1 p.3)))

  order_to : ((order : List ℕ) × IsOrder before n order) → first_stuck before n ≡ None
  order_to r = order_first r.0 r.1

  order_from : first_stuck before n ≡ None → (order : List ℕ) × IsOrder before n order
  order_from none = grow none (unplaced_before always [] 0 n) [] (front_none before n) refl

pub ordered_where_none_stuck : OrderedWhereNoneStuck
ordered_where_none_stuck before n = (order_to before n, order_from before n)
