-- Where there is a serial order, chains of what comes before what never lead back.
use Rattle.std.proofs.Common.{◌≡◌, ℕ, Bool, List, [], ◌∷◌, inl, inr, sym, subst, None}
use Rattle.serial_order.specs.Lists.{Among, Earlier, EachOnce}
use Rattle.serial_order.specs.SerialOrder.{IsOrder, first_stuck}
use Rattle.serial_order.proofs.Members.{earlier_right}
use Rattle.serial_order.proofs.Earlier.{never_both}
use Rattle.serial_order.proofs.Existence.{ordered_where_none_stuck}
use Rattle.block_links.specs.Cover.{Chain, Spans, One, Then}

earlier_both : (l : List ℕ) (i k j : ℕ) → EachOnce l → Earlier l i k → Earlier l k j → Earlier l i j
earlier_both [] i k j o g h = elim g [ ]
earlier_both (x ∷ xs) i k j o (inl g) (inl h) = absurd (o.0 (subst (λ m. Among m xs) (sym h.0) g.1))
earlier_both (x ∷ xs) i k j o (inl g) (inr h) = inl (g.0, earlier_right xs k j h)
earlier_both (x ∷ xs) i k j o (inr g) (inl h) = absurd (o.0 (subst (λ m. Among m xs) (sym h.0) (earlier_right xs i k g)))
earlier_both (x ∷ xs) i k j o (inr g) (inr h) = inr (earlier_both xs i k j o.1 g h)

module _ (n : ℕ) (linked before : ℕ → ℕ → Bool) (s : Spans n linked before) where
  in_order : (order : List ℕ) → IsOrder before n order → (i j : ℕ) → Chain linked i j → Earlier order i j
  in_order order o i x (One j t) = let r = s.inside i j t in o.kept i j r.0 r.1 (s.sound i j t)
  in_order order o i x (Then k j c t) =
      let r = s.inside k j t in
      earlier_both order i k j o.each_once (in_order order o i k c) (o.kept k j r.0 r.1 (s.sound k j t))

  -- no chains lead to and fro
  pub no_circle : first_stuck before n ≡ None → (i j : ℕ) → Chain linked i j → Chain linked j i → ⊥
  no_circle e i j c d =
      let r = (ordered_where_none_stuck before n).1 e in
      never_both r.0 i j r.1.each_once (in_order r.0 r.1 i j c) (in_order r.0 r.1 j i d)
