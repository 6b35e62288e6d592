-- The cases in which one operation comes before another, and the delays that apply, one by one.
use Rattle.std.proofs.Common.{◌≡◌, ◌≢◌, ℕ, ◌<◌, ◌≤◌, Bool, true, false, not, ◌&&◌, ◌||◌, ◌⊎◌, inl, inr, refl, sym, ap, subst, ◌∙◌, arith}
use Rattle.std.specs.Prelude.{nat_eq, nat_lt, nat_le, int_lt, ℤ, pos, negsuc, ◌+ℤ◌, ◌-ℤ◌, ◌≤ℤ◌}
use Rattle.std.specs.Int.{int_max}
use Rattle.std.proofs.lemmas.Int.{ints, int_max_is}
use Rattle.std.proofs.lemmas.Bool.{and_parts, and_from, or_cases, or_left, or_right, ltb-true, lt-ltb, leb-true, le-leb, not-true, eqb-false, ne_eqb}
use Rattle.operation.specs.declared.Guarded.{Guarded}
use Rattle.timed_meaning.specs.declared.TimedOp.{TimedOp}
use Rattle.dependences.specs.Before.{both_write, lands_at, feeds, keep_list_order, comes_before, applying, greatest}
use Rattle.dependences.specs.Graph.{at_least}
use Rattle.dependences.proofs.Nodes.{greatest_is}

-- ---- which comes before which

pub data IsBefore (i j : ℕ) (a b : TimedOp) : Type 0 where
  Fed : feeds a.guarded b.guarded ≡ true → lands_at a ≤ b.at → IsBefore i j a b
  Feeds : feeds b.guarded a.guarded ≡ true → a.at < lands_at b → IsBefore i j a b
  Both : both_write a.guarded.op b.guarded.op ≡ true → lands_at a < lands_at b → IsBefore i j a b
  Listed : keep_list_order a.guarded.op b.guarded.op ≡ true → i < j → IsBefore i j a b

module _ (i j : ℕ) (a b : TimedOp) where
  abbrev fed : Bool
  fed = feeds a.guarded b.guarded && nat_le (lands_at a) b.at

  abbrev feeds_it : Bool
  feeds_it = feeds b.guarded a.guarded && nat_lt a.at (lands_at b)

  abbrev both : Bool
  both = both_write a.guarded.op b.guarded.op && nat_lt (lands_at a) (lands_at b)

  abbrev listed : Bool
  listed = keep_list_order a.guarded.op b.guarded.op && nat_lt i j

  pub before_of : comes_before i j a b ≡ true → (i ≢ j) × IsBefore i j a b
  before_of h =
      let p = and_parts (not (nat_eq i j)) (fed || (feeds_it || (both || listed))) h in (
        eqb-false i j (not-true (nat_eq i j) p.0),
        elim (or_cases fed (feeds_it || (both || listed)) p.1) [
          | inl x ↦ (let q = and_parts (feeds a.guarded b.guarded) (nat_le (lands_at a) b.at) x in Fed q.0 (leb-true (lands_at a) b.at q.1))
          | inr r ↦ elim (or_cases feeds_it (both || listed) r) [
            | inl x ↦ (let q = and_parts (feeds b.guarded a.guarded) (nat_lt a.at (lands_at b)) x in Feeds q.0 (ltb-true a.at (lands_at b) q.1))
            | inr s ↦ elim (or_cases both listed s) [
              | inl x ↦ (let q = and_parts (both_write a.guarded.op b.guarded.op) (nat_lt (lands_at a) (lands_at b)) x in Both q.0 (ltb-true (lands_at a) (lands_at b) q.1))
              | inr x ↦ (let q = and_parts (keep_list_order a.guarded.op b.guarded.op) (nat_lt i j) x in Listed q.0 (ltb-true i j q.1))
            ]
          ]
        ],
      )

  tested : IsBefore i j a b → (fed || (feeds_it || (both || listed))) ≡ true
  tested (Fed f le) = or_left fed _ (and_from (feeds a.guarded b.guarded) (nat_le (lands_at a) b.at) f (le-leb _ _ le))
  tested (Feeds f lt) = or_right fed _ (or_left feeds_it _ (and_from (feeds b.guarded a.guarded) (nat_lt a.at (lands_at b)) f (lt-ltb _ _ lt)))
  tested (Both f lt) =
      or_right fed _ (or_right feeds_it _ (or_left both listed (and_from (both_write a.guarded.op b.guarded.op) (nat_lt (lands_at a) (lands_at b)) f (lt-ltb _ _ lt))))
  tested (Listed f lt) =
      or_right fed _ (or_right feeds_it _ (or_right both listed (and_from (keep_list_order a.guarded.op b.guarded.op) (nat_lt i j) f (lt-ltb _ _ lt))))

  pub of_before : i ≢ j → IsBefore i j a b → comes_before i j a b ≡ true
  of_before ne h = and_from (not (nat_eq i j)) (fed || (feeds_it || (both || listed))) (ap not (ne_eqb i j ne)) (tested h)

-- ---- which delays apply

pub data Applies (a b : Guarded) (la lb : ℕ) (d : ℤ) : Type 0 where
  ByFlow : feeds a b ≡ true → d ≡ pos la → Applies a b la lb d
  ByAnti : feeds b a ≡ true → d ≡ pos 1 -ℤ pos lb → Applies a b la lb d
  ByOutput : both_write a.op b.op ≡ true → d ≡ (pos la -ℤ pos lb) +ℤ pos 1 → Applies a b la lb d
  ByList : keep_list_order a.op b.op ≡ true → d ≡ pos 0 → Applies a b la lb d

-- the case in which an operation comes before another has its delay
pub case_applies : (i j : ℕ) (a b : TimedOp) (la lb : ℕ) → IsBefore i j a b → (d : ℤ) × Applies a.guarded b.guarded la lb d
case_applies i j a b la lb (Fed f le) = (pos la, ByFlow f refl)
case_applies i j a b la lb (Feeds f lt) = (pos 1 -ℤ pos lb, ByAnti f refl)
case_applies i j a b la lb (Both f lt) = ((pos la -ℤ pos lb) +ℤ pos 1, ByOutput f refl)
case_applies i j a b la lb (Listed f lt) = (pos 0, ByList f refl)

-- ---- the greater of two delays, where the other one applies

as_before : (d : ℤ) (t : Bool) (x : ℤ) → d ≤ℤ at_least d t x
as_before d true x = let m = int_max_is d x in omega (arith, ints)
as_before d false x = omega (arith, ints)

as_applies : (d : ℤ) (t : Bool) (x : ℤ) → t ≡ true → x ≤ℤ at_least d t x
as_applies d true x h = let m = int_max_is d x in omega (arith, ints)
as_applies d false x h = absurd (let k : ⊥ = cc in k)

one_of : (d : ℤ) (t : Bool) (x : ℤ) → (at_least d t x ≡ d) ⊎ ((t ≡ true) × (at_least d t x ≡ x))
one_of d false x = inl refl
one_of d true x = go (int_lt x d) refl
  where
    go : (b : Bool) → int_lt x d ≡ b → (int_max d x ≡ d) ⊎ ((true ≡ true) × (int_max d x ≡ x))
    go true h = inl (rw h refl)
    go false h = inr (refl, rw h refl)

-- ---- the greatest

module _ (a b : Guarded) (la lb : ℕ) where
  abbrev first : ℤ
  first = at_least (negsuc 30) (feeds a b) (pos la)

  abbrev second : ℤ
  second = at_least first (feeds b a) (pos 1 -ℤ pos lb)

  abbrev third : ℤ
  third = at_least second (both_write a.op b.op) ((pos la -ℤ pos lb) +ℤ pos 1)

  abbrev last : ℤ
  last = at_least third (keep_list_order a.op b.op) (pos 0)

  all : greatest (applying a b la lb) ≡ last
  all = greatest_is (feeds a b) (feeds b a) (both_write a.op b.op) (keep_list_order a.op b.op) (pos la) (pos 1 -ℤ pos lb) ((pos la -ℤ pos lb) +ℤ pos 1) (pos 0)

  -- each delay that applies is at most the greatest
  pub at_most_greatest : (d : ℤ) → Applies a b la lb d → d ≤ℤ greatest (applying a b la lb)
  at_most_greatest d h = subst (λ x. d ≤ℤ x) (sym all) (go h)
    where
      up_two : first ≤ℤ second
      up_two = as_before first (feeds b a) (pos 1 -ℤ pos lb)

      up_three : second ≤ℤ third
      up_three = as_before second (both_write a.op b.op) ((pos la -ℤ pos lb) +ℤ pos 1)

      up_four : third ≤ℤ last
      up_four = as_before third (keep_list_order a.op b.op) (pos 0)

      go : Applies a b la lb d → d ≤ℤ last
      go (ByFlow f e) = subst (λ x. x ≤ℤ last) (sym e) (let s = as_applies (negsuc 30) (feeds a b) (pos la) f in let x = up_two in let y = up_three in let z = up_four in omega (arith, ints))
      go (ByAnti f e) = subst (λ x. x ≤ℤ last) (sym e) (let s = as_applies first (feeds b a) (pos 1 -ℤ pos lb) f in let y = up_three in let z = up_four in omega (arith, ints))
      go (ByOutput f e) = subst (λ x. x ≤ℤ last) (sym e) (let s = as_applies second (both_write a.op b.op) ((pos la -ℤ pos lb) +ℤ pos 1) f in let z = up_four in omega (arith, ints))
      go (ByList f e) = subst (λ x. x ≤ℤ last) (sym e) (as_applies third (keep_list_order a.op b.op) (pos 0) f)

  from_last : (last ≡ negsuc 30) ⊎ Applies a b la lb last
  from_last = elim (one_of third (keep_list_order a.op b.op) (pos 0)) [
    | inr r ↦ inr (ByList r.0 r.1)
    | inl e ↦ elim (one_of second (both_write a.op b.op) ((pos la -ℤ pos lb) +ℤ pos 1)) [
      | inr r ↦ inr (ByOutput r.0 (e ∙ r.1))
      | inl f ↦ elim (one_of first (feeds b a) (pos 1 -ℤ pos lb)) [
        | inr r ↦ inr (ByAnti r.0 (e ∙ f ∙ r.1))
        | inl g ↦ elim (one_of (negsuc 30) (feeds a b) (pos la)) [
          | inr r ↦ inr (ByFlow r.0 (e ∙ f ∙ g ∙ r.1))
          | inl h ↦ inl (e ∙ f ∙ g ∙ h)
        ]
      ]
    ]
  ]

  -- and where one applies, the greatest does, since none is below -31
  pub greatest_applies : lb ≤ 32 → (d : ℤ) → Applies a b la lb d → Applies a b la lb (greatest (applying a b la lb))
  greatest_applies short d h = subst (Applies a b la lb) (sym all) (elim from_last [
    | inr r ↦ r
    | inl e ↦
        (let le = at_most_greatest d h in
        let g = all in
        let same : d ≡ last = (let low = above d h in omega (arith, ints)) in
        subst (Applies a b la lb) same h)
  ])
    where
      above : (d : ℤ) → Applies a b la lb d → negsuc 30 ≤ℤ d
      above d (ByFlow f e) = omega (arith, ints)
      above d (ByAnti f e) = omega (arith, ints)
      above d (ByOutput f e) = omega (arith, ints)
      above d (ByList f e) = omega (arith, ints)
