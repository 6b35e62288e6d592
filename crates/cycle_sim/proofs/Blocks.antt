-- The MultiOp of a cycle in a block's operations.
use Rattle.std.proofs.Common.{◌≡◌, ℕ, suc, ◌+◌, ◌<◌, ◌≤◌, Bool, true, false, cond, List, [], ◌∷◌, ◌++◌, length, drop, get_or, refl, ap, sym, ◌∙◌, Some, None, arith, length-append}
use Rattle.std.specs.Prelude.{nat_eq, nat_lt}
use Rattle.std.specs.List.{AllByRecursion}
use Rattle.std.proofs.lemmas.Bool.{lt-ltb, le-ltb, ltb-true, ne_eqb, eq-eqb, eqb-true}
use Rattle.std.proofs.lemmas.List.{get_or-append-add}
use Rattle.std.proofs.Math.Seq.{drop-append_seam}
use Rattle.timed_meaning.specs.declared.TimedOp.{TimedOp}
use Rattle.block_steps.specs.Steps.{issuing, issued_before, place_at, next_issue}
use Rattle.block_steps.proofs.Cuts.{InOrder, issuing_after, three}
use Rattle.cycle_sim.specs.MultiOps.{at_cycle}

-- ---- the operations before, in and behind a cycle

before_early : (t : ℕ) (ks : List TimedOp) → AllByRecursion (λ k. k.at ≤ t) (issued_before t ks)
before_early t [] = tt
before_early t (k ∷ ks) = go (nat_lt k.at t) refl (before_early t ks)
  where
    go : (b : Bool) → nat_lt k.at t ≡ b → AllByRecursion (λ j. j.at ≤ t) (issued_before t ks) → AllByRecursion (λ j. j.at ≤ t) (cond b (k ∷ issued_before t ks) (issued_before t ks))
    go true e ih = let lt = ltb-true k.at t e in (omega arith, ih)
    go false e ih = ih

now_at : (t : ℕ) (ks : List TimedOp) → AllByRecursion (λ k. k.at ≡ t) (issuing t ks)
now_at t [] = tt
now_at t (k ∷ ks) = go (nat_eq k.at t) refl (now_at t ks)
  where
    go : (b : Bool) → nat_eq k.at t ≡ b → AllByRecursion (λ j. j.at ≡ t) (issuing t ks) → AllByRecursion (λ j. j.at ≡ t) (cond b (k ∷ issuing t ks) (issuing t ks))
    go true e ih = (eqb-true k.at t e, ih)
    go false e ih = ih

after_late : (t : ℕ) (ks : List TimedOp) → AllByRecursion (λ k. t < k.at) (issuing_after t ks)
after_late t [] = tt
after_late t (k ∷ ks) = go (nat_lt t k.at) refl (after_late t ks)
  where
    go : (b : Bool) → nat_lt t k.at ≡ b → AllByRecursion (λ j. t < j.at) (issuing_after t ks) → AllByRecursion (λ j. t < j.at) (cond b (k ∷ issuing_after t ks) (issuing_after t ks))
    go true e ih = (ltb-true t k.at e, ih)
    go false e ih = ih

taken : (t : ℕ) (xs ys : List TimedOp) → AllByRecursion (λ k. k.at ≡ t) xs → AllByRecursion (λ k. t < k.at) ys → at_cycle t (xs ++ ys) ≡ xs
taken t [] [] h k = refl
taken t [] (y ∷ ys) h k = let this : t < y.at = k.0 in rw (ne_eqb y.at t (λ e. omega arith)) refl
taken t (x ∷ xs) ys h k = rw (eq-eqb x.at t h.0) (ap (λ l. x ∷ l) (taken t xs ys h.1 k))

next_skips : (t : ℕ) (xs ys : List TimedOp) → AllByRecursion (λ k. k.at ≤ t) xs → next_issue t (xs ++ ys) ≡ next_issue t ys
next_skips t [] ys h = refl
next_skips t (x ∷ xs) ys h = rw (le-ltb t x.at h.0) (next_skips t xs ys h.1)

next_first : (t : ℕ) (y : TimedOp) (ys : List TimedOp) → t < y.at → next_issue t (y ∷ ys) ≡ Some y.at
next_first t y ys h = rw (lt-ltb t y.at h) refl

at_or_before : (t : ℕ) (xs : List TimedOp) → AllByRecursion (λ k. k.at ≡ t) xs → AllByRecursion (λ k. k.at ≤ t) xs
at_or_before t [] h = tt
at_or_before t (x ∷ xs) h = let this : x.at ≡ t = h.0 in (omega arith, at_or_before t xs h.1)

pub fewer_before : (t : ℕ) (ks : List TimedOp) → place_at t ks ≤ length ks
fewer_before t [] = omega arith
fewer_before t (k ∷ ks) = elim (nat_lt k.at t) as (λ b. length (cond b (k ∷ issued_before t ks) (issued_before t ks)) ≤ suc (length ks)) [
  | true ↦ let l = fewer_before t ks in omega arith
  | false ↦ let l = fewer_before t ks in omega arith
]

-- ---- the MultiOp at a place

module _ (ops : List TimedOp) (order : InOrder ops) (t at : ℕ) (place : place_at t ops ≡ at) where
  abbrev before : List TimedOp
  before = issued_before t ops

  abbrev now : List TimedOp
  now = issuing t ops

  abbrev after : List TimedOp
  after = issuing_after t ops

  parts : ops ≡ before ++ (now ++ after)
  parts = three t ops order

  rest : drop at ops ≡ now ++ after
  rest =
      ap (λ l. drop at l) parts
      ∙ ap (λ n. drop n (before ++ (now ++ after))) (sym place)
      ∙ drop-append_seam before (now ++ after)

  pub now_is : at_cycle t (drop at ops) ≡ issuing t ops
  now_is = ap (at_cycle t) rest ∙ taken t now after (now_at t ops) (after_late t ops)

  behind_is : next_issue t ops ≡ next_issue t after
  behind_is =
      ap (next_issue t) parts
      ∙ next_skips t before (now ++ after) (before_early t ops)
      ∙ next_skips t now after (at_or_before t now (now_at t ops))

  module _ (k : ℕ) (reached : k ≡ at + length (at_cycle t (drop at ops))) where
    size : length ops ≡ k + length after
    size =
        let whole : length ops ≡ length (before ++ (now ++ after)) = ap length parts in
        let here : length (at_cycle t (drop at ops)) ≡ length now = ap length now_is in
        omega (arith, length-append before (now ++ after), length-append now after)

    there : (d : TimedOp) → get_or ops k d ≡ get_or after 0 d
    there d =
        let here : length (at_cycle t (drop at ops)) ≡ length now = ap length now_is in
        let e : k ≡ length before + (length now + 0) = omega arith in
        ap (λ l. get_or l k d) parts
        ∙ ap (λ n. get_or (before ++ (now ++ after)) n d) e
        ∙ get_or-append-add before (now ++ after) (length now + 0) d
        ∙ get_or-append-add now after 0 d

    pub goes : (d : TimedOp) → k < length ops → next_issue t ops ≡ Some (get_or ops k d).at
    goes d h = go after (after_late t ops) behind_is (there d) size
      where
        go : (l : List TimedOp) → AllByRecursion (λ j. t < j.at) l → next_issue t ops ≡ next_issue t l → get_or ops k d ≡ get_or l 0 d → length ops ≡ k + length l → next_issue t ops ≡ Some (get_or ops k d).at
        go [] late e f n = absurd (omega arith)
        go (j ∷ js) late e f n = e ∙ next_first t j js late.0 ∙ ap (λ (i : TimedOp). Some i.at) (sym f)

    pub ends : length ops ≤ k → next_issue t ops ≡ None
    ends h = go after behind_is size
      where
        go : (l : List TimedOp) → next_issue t ops ≡ next_issue t l → length ops ≡ k + length l → next_issue t ops ≡ None
        go [] e n = e
        go (j ∷ js) e n = absurd (omega arith)
