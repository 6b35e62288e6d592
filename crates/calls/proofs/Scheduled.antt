-- Operations whose pairs pass the tests can be scheduled.
use Rattle.std.proofs.Common.{◌≡◌, ◌≢◌, ℕ, zero, suc, ◌+◌, ◌<◌, ◌≤◌, ◌⊎◌, inl, inr, Bool, true, false, not, ◌&&◌, ◌||◌, List, [], ◌∷◌, length, get_or, Option, Some, None, refl, sym, ap, subst, ◌∙◌, arith}
use Rattle.std.specs.Prelude.{ℤ, pos, negsuc, int_le, ◌≤ℤ◌, nat_eq, nat_lt, is_none, is_some, IsTrue}
use Rattle.std.specs.List.{list_all, range_with_len}
use Rattle.std.specs.Option.{option_map_or}
use Rattle.std.proofs.lemmas.Int.{ints}
use Rattle.std.proofs.lemmas.Bool.{and_parts, false≢true, eqb-true, ltb-true, leb-true, cases_Bool}
use Rattle.operation.specs.declared.UnitKind.{UnitKind}
use Rattle.operation.specs.declared.UnitKind.TheVariants as unit
use Rattle.operation.specs.declared.LatKind.{LatKind}
use Rattle.operation.specs.declared.LatKind.TheVariants as lat
use Rattle.machine_desc.specs.Description.{Description, IsDescription, units_of}
use Rattle.machine_desc.specs.Issue.{same_unit}
use Rattle.serial_order.specs.Table.{Table, delay_of, before}
use Rattle.serial_order.specs.SerialOrder.{first_stuck}
use Rattle.list_sched.specs.Given.{problem_of, unit_in}
use Rattle.list_sched.specs.Schedule.{IsProblem}
use Rattle.calls.specs.Problems.{is_branch, is_fit, are_fit, have_units}

-- what a test of all numbers of a range says of one
all_at : (p : ℕ → Bool) (n a : ℕ) → list_all p (range_with_len a n) ≡ true → (i : ℕ) → i < n → p (a + i) ≡ true
all_at p zero a h i below = absurd (omega arith)
all_at p (suc n) a h zero below =
    let z : a + zero ≡ a = omega arith in ap p z ∙ (and_parts (p a) (list_all p (range_with_len (a + 1) n)) h).0
all_at p (suc n) a h (suc i) below =
    let s : a + suc i ≡ a + 1 + i = omega arith in
    ap p s ∙ all_at p n (a + 1) (and_parts (p a) (list_all p (range_with_len (a + 1) n)) h).1 i (omega arith)

below_all : (p : ℕ → Bool) (n : ℕ) → list_all p (range_with_len 0 n) ≡ true → (i : ℕ) → i < n → p i ≡ true
below_all p n h i below = let z : i ≡ 0 + i = omega arith in ap p z ∙ all_at p n 0 h i below

item_at : {X : Type 0} (p : X → Bool) (xs : List X) (d : X) → list_all p xs ≡ true → (i : ℕ) → i < length xs → p (get_or xs i d) ≡ true
item_at p [] d h i below = absurd (omega arith)
item_at p (x ∷ xs) d h zero below = (and_parts (p x) (list_all p xs) h).0
item_at p (x ∷ xs) d h (suc i) below = item_at p xs d (and_parts (p x) (list_all p xs) h).1 i (omega arith)

at_most : (x : ℤ) → int_le x (pos 32) ≡ true → x ≤ℤ pos 32
at_most (pos n) h = let below = leb-true n 32 h in omega (arith, ints)
at_most (negsuc n) h = omega (arith, ints)

same_branch : (u : UnitKind) → u ≡ unit.B → same_unit u unit.B ≡ true
same_branch u e = subst (λ v. same_unit v unit.B ≡ true) (sym e) refl

second : (x y : Bool) → (not x || y) ≡ true → x ≡ true → y ≡ true
second x y h e = subst (λ b. (not b || y) ≡ true) e h

either : (x y : Bool) → (x || not y) ≡ true → y ≡ true → x ≡ true
either true y h e = refl
either false y h e = absurd (false≢true (ap not (sym e) ∙ h))

none_or_some : {X : Type 0} (o : Option X) → is_none o ≡ true → is_some o ≡ true → ⊥
none_or_some None h k = false≢true k
none_or_some (Some x) h k = false≢true h

some_is : {X : Type 0} (o : Option X) (x : X) → o ≡ Some x → is_some o ≡ true
some_is o x e = ap (λ p. is_some p) e

pub can_be_scheduled :
    (d : Table) (kinds : List (UnitKind × LatKind)) (g : Description) → length kinds ≡ d.count → 0 < d.count → d.count ≤ 512 →
    ((i j : ℕ) → IsTrue (before d i j) → (i < d.count) × (j < d.count) × (i ≡ j → ⊥)) → IsDescription g →
    are_fit d kinds ≡ true → have_units kinds g ≡ true → first_stuck (before d) d.count ≡ None → IsProblem (problem_of d kinds g)
can_be_scheduled d kinds g size some few inside machine fits units ordered = record {
  some = some;
  few = few;
  machine = machine;
  inside = λ i j x e. inside i j (some_is (delay_of d i j) x e);
  short = λ i j x e.
      let at = inside i j (some_is (delay_of d i j) x e) in
      at_most x (ap (λ o. option_map_or (λ y. int_le y (pos 32)) o true) (sym e) ∙ (and_parts (near i j) (alone i j) (fit i j at.0 at.1)).0);
  ordered = ordered;
  units = λ i below. ltb-true 0 (units_of g (unit_in kinds i)) (item_at (λ k. nat_lt 0 (units_of g k.0)) kinds (unit.B, lat.Branch) units i (omega arith));
  one_branch = λ i j first last b c.
      let a = and_parts (is_none (delay_of d i j)) (nat_eq i j || not (is_branch kinds j)) (branch i j first last b) in
      eqb-true i j (either (nat_eq i j) (is_branch kinds j) a.1 (same_branch (unit_in kinds j) c));
  branch_last = λ i j b before.
      let at = inside i j before in
      none_or_some (delay_of d i j) (and_parts (is_none (delay_of d i j)) (nat_eq i j || not (is_branch kinds j)) (branch i j at.0 at.1 b)).0 before;
}
  where
    near : ℕ → ℕ → Bool
    near i j = option_map_or (λ x. int_le x (pos 32)) (delay_of d i j) true

    alone : ℕ → ℕ → Bool
    alone i j = not (is_branch kinds i) || (is_none (delay_of d i j) && (nat_eq i j || not (is_branch kinds j)))

    fit : (i j : ℕ) → i < d.count → j < d.count → is_fit d kinds i j ≡ true
    fit i j first last = below_all (is_fit d kinds i) d.count (below_all (λ i. list_all (is_fit d kinds i) (range_with_len 0 d.count)) d.count fits i first) j last

    branch : (i j : ℕ) → i < d.count → j < d.count → unit_in kinds i ≡ unit.B → (is_none (delay_of d i j) && (nat_eq i j || not (is_branch kinds j))) ≡ true
    branch i j first last b =
        second (is_branch kinds i) (is_none (delay_of d i j) && (nat_eq i j || not (is_branch kinds j)))
        (and_parts (near i j) (alone i j) (fit i j first last)).1 (same_branch (unit_in kinds i) b)
