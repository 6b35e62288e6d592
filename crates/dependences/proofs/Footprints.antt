-- Footprints say which operation feeds which, and which two write one place.
use Rattle.std.proofs.Common.{◌≡◌, ℕ, ◌^◌, Bool, true, false, not, cond, ◌||◌, ◌&&◌, List, [], ◌∷◌, ◌++◌, Option, Some, None, refl, sym, ap, ◌∙◌}
use Rattle.std.specs.Prelude.{nat_eq, filter, option_map, bit_and, bit_or}
use Rattle.std.specs.Bool.{then_some}
use Rattle.std.specs.List.{list_any, AllByRecursion}
use Rattle.std.proofs.Math.Bool.{and-true, and-false, or-false, or_assoc, and-or_distrib_right}
use Rattle.std.proofs.lemmas.Bool.{false_from_ne_true, or_parts, or_from, and_left, and_right, not-false, eqb-true}
use Rattle.operation.specs.declared.Op.{Op}
use Rattle.operation.specs.declared.Guarded.{Guarded}
use Rattle.operation.specs.declared.Sources.{Sources}
use Rattle.operation.specs.declared.Place.{Place}
use Rattle.operation.specs.declared.Place.TheVariants.{General, Predicate, Target, Memory}
use Rattle.operation.specs.declared.Family.{Family}
use Rattle.operation.specs.declared.Family.TheVariants.{One, Zero}
use Rattle.operation.specs.Places.{is_constant, not_constant, same_place, is_among, if_any, sources, is_source, is_read_by, reads, destinations, writes, wired, same_family, are_wired_together, is_store, is_inb, can_trap}
use Rattle.operation.proofs.PlaceLaws.{same_place_is, store_traps}
use Rattle.trap_order.specs.Order.{keep_issue_order}
use Rattle.dependences.specs.declared.footprint.Role.{Role}
use Rattle.dependences.specs.declared.footprint.Role.TheVariants as role
use Rattle.dependences.specs.Before.{is_memory, both_write, both_write_at}
use Rattle.dependences.specs.Before.{feeds, keep_list_order}
use Rattle.dependences.specs.Footprint.{place_number, only, set_of, meets, operands, read_places, role_in, role_at, same_role, written_as, footprint, is_stranger_to, feeds as sets_feed, clashes as sets_clash}
use Rattle.dependences.proofs.PlaceSets.{some_in_either, some_in_four, meets_comm, meets_none, meets_either, meets_alone}
use Rattle.dependences.proofs.PlaceRanges.{InRange, same_number, written_in_range, read_in_range, kept_in_range}

-- ---- stores in list order

-- a test that another one implies adds nothing
implied : (s t p q b : Bool) → (s ≡ true → p ≡ true) → (t ≡ true → q ≡ true) → ((s && t) || ((p && q) || b)) ≡ ((p && q) || b)
implied true true p q b f g = rw (f refl, g refl) refl
implied true false p q b f g = refl
implied false t p q b f g = refl

-- a store can trap, so that a pair of stores adds nothing
pub keep_law : (a b : Op) → keep_list_order a b ≡ keep_issue_order a b
keep_law a b = implied (is_store a) (is_store b) (can_trap a) (can_trap b) (is_inb a && is_inb b) (store_traps a) (store_traps b)

-- ---- tests of a list's places

any_agree : (p q : Place → Bool) → ((x : Place) → p x ≡ q x) → (xs : List Place) → list_any p xs ≡ list_any q xs
any_agree p q same [] = refl
any_agree p q same (x ∷ xs) = ap (λ b. b || list_any p xs) (same x) ∙ ap (λ b. q x || b) (any_agree p q same xs)

any_filter : (p q : Place → Bool) (xs : List Place) → list_any p (filter q xs) ≡ list_any (λ x. p x && q x) xs
any_filter p q [] = refl
any_filter p q (x ∷ xs) = go (q x) ∙ ap (λ b. (p x && q x) || b) (any_filter p q xs)
  where
    go : (b : Bool) → list_any p (cond b (x ∷ filter q xs) (filter q xs)) ≡ ((p x && b) || list_any p (filter q xs))
    go true = ap (λ b. b || list_any p (filter q xs)) (sym (and-true (p x)))
    go false = ap (λ b. b || list_any p (filter q xs)) (sym (and-false (p x)))

any_either : (p q : Place → Bool) (xs : List Place) → (list_any p xs || list_any q xs) ≡ list_any (λ x. p x || q x) xs
any_either p q [] = refl
any_either p q (x ∷ xs) = swap (p x) (list_any p xs) (q x) (list_any q xs) ∙ ap (λ b. (p x || q x) || b) (any_either p q xs)
  where
    swap : (a b c d : Bool) → ((a || b) || (c || d)) ≡ ((a || c) || (b || d))
    swap true b c d = refl
    swap false true true d = refl
    swap false true false d = refl
    swap false false c d = refl

any_of_four : (p q r s : Place → Bool) (xs : List Place) →
    (((list_any p xs || list_any q xs) || list_any r xs) || list_any s xs) ≡ list_any (λ x. ((p x || q x) || r x) || s x) xs
any_of_four p q r s xs =
    ap (λ b. (b || list_any r xs) || list_any s xs) (any_either p q xs)
    ∙ ap (λ b. b || list_any s xs) (any_either (λ x. p x || q x) r xs)
    ∙ any_either (λ x. (p x || q x) || r x) s xs

among-append : (x : Place) (xs ys : List Place) → is_among x (xs ++ ys) ≡ (is_among x xs || is_among x ys)
among-append x [] ys = refl
among-append x (y ∷ xs) ys =
    ap (λ b. same_place x y || b) (among-append x xs ys) ∙ sym (or_assoc (same_place x y) (is_among x xs) (is_among x ys))

among_filter : (p : Place → Bool) (x : Place) (xs : List Place) → is_among x (filter p xs) ≡ (is_among x xs && p x)
among_filter p x [] = refl
among_filter p x (y ∷ xs) =
    go (p y) refl (same_place x y) refl
    ∙ ap (λ b. (same_place x y && p x) || b) (among_filter p x xs)
    ∙ sym (and-or_distrib_right (same_place x y) (is_among x xs) (p x))
  where
    go : (b : Bool) → p y ≡ b → (s : Bool) → same_place x y ≡ s →
        is_among x (cond b (y ∷ filter p xs) (filter p xs)) ≡ ((s && p x) || is_among x (filter p xs))
    go true e true f = let passes : p x ≡ true = ap p (same_place_is x y f) ∙ e in rw (f, passes) refl
    go true e false f = ap (λ b. b || is_among x (filter p xs)) f
    go false e true f = let fails : p x ≡ false = ap p (same_place_is x y f) ∙ e in rw fails refl
    go false e false f = refl

-- ---- sets of places in range

-- the sets of two places
alone : (x y : Place) → InRange x → InRange y → meets (only x) (only y) ≡ not_constant x (same_place x y)
alone x y h k = go (is_constant x) (is_constant y) refl refl
  where
    go : (p q : Bool) → is_constant x ≡ p → is_constant y ≡ q →
        meets (cond p 0 (2 ^ place_number x)) (cond q 0 (2 ^ place_number y)) ≡ cond p false (same_place x y)
    go true q e f = meets_none (cond q 0 (2 ^ place_number y))
    go false true e f =
        meets_comm (2 ^ place_number x) 0
        ∙ meets_none (2 ^ place_number x)
        ∙ sym (false_from_ne_true (same_place x y) (λ same. let no : ⊥ = cc (ap is_constant (same_place_is x y same)) in no))
    go false false e f = meets_alone (place_number x) (place_number y) ∙ same_number x y h k

-- the set of a place, and that of a list
one_meets : (x : Place) (ys : List Place) → InRange x → AllByRecursion InRange ys → meets (only x) (set_of ys) ≡ not_constant x (is_among x ys)
one_meets x [] h k = meets_comm (only x) 0 ∙ meets_none (only x) ∙ never (is_constant x)
  where
    never : (b : Bool) → false ≡ cond b false false
    never true = refl
    never false = refl
one_meets x (y ∷ ys) h k =
    meets_comm (only x) (set_of (y ∷ ys))
    ∙ meets_either (only y) (set_of ys) (only x)
    ∙ ap (λ b. b || meets (set_of ys) (only x)) (meets_comm (only y) (only x) ∙ alone x y h k.0)
    ∙ ap (λ b. not_constant x (same_place x y) || b) (meets_comm (set_of ys) (only x) ∙ one_meets x ys h k.1)
    ∙ either (is_constant x) (same_place x y) (is_among x ys)
  where
    either : (b p q : Bool) → (cond b false p || cond b false q) ≡ cond b false (p || q)
    either true p q = refl
    either false p q = refl

-- two sets meet where a place of the one list stands in the other
sets_meet :
    (xs ys : List Place) → AllByRecursion InRange xs → AllByRecursion InRange ys →
    meets (set_of xs) (set_of ys) ≡ list_any (λ x. not_constant x (is_among x ys)) xs
sets_meet [] ys h k = meets_none (set_of ys)
sets_meet (x ∷ xs) ys h k =
    meets_either (only x) (set_of xs) (set_of ys)
    ∙ ap (λ b. b || meets (set_of xs) (set_of ys)) (one_meets x ys h.0 k)
    ∙ ap (λ b. not_constant x (is_among x ys) || b) (sets_meet xs ys h.1 k)

-- ---- what an operation reads

among_any : (place : ℕ → Place) (o : Option ℕ) (x : Place) → is_among x (if_any (option_map place o)) ≡ is_source place o x
among_any place None x = refl
among_any place (Some n) x = or-false (same_place x (place n))

among_memory : (b : Bool) (x : Place) → is_among x (if_any (then_some b Memory)) ≡ (b && same_place x Memory)
among_memory true x = or-false (same_place x Memory)
among_memory false x = refl

-- by each kind of operand
among_operands : (from : Sources) (x : Place) →
    is_among x (operands from)
    ≡ (is_source General from.first x || (is_source General from.second x || (is_source Target from.target x || (is_source Predicate from.test x || (from.memory && same_place x Memory)))))
among_operands from x = simp (among-append, among_any, among_memory)

-- an operand of another kind isn't the place
no_source : (place : ℕ → Place) (o : Option ℕ) (x : Place) → ((n : ℕ) → same_place x (place n) ≡ false) → is_source place o x ≡ false
no_source place None x other = refl
no_source place (Some n) x other = other n

operands_law : (from : Sources) (x : Place) → is_among x (operands from) ≡ is_read_by from x
operands_law from (General n) =
    rw (among_operands from (General n), no_source Target from.target (General n) (λ k. refl), no_source Predicate from.test (General n) (λ k. refl), and-false from.memory, or-false (is_source General from.second (General n)))
operands_law from (Predicate n) =
    rw (among_operands from (Predicate n), no_source General from.first (Predicate n) (λ k. refl), no_source General from.second (Predicate n) (λ k. refl), no_source Target from.target (Predicate n) (λ k. refl), and-false from.memory, or-false (is_source Predicate from.test (Predicate n)))
operands_law from (Target n) =
    rw (among_operands from (Target n), no_source General from.first (Target n) (λ k. refl), no_source General from.second (Target n) (λ k. refl), no_source Predicate from.test (Target n) (λ k. refl), and-false from.memory, or-false (is_source Target from.target (Target n)))
operands_law from Memory =
    rw (among_operands from Memory, no_source General from.first Memory (λ k. refl), no_source General from.second Memory (λ k. refl), no_source Target from.target Memory (λ k. refl), no_source Predicate from.test Memory (λ k. refl), and-true from.memory)

-- what stands among the places that an operation reads is read
pub reads_law : (g : Guarded) (x : Place) → not_constant x (is_among x (read_places g)) ≡ reads g x
reads_law g x = ap (λ b. not_constant x (same_place x (Predicate g.guard) || b)) (operands_law (sources g.op) x)

-- the first operation feeds the second where their footprints say so
pub feeds_law : (a b : Guarded) → sets_feed (footprint a) (footprint b) ≡ feeds a b
feeds_law a b =
    sets_meet (destinations a.op) (read_places b) (written_in_range a) (read_in_range b)
    ∙ any_agree (λ x. not_constant x (is_among x (read_places b))) (reads b) (reads_law b) (destinations a.op)

-- ---- what two operations write

-- an operation writes a place in a role
abbrev is_in : Role → Op → Place → Bool
is_in r o x = same_role (role_at o x) r

-- by their roles, two operations aren't of one family
abbrev are_apart : Role → Role → Bool
are_apart r s =
    ((same_role r role.Plain || same_role s role.Plain) || (same_role r role.One && same_role s role.Zero))
    || (same_role r role.Zero && same_role s role.One)

families_apart : (f g : Option Family) → are_apart (role_in f) (role_in g) ≡ not (same_family f g)
families_apart None g = refl
families_apart (Some One) None = refl
families_apart (Some One) (Some One) = refl
families_apart (Some One) (Some Zero) = refl
families_apart (Some Zero) None = refl
families_apart (Some Zero) (Some One) = refl
families_apart (Some Zero) (Some Zero) = refl

-- roles that are apart say that the place counts, and that it isn't one family's
apart_law : (i j : Op) (x : Place) → are_apart (role_at i x) (role_at j x) ≡ (not (is_memory x) && not (are_wired_together i j x))
apart_law i j (General n) = refl
apart_law i j (Predicate n) = families_apart (wired i n) (wired j n)
apart_law i j (Target n) = refl
apart_law i j Memory = refl

-- what the pairs of sets say of a place by the roles of both operations there, where c says that it is constant and m that
-- the first writes it
by_roles : (c m pa pb oa ob za zb : Bool) →
    (((cond c false (m && pa) || (cond c false m && pb)) || (cond c false (m && oa) && zb)) || (cond c false (m && za) && ob))
    ≡ (cond c false m && (((pa || pb) || (oa && zb)) || (za && ob)))
by_roles true m pa pb oa ob za zb = refl
by_roles false true pa pb oa ob za zb = refl
by_roles false false pa pb oa ob za zb = refl

and_swap : (a b c : Bool) → (a && (b && c)) ≡ (b && (a && c))
and_swap true b c = refl
and_swap false b c = sym (and-false b)

module _ (a b : Guarded) where
  -- the place is among some that the first writes, and the second writes it in a role
  shared : List Place → Role → Place → Bool
  shared xs r x = not_constant x (is_among x xs) && is_in r b.op x

  -- what the four pairs of sets say of a place
  in_common : Place → Bool
  in_common x =
      ((not_constant x (is_among x (written_as role.Plain a.op)) || shared (destinations a.op) role.Plain x)
      || shared (written_as role.One a.op) role.Zero x)
      || shared (written_as role.Zero a.op) role.One x

  kept : (r : Role) (x : Place) → is_among x (written_as r a.op) ≡ (is_among x (destinations a.op) && is_in r a.op x)
  kept r x = among_filter (is_in r a.op) x (destinations a.op)

  -- which is that both write it, not as one wired family
  at_place : (x : Place) → in_common x ≡ both_write_at a.op b.op x
  unfolding in_common shared
  at_place x =
      rw (kept role.Plain x, kept role.One x, kept role.Zero x)
      (by_roles
      (is_constant x)
      (is_among x (destinations a.op))
      (is_in role.Plain a.op x)
      (is_in role.Plain b.op x)
      (is_in role.One a.op x)
      (is_in role.One b.op x)
      (is_in role.Zero a.op x)
      (is_in role.Zero b.op x)
      ∙ ap (λ c. writes a.op x && c) (apart_law a.op b.op x)
      ∙ and_swap (writes a.op x) (not (is_memory x)) (not (are_wired_together a.op b.op x)))

  in_role : (r : Role) → AllByRecursion InRange (written_as r a.op)
  in_role r = kept_in_range (is_in r a.op) (destinations a.op) (written_in_range a)

  meets_all : (xs : List Place) → AllByRecursion InRange xs →
      meets (set_of xs) (set_of (destinations b.op)) ≡ list_any (λ x. not_constant x (is_among x xs)) (destinations b.op)
  meets_all xs h = meets_comm (set_of xs) (set_of (destinations b.op)) ∙ sets_meet (destinations b.op) xs (written_in_range b) h

  meets_shared : (xs : List Place) (r : Role) → AllByRecursion InRange xs →
      meets (set_of xs) (set_of (written_as r b.op)) ≡ list_any (shared xs r) (destinations b.op)
  unfolding shared
  meets_shared xs r h =
      meets_comm (set_of xs) (set_of (written_as r b.op))
      ∙ sets_meet (written_as r b.op) xs (kept_in_range (is_in r b.op) (destinations b.op) (written_in_range b)) h
      ∙ any_filter (λ x. not_constant x (is_among x xs)) (is_in r b.op) (destinations b.op)

  four : (p q r s p' q' r' s' : Bool) → p ≡ p' → q ≡ q' → r ≡ r' → s ≡ s' → (((p || q) || r) || s) ≡ (((p' || q') || r') || s')
  four p q r s p' q' r' s' e f g h = cc

  by_place : sets_clash (footprint a) (footprint b) ≡ list_any in_common (destinations b.op)
  unfolding in_common
  by_place =
      some_in_four
      (bit_and (footprint a).plain (footprint b).writes)
      (bit_and (footprint a).writes (footprint b).plain)
      (bit_and (footprint a).ones (footprint b).zeros)
      (bit_and (footprint a).zeros (footprint b).ones)
      ∙ four _ _ _ _ _ _ _ _
      (meets_all (written_as role.Plain a.op) (in_role role.Plain))
      (meets_shared (destinations a.op) role.Plain (written_in_range a))
      (meets_shared (written_as role.One a.op) role.Zero (in_role role.One))
      (meets_shared (written_as role.Zero a.op) role.One (in_role role.Zero))
      ∙ any_of_four
      (λ x. not_constant x (is_among x (written_as role.Plain a.op)))
      (shared (destinations a.op) role.Plain)
      (shared (written_as role.One a.op) role.Zero)
      (shared (written_as role.Zero a.op) role.One)
      (destinations b.op)

-- both operations write a place, not as one wired family, where their footprints say so
pub clash_law : (a b : Guarded) → sets_clash (footprint a) (footprint b) ≡ both_write a.op b.op
clash_law a b = by_place a b ∙ any_agree (in_common a b) (both_write_at a.op b.op) (at_place a b) (destinations b.op)

-- ---- operations that have nothing in common

-- three sets of places are empty where their union is
none_in_three : (a b c : ℕ) → nat_eq (bit_or (bit_or a b) c) 0 ≡ true → (a ≡ 0) × (b ≡ 0) × (c ≡ 0)
none_in_three a b c e =
    let p = or_parts _ _ (sym (some_in_either (bit_or a b) c) ∙ ap not e) in
    let q = or_parts _ _ (sym (some_in_either a b) ∙ p.0) in
    (eqb-true a 0 (not-false (nat_eq a 0) q.0), eqb-true b 0 (not-false (nat_eq b 0) q.1), eqb-true c 0 (not-false (nat_eq c 0) p.1))

any_less : (p q : Place → Bool) → ((x : Place) → q x ≡ false → p x ≡ false) → (xs : List Place) → list_any q xs ≡ false → list_any p xs ≡ false
any_less p q less [] e = refl
any_less p q less (x ∷ xs) e =
    let parts = or_parts (q x) (list_any q xs) e in
    or_from (p x) (list_any p xs) (less x parts.0) (any_less p q less xs parts.1)

-- neither feeds the other, and they write no place together
pub record AreStrangers (a b : Guarded) : Type 0 where
  pub to : feeds a b ≡ false
  pub from : feeds b a ≡ false
  pub apart : both_write a.op b.op ≡ false

pub strangers_law : (a b : Guarded) → is_stranger_to (footprint a) (footprint b) ≡ true → AreStrangers a b
strangers_law a b e =
    let none = none_in_three _ _ _ e in
    record {
      to = sym (feeds_law a b) ∙ ap (λ n. not (nat_eq n 0)) none.0;
      from = sym (feeds_law b a) ∙ meets_comm (footprint b).writes (footprint a).reads ∙ ap (λ n. not (nat_eq n 0)) none.2;
      apart =
          any_less (both_write_at a.op b.op) (writes a.op)
          (λ x unwritten. and_right (not (is_memory x)) (writes a.op x && not (are_wired_together a.op b.op x))
          (and_left (writes a.op x) (not (are_wired_together a.op b.op x)) unwritten))
          (destinations b.op)
          (sym (meets_all a b (destinations a.op) (written_in_range a)) ∙ ap (λ n. not (nat_eq n 0)) none.1);
    }
