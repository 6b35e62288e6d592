-- The first unit kind that a generation lacks, found by tests.
use Rattle.std.proofs.Common.{◌≡◌, ℕ, ◌<◌, ◌≤◌, Bool, true, false, inl, inr, ◌⊎◌, refl, sym, ap, subst, ◌∙◌, arith, Option, Some, None, length}
use Rattle.std.specs.Prelude.{nat_eq, ◌↔◌, IfSome, IsNone}
use Rattle.std.specs.List.{list_any, range_with_len}
use Rattle.std.proofs.lemmas.Bool.{and_parts, and_from, cases_Bool, eqb-true, eq-eqb, false_from_ne_true}
use Rattle.operation.specs.declared.UnitKind.{UnitKind}
use Rattle.operation.specs.declared.UnitKind.TheVariants as unit
use Rattle.operation.specs.Places.{unit_number}
use Rattle.machine_desc.specs.Description.{Description, units_of}
use Rattle.machine_desc.specs.Issue.{same_unit}
use Rattle.machine_desc.proofs.SameUnit.{same_unit_is}
use Rattle.serial_order.proofs.Members.{some_among, among_some, among_range, range_among}
use Rattle.image_format.specs.Image.{Image}
use Rattle.image_check.specs.Blocks.{words_of}
use Rattle.image_check.specs.Units.{kind_of, IsUsedIn, IsUsed, IsLacking, HasUnits, IsFirstLacking, uses, lacks, first_lacking}

same_itself : (u : UnitKind) → same_unit u u ≡ true
same_itself unit.I = refl
same_itself unit.M = refl
same_itself unit.L = refl
same_itself unit.P = refl
same_itself unit.B = refl

module _ (image : Image) (g : Description) where
  abbrev uses_in : UnitKind → ℕ → ℕ → Bool
  uses_in kind k i = same_unit (kind_of (words_of image k) i) kind

  uses_used : (kind : UnitKind) → uses image kind ≡ true → IsUsed image kind
  uses_used kind t =
      let r = some_among (λ k. list_any (uses_in kind k) (range_with_len 0 (length (words_of image k)))) (range_with_len 0 (length image.rows)) t in
      let s = some_among (uses_in kind r.0) (range_with_len 0 (length (words_of image r.0))) r.2 in
      record {
        row = r.0;
        there = range_among (length image.rows) r.0 r.1;
        used = record { operation = s.0; inside = range_among (length (words_of image r.0)) s.0 s.1; same = same_unit_is (kind_of (words_of image r.0) s.0) kind s.2 };
      }

  used_uses : (kind : UnitKind) → IsUsed image kind → uses image kind ≡ true
  used_uses kind u =
      among_some (λ k. list_any (uses_in kind k) (range_with_len 0 (length (words_of image k)))) (range_with_len 0 (length image.rows)) u.row (among_range (length image.rows) u.row u.there)
      (among_some (uses_in kind u.row) (range_with_len 0 (length (words_of image u.row))) u.used.operation (among_range (length (words_of image u.row)) u.used.operation u.used.inside)
      (ap (λ v. same_unit v kind) u.used.same ∙ same_itself kind))

  lacking_test : (kind : UnitKind) → IsLacking image g kind → lacks image g kind ≡ true
  lacking_test kind l = and_from (uses image kind) (nat_eq (units_of g kind) 0) (used_uses kind l.used) (eq-eqb (units_of g kind) 0 l.none)

  other_test : (kind : UnitKind) → (IsLacking image g kind → ⊥) → lacks image g kind ≡ false
  other_test kind f = false_from_ne_true (lacks image g kind) (λ t.
      let p = and_parts (uses image kind) (nat_eq (units_of g kind) 0) t in
      f (record { used = uses_used kind p.0; none = eqb-true (units_of g kind) 0 p.1 }))

  none_lacking : HasUnits image g → (kind : UnitKind) → IsLacking image g kind → ⊥
  none_lacking has kind l =
      let n = has l.used.row l.used.there l.used.used.operation l.used.used.inside in
      let e = ap (units_of g) l.used.used.same in
      let z = l.none in
      omega arith

  pub first_is : (o : Option UnitKind) → IfSome o (IsFirstLacking image g) → (IsNone o ↔ HasUnits image g) → o ≡ first_lacking image g
  first_is (Some unit.I) s n = rw (lacking_test unit.I s.lacking) refl
  first_is (Some unit.M) s n = rw (other_test unit.I (s.first unit.I (omega arith)), lacking_test unit.M s.lacking) refl
  first_is (Some unit.L) s n = rw (other_test unit.I (s.first unit.I (omega arith)), other_test unit.M (s.first unit.M (omega arith)), lacking_test unit.L s.lacking) refl
  first_is (Some unit.P) s n =
      rw (other_test unit.I (s.first unit.I (omega arith)), other_test unit.M (s.first unit.M (omega arith)), other_test unit.L (s.first unit.L (omega arith)), lacking_test unit.P s.lacking) refl
  first_is (Some unit.B) s n =
      rw (other_test unit.I (s.first unit.I (omega arith)), other_test unit.M (s.first unit.M (omega arith)), other_test unit.L (s.first unit.L (omega arith)), other_test unit.P (s.first unit.P (omega arith)), lacking_test unit.B s.lacking) refl
  first_is None s n =
      let has = n.0 refl in
      rw (other_test unit.I (none_lacking has unit.I), other_test unit.M (none_lacking has unit.M), other_test unit.L (none_lacking has unit.L), other_test unit.P (none_lacking has unit.P), other_test unit.B (none_lacking has unit.B)) refl
