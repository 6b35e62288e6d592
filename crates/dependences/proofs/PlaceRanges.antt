-- The places of an operation are in range, so that their numbers tell them apart.
use Rattle.std.proofs.Common.{◌≡◌, ℕ, ◌+◌, ◌≤◌, Bool, true, false, cond, ◌&&◌, List, [], ◌∷◌, refl, arith}
use Rattle.std.specs.Prelude.{nat_eq, filter}
use Rattle.std.specs.List.{AllByRecursion}
use Rattle.std.proofs.lemmas.Bool.{ne_eqb, leb-true, and_parts}
use Rattle.std.proofs.lemmas.Bool.Decides.{nat_tests}
use Rattle.operation.specs.declared.Op.{Op}
use Rattle.operation.specs.declared.Op.TheVariants as op
use Rattle.operation.specs.declared.Guarded.{Guarded}
use Rattle.operation.specs.declared.Place.{Place}
use Rattle.operation.specs.declared.Place.TheVariants.{General, Predicate, Target, Memory}
use Rattle.operation.specs.Places.{same_place, sources, destinations}
use Rattle.operation.specs.Ranges.{is_register, is_target, is_stored, is_op_in_range}
use Rattle.dependences.specs.Footprint.{place_number, operands, read_places}

-- the place is one of the machine's
abbrev pub InRange : Place → Type 0
InRange (General n) = n ≤ 31
InRange (Predicate n) = n ≤ 31
InRange (Target n) = n ≤ 7
InRange Memory = Unit {0}

-- ---- numbers of places

added : (k a b : ℕ) → nat_eq (k + a) (k + b) ≡ nat_eq a b
added k a b = grind (arith, nat_tests)

-- two places in range with one number are one
pub same_number : (x y : Place) → InRange x → InRange y → nat_eq (place_number x) (place_number y) ≡ same_place x y
same_number (General a) (General b) h k = refl
same_number (General a) (Predicate b) h k = ne_eqb a (32 + b) (λ e. omega arith)
same_number (General a) (Target b) h k = ne_eqb a (64 + b) (λ e. omega arith)
same_number (General a) Memory h k = ne_eqb a 72 (λ e. omega arith)
same_number (Predicate a) (General b) h k = ne_eqb (32 + a) b (λ e. omega arith)
same_number (Predicate a) (Predicate b) h k = added 32 a b
same_number (Predicate a) (Target b) h k = ne_eqb (32 + a) (64 + b) (λ e. omega arith)
same_number (Predicate a) Memory h k = ne_eqb (32 + a) 72 (λ e. omega arith)
same_number (Target a) (General b) h k = ne_eqb (64 + a) b (λ e. omega arith)
same_number (Target a) (Predicate b) h k = ne_eqb (64 + a) (32 + b) (λ e. omega arith)
same_number (Target a) (Target b) h k = added 64 a b
same_number (Target a) Memory h k = ne_eqb (64 + a) 72 (λ e. omega arith)
same_number Memory (General b) h k = ne_eqb 72 b (λ e. omega arith)
same_number Memory (Predicate b) h k = ne_eqb 72 (32 + b) (λ e. omega arith)
same_number Memory (Target b) h k = ne_eqb 72 (64 + b) (λ e. omega arith)
same_number Memory Memory h k = refl

-- ---- the places of an operation

register_number : (n : ℕ) → is_register n ≡ true → n ≤ 31
register_number n h = leb-true n 31 h

target_number : (n : ℕ) → is_target n ≡ true → n ≤ 7
target_number n h = leb-true n 7 h

abbrev AreRegisters : ℕ → ℕ → ℕ → Type 0
AreRegisters a b c = (a ≤ 31) × (b ≤ 31) × (c ≤ 31)

two_registers : (a b : ℕ) → (is_register a && is_register b) ≡ true → (a ≤ 31) × (b ≤ 31)
two_registers a b h = let parts = and_parts (is_register a) (is_register b) h in (register_number a parts.0, register_number b parts.1)

three_registers : (a b c : ℕ) → (is_register a && is_register b && is_register c) ≡ true → AreRegisters a b c
three_registers a b c h =
    let parts = and_parts (is_register a && is_register b) (is_register c) h in
    let two = two_registers a b parts.0 in
    (two.0, two.1, register_number c parts.1)

-- what it writes, and what it reads beside its guard
abbrev PlacesInRange : Op → Type 0
PlacesInRange o = AllByRecursion InRange (destinations o) × AllByRecursion InRange (operands (sources o))

places_in_range : (o : Op) → is_op_in_range o ≡ true → PlacesInRange o
places_in_range (op.Alu k d s t) h = let r = three_registers d s t h in ((r.0, tt), (r.1, (r.2, tt)))
places_in_range (op.AluImm k d s imm) h = let r = two_registers d s h in ((r.0, tt), (r.1, tt))
places_in_range (op.Pbr d imm) h = ((target_number d h, tt), tt)
places_in_range (op.Mvb d s) h = let r = and_parts (is_target d) (is_register s) h in ((target_number d r.0, tt), (register_number s r.1, tt))
places_in_range (op.Mvr d s) h = let r = and_parts (is_register d) (is_target s) h in ((register_number d r.0, tt), (target_number s r.1, tt))
places_in_range (op.Mul d s t) h = let r = three_registers d s t h in ((r.0, tt), (r.1, (r.2, tt)))
places_in_range (op.Div d s t) h = let r = three_registers d s t h in ((r.0, tt), (r.1, (r.2, tt)))
places_in_range (op.Rem d s t) h = let r = three_registers d s t h in ((r.0, tt), (r.1, (r.2, tt)))
places_in_range (op.Load size d s imm) h = let r = two_registers d s h in ((r.0, tt), (r.1, (tt, tt)))
places_in_range (op.Store size d s imm) h =
    let r = and_parts (is_stored size && is_register d) (is_register s) h in
    let stored = and_parts (is_stored size) (is_register d) r.0 in
    ((tt, tt), (register_number s r.1, (register_number d stored.1, tt)))
places_in_range (op.Inb d) h = ((register_number d h, tt), tt)
places_in_range (op.Outb s) h = (tt, (register_number s h, tt))
places_in_range (op.Cmp test a b s t) h =
    let parts = and_parts (is_register a.p && is_register b.p && is_register s) (is_register t) h in
    let r = three_registers a.p b.p s parts.0 in
    ((r.0, (r.1, tt)), (r.2, (register_number t parts.1, tt)))
places_in_range (op.CmpImm test a b s imm) h = let r = three_registers a.p b.p s h in ((r.0, (r.1, tt)), (r.2, tt))
places_in_range (op.Bru s) h = (tt, (target_number s h, tt))
places_in_range (op.Brct s d) h = let r = and_parts (is_target s) (is_register d) h in (tt, (target_number s r.0, (register_number d r.1, tt)))
places_in_range (op.Brcf s d) h = let r = and_parts (is_target s) (is_register d) h in (tt, (target_number s r.0, (register_number d r.1, tt)))
places_in_range (op.Brl d s) h = let r = and_parts (is_target d) (is_target s) h in ((target_number d r.0, tt), (target_number s r.1, tt))
places_in_range (op.Halt s) h = (tt, (register_number s h, tt))

pub written_in_range : (g : Guarded) → AllByRecursion InRange (destinations g.op)
written_in_range g = (places_in_range g.op (and_parts (is_register g.guard) (is_op_in_range g.op) g.in_range).1).0

pub read_in_range : (g : Guarded) → AllByRecursion InRange (read_places g)
read_in_range g =
    let parts = and_parts (is_register g.guard) (is_op_in_range g.op) g.in_range in
    (register_number g.guard parts.0, (places_in_range g.op parts.1).1)

pub kept_in_range : (p : Place → Bool) (xs : List Place) → AllByRecursion InRange xs → AllByRecursion InRange (filter p xs)
kept_in_range p [] h = tt
kept_in_range p (x ∷ xs) h = go (p x) (kept_in_range p xs h.1)
  where
    go : (b : Bool) → AllByRecursion InRange (filter p xs) → AllByRecursion InRange (cond b (x ∷ filter p xs) (filter p xs))
    go true rest = (h.0, rest)
    go false rest = rest
