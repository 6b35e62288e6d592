-- Places as the tables of operations have them: equal ones, those that are listed, and those that are read or written.
use Rattle.std.proofs.Common.{◌≡◌, ℕ, zero, suc, Bool, true, false, cond, ◌||◌, List, [], ◌∷◌, refl, sym, ap, ◌∙◌}
use Rattle.std.proofs.lemmas.Bool.{eqb-true, eq-eqb, or_left, or_right}
use Rattle.operation.specs.declared.Op.{Op}
use Rattle.operation.specs.declared.Op.TheVariants as op
use Rattle.operation.specs.declared.Guarded.{Guarded}
use Rattle.operation.specs.declared.Place.{Place}
use Rattle.operation.specs.declared.Place.TheVariants.{General, Predicate, Target, Memory}
use Rattle.operation.specs.Places.{same_place, is_among, is_constant, sources, is_read_by, destinations, reads, writes, is_store, is_load, can_trap}

-- ---- equal places

pub same_place_refl : (x : Place) → same_place x x ≡ true
same_place_refl (General n) = eq-eqb n n refl
same_place_refl (Predicate n) = eq-eqb n n refl
same_place_refl (Target n) = eq-eqb n n refl
same_place_refl Memory = refl

pub same_place_is : (x y : Place) → same_place x y ≡ true → x ≡ y
same_place_is (General a) (General b) e = ap General (eqb-true a b e)
same_place_is (Predicate a) (Predicate b) e = ap Predicate (eqb-true a b e)
same_place_is (Target a) (Target b) e = ap Target (eqb-true a b e)
same_place_is Memory Memory e = refl
same_place_is x y e = cc

-- ---- places of a list

pub among_head : (x : Place) (xs : List Place) → is_among x (x ∷ xs) ≡ true
among_head x xs = or_left (same_place x x) (is_among x xs) (same_place_refl x)

pub among_next : (x y : Place) (xs : List Place) → is_among x xs ≡ true → is_among x (y ∷ xs) ≡ true
among_next x y xs h = or_right (same_place x y) (is_among x xs) h

-- ---- what is read or written is neither r0 nor p0

pub read_varies : (g : Guarded) (x : Place) → reads g x ≡ true → is_constant x ≡ false
read_varies g (General zero) h = cc
read_varies g (General (suc n)) h = refl
read_varies g (Predicate zero) h = cc
read_varies g (Predicate (suc n)) h = refl
read_varies g (Target n) h = refl
read_varies g Memory h = refl

pub write_varies : (o : Op) (x : Place) → writes o x ≡ true → is_constant x ≡ false
write_varies o (General zero) h = cc
write_varies o (General (suc n)) h = refl
write_varies o (Predicate zero) h = cc
write_varies o (Predicate (suc n)) h = refl
write_varies o (Target n) h = refl
write_varies o Memory h = refl

-- ---- a place is read if it is the guard or an operand, and written if it is a destination

pub reads_at :
    (g : Guarded) (x : Place) → is_constant x ≡ false →
    same_place x (Predicate g.guard) || is_read_by (sources g.op) x ≡ true → reads g x ≡ true
reads_at g x c a = rw c a

pub writes_at : (o : Op) (x : Place) → is_constant x ≡ false → is_among x (destinations o) ≡ true → writes o x ≡ true
writes_at o x c a = rw c a

pub written_among : (o : Op) (x : Place) → writes o x ≡ true → is_among x (destinations o) ≡ true
written_among o x w = sym (ap (λ b. cond b false (is_among x (destinations o))) (write_varies o x w)) ∙ w

-- ---- the memory is written by stores alone, and read by loads alone

pub store_writes : (o : Op) → is_store o ≡ true → writes o Memory ≡ true
store_writes (op.Store size d s imm) h = refl
store_writes o h = cc

pub writer_stores : (o : Op) → writes o Memory ≡ true → is_store o ≡ true
writer_stores (op.Store size d s imm) h = refl
writer_stores o h = h

pub load_reads : (o : Op) → is_load o ≡ true → (sources o).memory ≡ true
load_reads (op.Load size d s imm) h = refl
load_reads o h = cc

pub reader_loads : (o : Op) → (sources o).memory ≡ true → is_load o ≡ true
reader_loads (op.Load size d s imm) h = refl
reader_loads o h = h

-- ---- traps

pub store_traps : (o : Op) → is_store o ≡ true → can_trap o ≡ true
store_traps (op.Store size d s imm) h = refl
store_traps o h = cc
