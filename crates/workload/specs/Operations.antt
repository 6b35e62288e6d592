-- The operations that are drawn, five draws each.
use Rattle.std.specs.Prelude.{ℕ, zero, suc, ◌+◌, ◌*◌, ◌%◌, nat_lt, if◌then◌else◌}
use Rattle.operation.specs.declared.AluKind.TheVariants.{Add, Sub, Xor, Shl}
use Rattle.operation.specs.declared.Test.TheVariants.{Clt}
use Rattle.operation.specs.declared.Size.TheVariants.{Word}
use Rattle.operation.specs.declared.Action.TheVariants.{Un, Uc}
use Rattle.operation.specs.declared.Dest.{Dest}
use Rattle.operation.specs.declared.Op.{Op}
use Rattle.operation.specs.declared.Op.TheVariants as op
use Rattle.workload.specs.Draws.{draw}

-- the destinations of a compare: one of p1 to p7 gets what the test gives, one of p8 to p14 the contrary
abbrev pub true_at : ℕ → Dest
true_at v = record { p = 1 + v % 7; action = Un }

abbrev pub false_at : ℕ → Dest
false_at v = record { p = 8 + v % 7; action = Uc }

-- the operation of each kind k below 10, with registers d, s and t and a value v
abbrev pub operation_by : (k d s t v : ℕ) → Op
operation_by zero d s t v = op.Alu Add d s t
operation_by (suc zero) d s t v = op.Alu Sub d s t
operation_by (suc (suc zero)) d s t v = op.Alu Xor d s t
operation_by (suc (suc (suc zero))) d s t v = op.Mul d s t
operation_by (suc (suc (suc (suc zero)))) d s t v = op.AluImm Shl d s (v % 32)
operation_by (suc (suc (suc (suc (suc zero))))) d s t v = op.AluImm Add d s v
operation_by (suc (suc (suc (suc (suc (suc zero)))))) d s t v = op.Cmp Clt (true_at v) (false_at v) s t
operation_by (suc (suc (suc (suc (suc (suc (suc zero))))))) d s t v = op.Load Word d 0 (4 * v)
operation_by (suc (suc (suc (suc (suc (suc (suc (suc zero)))))))) d s t v = op.Store Word d 0 (4 * v)
operation_by _ d s t v = op.AluImm Add d s t

-- its guard: p0, and of the last kind one of p1 to p7
abbrev pub guard_by : (k v : ℕ) → ℕ
guard_by k v = if nat_lt k 9 then 0 else 1 + v % 7

-- one of r1 to r15
abbrev pub register : ℕ → ℕ
register drawn = 1 + drawn % 15

-- of the five draws from a state on the first chooses the kind, and the last one the value
abbrev pub kind : ℕ → ℕ
kind x = draw 0 x % 10

abbrev pub value : ℕ → ℕ
value x = draw 4 x % 64

-- the operation that they make, and its guard
unfoldable pub drawn_operation : ℕ → Op
drawn_operation x = operation_by (kind x) (register (draw 1 x)) (register (draw 2 x)) (register (draw 3 x)) (value x)

unfoldable pub drawn_guard : ℕ → ℕ
drawn_guard x = guard_by (kind x) (value x)
