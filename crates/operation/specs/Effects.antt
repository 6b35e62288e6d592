-- What an operation does, by the values of its operands.
use Rattle.std.specs.Prelude.{ℕ, ◌+◌, ◌%◌, ◌*◌, Bool, true, false, cond, not, ◌||◌, nat_eq, nat_lt, if◌then◌else◌, Option, Some, None}
use Rattle.operation.specs.declared.Op.{Op}
use Rattle.operation.specs.declared.Op.TheVariants as op
use Rattle.operation.specs.declared.Guarded.{Guarded}
use Rattle.operation.specs.declared.Operands.{Operands}
use Rattle.operation.specs.declared.Dest.{Dest}
use Rattle.operation.specs.declared.Action.{Action}
use Rattle.operation.specs.declared.Action.TheVariants.{Un, Uc, On, Oc, An, Ac}
use Rattle.operation.specs.declared.Size.{Size}
use Rattle.operation.specs.declared.Effect.{Effect}
use Rattle.operation.specs.declared.Effect.TheVariants.{Nothing, General, Predicates, Target, Load, Store, Take, Put, Trapped, Jump, Link, Halt}
use Rattle.operation.specs.declared.TrapKind.{TrapKind}
use Rattle.operation.specs.declared.TrapKind.TheVariants.{DivideByZero, Misaligned, OutOfRange, OutputFull}
use Rattle.operation.specs.Arithmetic.{wrap, unsigned, alu, quotient, remainder, compare, bytes_of}

-- what an action writes under a guard, where the compare's test gives c
abbrev pub written : Action → Bool → Bool → Option Bool
written Un guard c = Some (cond guard c false)
written Uc guard c = Some (cond guard (not c) false)
written On guard c = cond guard (cond c (Some true) None) None
written Oc guard c = cond guard (cond c None (Some true)) None
written An guard c = cond guard (cond c None (Some false)) None
written Ac guard c = cond guard (cond c (Some false) None) None

-- a trap with its detail
abbrev pub trap : TrapKind → ℕ → Effect
trap kind detail = Trapped (record { kind = kind; detail = detail })

-- the effect, where the access is aligned and inside the memory; the alignment is tested first, and the end of the
-- access doesn't wrap
abbrev pub access : Size → ℕ → ℕ → Effect → Effect
access size address memory e =
    if nat_eq (address % bytes_of size) 0
    then (if nat_lt memory (address + bytes_of size) then trap OutOfRange address else e)
    else trap Misaligned address

-- the effect, where the divisor isn't 0; else a trap with the dividend
abbrev pub divided : ℕ → ℕ → Effect → Effect
divided a b e = if nat_eq b 0 then trap DivideByZero a else e

-- what a compare does to both destinations, where its test gives c
abbrev pub compared : Dest → Dest → Bool → Bool → Effect
compared a b guard c = Predicates (written a.action guard c) (written b.action guard c)

-- what an operation does under a true guard, and a compare under either
abbrev pub does : Op → Operands → Effect
does (op.Alu k d s t) v = General d (alu k v.first v.second)
does (op.AluImm k d s imm) v = General d (alu k v.first imm)
does (op.Pbr d imm) v = Target d imm
does (op.Mvb d s) v = Target d v.first
does (op.Mvr d s) v = General d v.target
does (op.Mul d s t) v = General d (wrap (v.first * v.second))
does (op.Div d s t) v = divided v.first v.second (General d (quotient v.first v.second))
does (op.Rem d s t) v = divided v.first v.second (General d (remainder v.first v.second))
does (op.Load size d s imm) v =
    let address = wrap (v.first + imm) in
    access size address v.memory (Load d address size)
does (op.Store size d s imm) v =
    let address = wrap (v.first + imm) in
    access size address v.memory (Store address size v.second)
does (op.Inb d) v = Take d
does (op.Outb s) v = if v.full then trap OutputFull (v.first % 256) else Put (v.first % 256)
does (op.Cmp test a b s t) v = compared a b v.guard (compare test v.first v.second)
does (op.CmpImm test a b s imm) v = compared a b v.guard (compare test v.first (unsigned imm))
does (op.Bru s) v = Jump v.target
does (op.Brct s d) v = if v.test then Jump v.target else Nothing
does (op.Brcf s d) v = if v.test then Nothing else Jump v.target
does (op.Brl d s) v = Link d v.target
does (op.Halt s) v = Halt v.first

-- register and immediate compares
abbrev pub is_compare : Op → Bool
is_compare (op.Cmp test a b s t) = true
is_compare (op.CmpImm test a b s imm) = true
is_compare _ = false

-- the effect of an operation under its guard: nothing where that is false, but a compare acts under either
abbrev pub effect : Guarded → Operands → Effect
effect g v = if v.guard || is_compare g.op then does g.op v else Nothing
