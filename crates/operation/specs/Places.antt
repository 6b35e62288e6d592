-- What each operation reads and writes, and what it is: its unit kind, its latency kind, whether it can trap.
use Rattle.std.specs.Prelude.{ℕ, zero, suc, Bool, true, false, cond, ◌||◌, nat_eq, List, [], ◌∷◌, ◌++◌, Option, Some, None}
use Rattle.operation.specs.declared.Op.{Op}
use Rattle.operation.specs.declared.Op.TheVariants as op
use Rattle.operation.specs.declared.Guarded.{Guarded}
use Rattle.operation.specs.declared.Dest.{Dest}
use Rattle.operation.specs.declared.Action.{Action}
use Rattle.operation.specs.declared.Action.TheVariants.{Un, Uc, On, Oc, An, Ac}
use Rattle.operation.specs.declared.Sources.{Sources}
use Rattle.operation.specs.declared.Destinations.{Destinations}
use Rattle.operation.specs.declared.Place.{Place}
use Rattle.operation.specs.declared.Place.TheVariants.{General, Predicate, Target, Memory}
use Rattle.operation.specs.declared.Family.{Family}
use Rattle.operation.specs.declared.Family.TheVariants.{One, Zero}
use Rattle.operation.specs.declared.UnitKind.{UnitKind}
use Rattle.operation.specs.declared.UnitKind.TheVariants as unit
use Rattle.operation.specs.declared.LatKind.{LatKind}
use Rattle.operation.specs.declared.LatKind.TheVariants as lat

-- no operand
abbrev pub none_read : Sources
none_read = record { first = None; second = None; target = None; test = None; memory = false }

-- r[s] alone
abbrev pub one_read : ℕ → Sources
one_read s = record none_read { first = Some s }

-- r[s] and r[t]
abbrev pub two_read : ℕ → ℕ → Sources
two_read s t = record none_read { first = Some s; second = Some t }

-- b[s] alone
abbrev pub target_read : ℕ → Sources
target_read s = record none_read { target = Some s }

-- the operands of each operation: the numbers of r[s], of r[t] or a store's r[d], of b[s], and of a conditional branch's
-- p[d]; and whether it reads memory
abbrev pub sources : Op → Sources
sources (op.Alu k d s t) = two_read s t
sources (op.AluImm k d s imm) = one_read s
sources (op.Pbr d imm) = none_read
sources (op.Mvb d s) = one_read s
sources (op.Mvr d s) = target_read s
sources (op.Mul d s t) = two_read s t
sources (op.Div d s t) = two_read s t
sources (op.Rem d s t) = two_read s t
sources (op.Load size d s imm) = record none_read { first = Some s; memory = true }
sources (op.Store size d s imm) = two_read s d
sources (op.Inb d) = none_read
sources (op.Outb s) = one_read s
sources (op.Cmp test a b s t) = two_read s t
sources (op.CmpImm test a b s imm) = one_read s
sources (op.Bru s) = target_read s
sources (op.Brct s d) = record none_read { target = Some s; test = Some d }
sources (op.Brcf s d) = record none_read { target = Some s; test = Some d }
sources (op.Brl d s) = target_read s
sources (op.Halt s) = one_read s

-- the places where an operation leaves a value
abbrev pub destinations : Op → List Place
destinations (op.Alu k d s t) = General d ∷ []
destinations (op.AluImm k d s imm) = General d ∷ []
destinations (op.Pbr d imm) = Target d ∷ []
destinations (op.Mvb d s) = Target d ∷ []
destinations (op.Mvr d s) = General d ∷ []
destinations (op.Mul d s t) = General d ∷ []
destinations (op.Div d s t) = General d ∷ []
destinations (op.Rem d s t) = General d ∷ []
destinations (op.Load size d s imm) = General d ∷ []
destinations (op.Store size d s imm) = Memory ∷ []
destinations (op.Inb d) = General d ∷ []
destinations (op.Outb s) = []
destinations (op.Cmp test a b s t) = Predicate a.p ∷ (Predicate b.p ∷ [])
destinations (op.CmpImm test a b s imm) = Predicate a.p ∷ (Predicate b.p ∷ [])
destinations (op.Bru s) = []
destinations (op.Brct s d) = []
destinations (op.Brcf s d) = []
destinations (op.Brl d s) = Target d ∷ []
destinations (op.Halt s) = []

-- the place, where there is one
abbrev pub if_any : Option Place → List Place
if_any None = []
if_any (Some x) = x ∷ []

-- the places that are named, the first one first
abbrev pub listed : Destinations → List Place
listed d = if_any d.first ++ if_any d.second

-- whether two places are one
abbrev pub same_place : Place → Place → Bool
same_place (General a) (General b) = nat_eq a b
same_place (Predicate a) (Predicate b) = nat_eq a b
same_place (Target a) (Target b) = nat_eq a b
same_place Memory Memory = true
same_place _ _ = false

-- whether a place stands in a list
abbrev pub is_among : Place → List Place → Bool
is_among x [] = false
is_among x (y ∷ ys) = same_place x y || is_among x ys

-- r0 and p0 are no places
abbrev pub is_constant : Place → Bool
is_constant (General zero) = true
is_constant (Predicate zero) = true
is_constant _ = false

-- a test, but false at r0 and p0
abbrev pub not_constant : Place → Bool → Bool
not_constant x b = cond (is_constant x) false b

-- the place of an operand, where there is one
abbrev pub is_source : (ℕ → Place) → Option ℕ → Place → Bool
is_source place None x = false
is_source place (Some n) x = same_place x (place n)

-- whether a place is among the sources
abbrev pub is_read_by : Sources → Place → Bool
is_read_by from (General n) = is_source General from.first (General n) || is_source General from.second (General n)
is_read_by from (Predicate n) = is_source Predicate from.test (Predicate n)
is_read_by from (Target n) = is_source Target from.target (Target n)
is_read_by from Memory = from.memory

-- an operation reads its guard and its operands
abbrev pub reads : Guarded → Place → Bool
reads g x = not_constant x (same_place x (Predicate g.guard) || is_read_by (sources g.op) x)

-- an operation writes its destinations
abbrev pub writes : Op → Place → Bool
writes o x = not_constant x (is_among x (destinations o))

-- ON and OC are one wired family, AN and AC the other
abbrev pub family : Action → Option Family
family Un = None
family Uc = None
family On = Some One
family Oc = Some One
family An = Some Zero
family Ac = Some Zero

-- both have a family, and it is the same
abbrev pub same_family : Option Family → Option Family → Bool
same_family (Some One) (Some One) = true
same_family (Some Zero) (Some Zero) = true
same_family _ _ = false

-- the family of both actions
abbrev pub common : Option Family → Option Family → Option Family
common (Some One) (Some One) = Some One
common (Some Zero) (Some Zero) = Some Zero
common _ _ = None

-- by whether the first and the second destination are the predicate
abbrev pub wired_by : Bool → Bool → Option Family → Option Family → Option Family
wired_by true true f g = common f g
wired_by true false f g = f
wired_by false true f g = g
wired_by false false f g = None

-- a compare is wired on a predicate where all its destinations there are of one family
abbrev pub wired_on : Dest → Dest → ℕ → Option Family
wired_on a b p = wired_by (nat_eq p a.p) (nat_eq p b.p) (family a.action) (family b.action)

-- the family in which an operation is wired on a predicate; on p0 there is none
abbrev pub wired : Op → ℕ → Option Family
wired o zero = None
wired (op.Cmp test a b s t) (suc p) = wired_on a b (suc p)
wired (op.CmpImm test a b s imm) (suc p) = wired_on a b (suc p)
wired _ (suc p) = None

-- both operations are of one wired family at the place
abbrev pub are_wired_together : Op → Op → Place → Bool
are_wired_together i j (Predicate p) = same_family (wired i p) (wired j p)
are_wired_together i j _ = false

-- stores
abbrev pub is_store : Op → Bool
is_store (op.Store size d s imm) = true
is_store _ = false

-- loads
abbrev pub is_load : Op → Bool
is_load (op.Load size d s imm) = true
is_load _ = false

-- what takes a byte of the input
abbrev pub is_inb : Op → Bool
is_inb (op.Inb d) = true
is_inb _ = false

-- what puts a byte out
abbrev pub is_outb : Op → Bool
is_outb (op.Outb s) = true
is_outb _ = false

-- quotients and remainders
abbrev pub is_division : Op → Bool
is_division (op.Div d s t) = true
is_division (op.Rem d s t) = true
is_division _ = false

-- what can trap when it issues
abbrev pub can_trap : Op → Bool
can_trap o = is_division o || is_load o || is_store o || is_outb o

-- what ends a block: branches and halt
abbrev pub is_branch : Op → Bool
is_branch (op.Bru s) = true
is_branch (op.Brct s d) = true
is_branch (op.Brcf s d) = true
is_branch (op.Brl d s) = true
is_branch (op.Halt s) = true
is_branch _ = false

-- the number of a unit kind, in words and in descriptions
abbrev pub unit_number : UnitKind → ℕ
unit_number unit.I = 0
unit_number unit.M = 1
unit_number unit.L = 2
unit_number unit.P = 3
unit_number unit.B = 4

-- the number of a latency kind, in descriptions
abbrev pub latency_number : LatKind → ℕ
latency_number lat.Alu = 0
latency_number lat.Mul = 1
latency_number lat.Div = 2
latency_number lat.Load = 3
latency_number lat.Store = 4
latency_number lat.Io = 5
latency_number lat.Cmp = 6
latency_number lat.Pbr = 7
latency_number lat.Branch = 8

-- the kind of functional unit that an operation takes
abbrev pub unit_kind : Op → UnitKind
unit_kind (op.Alu k d s t) = unit.I
unit_kind (op.AluImm k d s imm) = unit.I
unit_kind (op.Pbr d imm) = unit.I
unit_kind (op.Mvb d s) = unit.I
unit_kind (op.Mvr d s) = unit.I
unit_kind (op.Mul d s t) = unit.M
unit_kind (op.Div d s t) = unit.M
unit_kind (op.Rem d s t) = unit.M
unit_kind (op.Load size d s imm) = unit.L
unit_kind (op.Store size d s imm) = unit.L
unit_kind (op.Inb d) = unit.L
unit_kind (op.Outb s) = unit.L
unit_kind (op.Cmp test a b s t) = unit.P
unit_kind (op.CmpImm test a b s imm) = unit.P
unit_kind (op.Bru s) = unit.B
unit_kind (op.Brct s d) = unit.B
unit_kind (op.Brcf s d) = unit.B
unit_kind (op.Brl d s) = unit.B
unit_kind (op.Halt s) = unit.B

-- what decides an operation's latency
abbrev pub latency_kind : Op → LatKind
latency_kind (op.Alu k d s t) = lat.Alu
latency_kind (op.AluImm k d s imm) = lat.Alu
latency_kind (op.Pbr d imm) = lat.Pbr
latency_kind (op.Mvb d s) = lat.Pbr
latency_kind (op.Mvr d s) = lat.Alu
latency_kind (op.Mul d s t) = lat.Mul
latency_kind (op.Div d s t) = lat.Div
latency_kind (op.Rem d s t) = lat.Div
latency_kind (op.Load size d s imm) = lat.Load
latency_kind (op.Store size d s imm) = lat.Store
latency_kind (op.Inb d) = lat.Io
latency_kind (op.Outb s) = lat.Io
latency_kind (op.Cmp test a b s t) = lat.Cmp
latency_kind (op.CmpImm test a b s imm) = lat.Cmp
latency_kind (op.Bru s) = lat.Branch
latency_kind (op.Brct s d) = lat.Branch
latency_kind (op.Brcf s d) = lat.Branch
latency_kind (op.Brl d s) = lat.Branch
latency_kind (op.Halt s) = lat.Branch
