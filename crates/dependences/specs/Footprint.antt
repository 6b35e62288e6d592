-- What an operation reads and writes, as sets of places: in a set the bit of each place's number is 1. For contracts within the crate.
use Rattle.std.specs.Prelude.{ℕ, Bool, true, false, not, if◌then◌else◌, nat_eq, ◌+◌, ◌^◌, List, [], ◌∷◌, ◌++◌, filter, Option, Some, None, option_map, bit_and, bit_or}
use Rattle.std.specs.Bool.{then_some}
use Rattle.operation.specs.declared.Guarded.{Guarded}
use Rattle.operation.specs.declared.Op.{Op}
use Rattle.operation.specs.declared.Sources.{Sources}
use Rattle.operation.specs.declared.Place.{Place}
use Rattle.operation.specs.declared.Place.TheVariants.{General, Predicate, Target, Memory}
use Rattle.operation.specs.declared.Family.{Family}
use Rattle.operation.specs.declared.Family.TheVariants.{One, Zero}
use Rattle.operation.specs.Places.{is_constant, sources, destinations, if_any, wired}
use Rattle.dependences.specs.declared.footprint.Role.{Role}
use Rattle.dependences.specs.declared.footprint.Role.TheVariants as role
use Rattle.dependences.specs.declared.footprint.Footprint.{Footprint}

-- the number of a place: registers from 0 on, predicates from 32 on, targets from 64 on, and the memory
abbrev pub place_number : Place → ℕ
place_number (General n) = n
place_number (Predicate n) = 32 + n
place_number (Target n) = 64 + n
place_number Memory = 72

-- the set of a place alone; r0 and p0 are in no set
abbrev pub only : Place → ℕ
only x = if is_constant x then 0 else 2 ^ place_number x

-- the set of some places
abbrev pub set_of : List Place → ℕ
set_of [] = 0
set_of (x ∷ xs) = bit_or (only x) (set_of xs)

-- two sets have a place in common
abbrev pub meets : ℕ → ℕ → Bool
meets a b = not (nat_eq (bit_and a b) 0)

-- the places of some operands
abbrev pub operands : Sources → List Place
operands from =
    if_any (option_map General from.first)
    ++ (if_any (option_map General from.second)
    ++ (if_any (option_map Target from.target)
    ++ (if_any (option_map Predicate from.test)
    ++ if_any (then_some from.memory Memory))))

-- what an operation reads: its guard and its operands
abbrev pub read_places : Guarded → List Place
read_places g = Predicate g.guard ∷ operands (sources g.op)

-- as what an operation writes a predicate, by the family in which it is wired there
abbrev pub role_in : Option Family → Role
role_in None = role.Plain
role_in (Some One) = role.One
role_in (Some Zero) = role.Zero

-- as what an operation writes a place
abbrev pub role_at : Op → Place → Role
role_at o (Predicate p) = role_in (wired o p)
role_at o Memory = role.Store
role_at o _ = role.Plain

-- whether two roles are one
abbrev pub same_role : Role → Role → Bool
same_role role.Plain role.Plain = true
same_role role.One role.One = true
same_role role.Zero role.Zero = true
same_role role.Store role.Store = true
same_role _ _ = false

-- the places that an operation writes in a role
abbrev pub written_as : Role → Op → List Place
written_as r o = filter (λ x. same_role (role_at o x) r) (destinations o)

-- all that an operation reads and writes
abbrev pub footprint : Guarded → Footprint
footprint g = record {
  reads = set_of (read_places g);
  writes = set_of (destinations g.op);
  plain = set_of (written_as role.Plain g.op);
  ones = set_of (written_as role.One g.op);
  zeros = set_of (written_as role.Zero g.op);
}

-- the first writes a place that the second reads
abbrev pub feeds : Footprint → Footprint → Bool
feeds a b = meets a.writes b.reads

-- neither reads or writes what the other writes
abbrev pub is_stranger_to : Footprint → Footprint → Bool
is_stranger_to a b = nat_eq (bit_or (bit_or (bit_and a.writes b.reads) (bit_and a.writes b.writes)) (bit_and a.reads b.writes)) 0

-- both write a register, predicate or target, and aren't wired there in one family
abbrev pub clashes : Footprint → Footprint → Bool
clashes a b =
    not (nat_eq (bit_or (bit_or (bit_or (bit_and a.plain b.writes) (bit_and a.writes b.plain)) (bit_and a.ones b.zeros)) (bit_and a.zeros b.ones)) 0)
