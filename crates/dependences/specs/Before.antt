-- Which of two operations comes before the other, by their times; and how many cycles before, under a generation.
use Rattle.std.specs.Prelude.{ℕ, Bool, true, false, not, ◌&&◌, ◌||◌, if◌then◌else◌, nat_eq, nat_lt, nat_le, ◌+◌, List, [], ◌∷◌, ◌++◌, Option, Some, None, ℤ, pos, negsuc, ◌+ℤ◌, ◌-ℤ◌}
use Rattle.std.specs.Int.{int_max}
use Rattle.std.specs.List.{list_any, fold}
use Rattle.operation.specs.declared.Guarded.{Guarded}
use Rattle.operation.specs.declared.Op.{Op}
use Rattle.operation.specs.declared.Op.TheVariants as op
use Rattle.operation.specs.declared.Dest.{Dest}
use Rattle.operation.specs.declared.LatKind.{LatKind}
use Rattle.operation.specs.declared.Place.{Place}
use Rattle.operation.specs.declared.Place.TheVariants.{Memory}
use Rattle.operation.specs.Places.{reads, writes, destinations, are_wired_together, is_store, latency_kind, family, same_family}
use Rattle.timed_meaning.specs.declared.TimedOp.{TimedOp}
use Rattle.trap_order.specs.Order.{keep_issue_order}

-- the memory, and no register, predicate or target
abbrev pub is_memory : Place → Bool
is_memory Memory = true
is_memory _ = false

-- both write the register, predicate or target, and not as one wired family
abbrev pub both_write_at : Op → Op → Place → Bool
both_write_at i j x = not (is_memory x) && (writes i x && not (are_wired_together i j x))

-- both write a register, predicate or target, and not as one wired family there
abbrev pub both_write : Op → Op → Bool
both_write i j = list_any (both_write_at i j) (destinations j)

-- two destinations that are one predicate other than p0, and not of one wired family
abbrev pub are_at_odds : Dest → Dest → Bool
are_at_odds a b = nat_eq a.p b.p && (not (nat_eq a.p 0) && not (same_family (family a.action) (family b.action)))

-- a compare with such destinations
abbrev pub is_at_odds : Op → Bool
is_at_odds (op.Cmp test a b s t) = are_at_odds a b
is_at_odds (op.CmpImm test a b s imm) = are_at_odds a b
is_at_odds _ = false

-- when an operation's writes land
abbrev pub lands_at : TimedOp → ℕ
lands_at o = o.at + o.latency

-- the one writes a place that the other reads. The memory is such a place: that of a store and a load
abbrev pub feeds : Guarded → Guarded → Bool
feeds a b = list_any (reads b) (destinations a.op)

-- both are stores, or both can trap, or both are inb
abbrev pub keep_list_order : Op → Op → Bool
keep_list_order a b = (is_store a && is_store b) || keep_issue_order a b

-- a, at the place i of the list, comes before b, at the place j
abbrev pub comes_before : (i j : ℕ) → (a b : TimedOp) → Bool
comes_before i j a b =
    not (nat_eq i j)
    && ((feeds a.guarded b.guarded && nat_le (lands_at a) b.at)
    || ((feeds b.guarded a.guarded && nat_lt a.at (lands_at b))
    || ((both_write a.guarded.op b.guarded.op && nat_lt (lands_at a) (lands_at b))
    || (keep_list_order a.guarded.op b.guarded.op && nat_lt i j))))

-- a delay, where its case applies
abbrev pub where_applies : Bool → ℤ → List ℤ
where_applies test delay = if test then delay ∷ [] else []

-- the delays that apply to a before b, where a lands after so many cycles, and b too
abbrev pub applying : Guarded → Guarded → (la lb : ℕ) → List ℤ
applying a b la lb =
    where_applies (feeds a b) (pos la)
    ++ (where_applies (feeds b a) (pos 1 -ℤ pos lb)
    ++ (where_applies (both_write a.op b.op) ((pos la -ℤ pos lb) +ℤ pos 1)
    ++ where_applies (keep_list_order a.op b.op) (pos 0)))

-- the greatest of some delays, of which none is below -31
abbrev pub greatest : List ℤ → ℤ
greatest delays = fold int_max (negsuc 30) delays

-- in how many cycles b issues behind a at the least, under the latencies of a generation; none where a isn't before b
abbrev pub delay_between : (LatKind → ℕ) → (i j : ℕ) → (a b : TimedOp) → Option ℤ
delay_between latency i j a b =
    if comes_before i j a b then
    Some (greatest (applying a.guarded b.guarded (latency (latency_kind a.guarded.op)) (latency (latency_kind b.guarded.op))))
    else None
