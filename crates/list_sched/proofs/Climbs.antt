-- The steps of the heights.
use Rattle.std.proofs.Common.{◌≡◌, ℕ, suc, ◌<◌, ◌≤◌, List, [], ◌∷◌, ◌++◌, length, get_or, take, drop, refl, sym, ap, ◌∙◌, arith, Some}
use Rattle.std.specs.Prelude.{ℤ}
use Rattle.serial_order.specs.Table.{Table, delay_of}
use Rattle.serial_order.specs.SerialOrder.{IsOrder}
use Rattle.std.proofs.Math.Seq.{split_at, drop-cons}
use Rattle.std.proofs.lemmas.List.{get_or_default}
use Rattle.operation.specs.declared.UnitKind.{UnitKind}
use Rattle.operation.specs.declared.UnitKind.TheVariants as unit
use Rattle.operation.specs.declared.LatKind.{LatKind}
use Rattle.operation.specs.declared.LatKind.TheVariants as lat
use Rattle.machine_desc.specs.Description.{Description, latency_of, busy_of}
use Rattle.list_sched.specs.Given.{unit_in, kind_in}
use Rattle.serial_order.proofs.Onto.{onto}
use Rattle.list_sched.specs.Schedule.{Problem, IsProblem, is_before}
use Rattle.list_sched.proofs.Serial.{IsSerial, in_table, both_inside}
use Rattle.list_sched.proofs.Places.{has_delay}
use Rattle.list_sched.proofs.Outs.{below, lt_below}
use Rattle.list_sched.proofs.Short.{length-below}
use Rattle.list_sched.proofs.Steps.{once_within}

-- the latency of an operation that is there, whatever stands for others
pub latency_at : (g : Description) (kinds : List (UnitKind × LatKind)) (i n : ℕ) (d : UnitKind × LatKind) → i < length kinds → n ≡ latency_of g (get_or kinds i d).1 → n ≡ latency_of g (kind_in kinds i)
latency_at g kinds i n d there e = e ∙ ap (λ (x : UnitKind × LatKind). (latency_of g) x.1) (get_or_default kinds i d (unit.B, lat.Branch) there)

pub unit_at : (kinds : List (UnitKind × LatKind)) (i : ℕ) (d : UnitKind × LatKind) → i < length kinds → (get_or kinds i d).0 ≡ unit_in kinds i
unit_at kinds i d there = ap (λ (x : UnitKind × LatKind). x.0) (get_or_default kinds i d (unit.B, lat.Branch) there)

-- a delay is of operations inside
pub delay_inside : (d : Table) (i j : ℕ) (x : ℤ) → delay_of d i j ≡ Some x → (i < d.count) × (j < d.count)
delay_inside d i j x e = in_table d i j (has_delay (delay_of d i j) x e)

-- a serial order of the problem
pub serial_of : (p : Problem) → IsProblem p → (order : List ℕ) → IsOrder (is_before p) p.count order → IsSerial p order
serial_of p ok order o = record { each_once = o.each_once; complete = o.complete; kept = λ i j b. let q = both_inside p ok i j b in o.kept i j q.0 q.1 b }

pub serial_length : (p : Problem) (order : List ℕ) → IsSerial p order → length order ≤ p.count
serial_length p order s =
    let w = once_within order (below p.count) s.each_once (λ k a. lt_below p.count k ((s.complete k).0 a)) in
    let z = length-below p.count in
    omega arith

append_onto : (a acc b : List ℕ) → onto (onto a acc) b ≡ onto acc (a ++ b)
append_onto [] acc b = refl
append_onto (x ∷ xs) acc b = append_onto xs (x ∷ acc) b

-- a list, split at a place
pub split_onto : (order : List ℕ) (k : ℕ) → k < length order → order ≡ onto (onto (take k order) []) (get_or order k 0 ∷ drop (suc k) order)
split_onto order k lt = split_at order k 0 lt ∙ sym (append_onto (take k order) [] (get_or order k 0 ∷ drop (suc k) order))

pub drop_at : (order : List ℕ) (k : ℕ) → k < length order → drop k order ≡ get_or order k 0 ∷ drop (suc k) order
drop_at order k lt = drop-cons order k 0 lt

-- and its busy time
pub busy_at : (g : Description) (kinds : List (UnitKind × LatKind)) (i n : ℕ) (d : UnitKind × LatKind) → i < length kinds → n ≡ busy_of g (get_or kinds i d).1 → n ≡ busy_of g (kind_in kinds i)
busy_at g kinds i n d there e = e ∙ ap (λ (x : UnitKind × LatKind). busy_of g x.1) (get_or_default kinds i d (unit.B, lat.Branch) there)
