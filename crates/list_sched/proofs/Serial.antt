-- The serial order of a problem.
use Rattle.std.proofs.Common.{◌≡◌, ◌≢◌, ℕ, ◌<◌, ◌&&◌, Bool, true, false, cond, List, Option, None, refl}
use Rattle.std.specs.Prelude.{◌↔◌, ℤ, Some, IsSome, is_some, nat_lt, slice_index_or, ◌+◌, ◌*◌}
use Rattle.std.proofs.lemmas.Bool.{and_parts, ltb-true, false≢true}
use Rattle.serial_order.specs.Lists.{Among, Earlier, EachOnce}
use Rattle.serial_order.specs.Table.{Table, delay_of, before}
use Rattle.serial_order.proofs.Existence.{ordered_where_none_stuck}
use Rattle.list_sched.specs.Schedule.{Problem, IsProblem, is_before, IsBefore}

-- operations of which one is before the other are in the table
pub in_table : (t : Table) (i j : ℕ) → before t i j ≡ true → (i < t.count) × (j < t.count)
unfolding delay_of
in_table t i j = go (nat_lt i t.count && nat_lt j t.count) refl
  where
    go : (b : Bool) → (nat_lt i t.count && nat_lt j t.count) ≡ b → is_some (cond b (slice_index_or t.cells (i * t.count + j) None) None) ≡ true → (i < t.count) × (j < t.count)
    go true e h = let q = and_parts (nat_lt i t.count) (nat_lt j t.count) e in (ltb-true i t.count q.0, ltb-true j t.count q.1)
    go false e h = absurd (false≢true h)

-- there is a delay where one is before the other
pub some_delay : (o : Option ℤ) → IsSome o → (d : ℤ) × (o ≡ Some d)
some_delay None h = absurd (false≢true h)
some_delay (Some d) h = (d, refl)

pub both_inside : (p : Problem) → IsProblem p → (i j : ℕ) → IsBefore p i j → (i < p.count) × (j < p.count) × (i ≢ j)
both_inside p ok i j b = let d = some_delay (p.delay i j) b in ok.inside i j d.0 d.1

-- all operations, each once, in which i stands earlier than j wherever i is before j
pub record IsSerial (p : Problem) (order : List ℕ) : Type 0 where
  pub each_once : EachOnce order
  pub complete : (k : ℕ) → Among k order ↔ (k < p.count)
  pub kept : (i j : ℕ) → IsBefore p i j → Earlier order i j

pub some_order : (p : Problem) → IsProblem p → (order : List ℕ) × IsSerial p order
some_order p ok =
    let r = (ordered_where_none_stuck (is_before p) p.count).1 ok.ordered in
    let o = r.1 in (
      r.0,
      record {
        each_once = o.each_once;
        complete = o.complete;
        kept = λ i j b. let q = both_inside p ok i j b in o.kept i j q.0 q.1 b;
      },
    )
