use Rattle.std.proofs.Common.{◌≡◌, ap, arith}
use Rattle.serial_order.specs.Table.{Table}
use Rattle.serial_order.proofs.Cells.{elsewhere, still_table}
use Rattle.serial_order.proofs.table.Delays.set.Goals as goal

pub invariant_of-self : goal.invariant_of-self
invariant_of-self c =
    let e : c.self.inside.count ≡ c.args.self.now.count = ap (λ (t : Table). t.count) c.self.view_is in
    rw c.place-cell.ensures
    (still_table c.self.inside.count c.self.inside.cells.items c.args.i c.args.j _ (omega arith) c.requires.differ c.self.invariant)

pub returns-clause-elsewhere : goal.returns-clause-elsewhere
returns-clause-elsewhere c = λ a b ne.
    let e : c.self.inside.count ≡ c.args.self.now.count = ap (λ (t : Table). t.count) c.self.view_is in
    rw (c.place-cell.ensures, ← c.self.view_is)
    (elsewhere c.self.inside.count c.self.inside.cells.items c.args.i c.args.j _ (omega arith) a b ne)
