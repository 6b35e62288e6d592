use Rattle.std.proofs.Common.{◌≡◌, ◌≤◌, ◌*◌, ℕ, length, ap, ◌∙◌, arith}
use Rattle.std.proofs.lemmas.List.{with_items_is}
use Rattle.serial_order.specs.Table.{Table}
use Rattle.serial_order.proofs.Cells.{none_before, emptied}
use Rattle.serial_order.proofs.table.Delays.restart.Goals as goal

pub invariant_of-self : goal.invariant_of-self
invariant_of-self c =
    let given : length c.self.inside.cells.items ≡ length c.args.self.now.cells = ap (λ (t : Table). length t.cells) c.self.view_is in
    let borrowed = ap length c.deref_mut.ensures.value in
    let kept = c.empty.ensures.length in
    let asked = c.requires.room in
    let room : c.args.n * c.args.n ≤ length c.empty.new.cells = omega arith in
    rw (with_items_is c.self.inside.cells c.empty.new.cells (c.empty.auto.cells ∙ c.deref_mut.ensures.len))
    (emptied c.args.n c.empty.new.cells c.requires.few room c.empty.ensures.empty)

pub returns-clause-none : goal.returns-clause-none
returns-clause-none c =
    rw (with_items_is c.self.inside.cells c.empty.new.cells (c.empty.auto.cells ∙ c.deref_mut.ensures.len))
    (none_before c.args.n c.empty.new.cells c.empty.ensures.empty)
