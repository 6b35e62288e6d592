use Rattle.std.proofs.Common.{ap, rules}
use Rattle.std.specs.Prelude.{nat_abs}
use Rattle.toml.specs.View.{table_view}
use Rattle.machine_desc.proofs.Documents.{is_byte}
use Rattle.machine_desc.proofs.reading.byte.Goals as goal

pub overflow_cast-result : goal.overflow_cast-result
overflow_cast-result c =
    let small = is_byte (table_view c.args.table.now) c.requires.in_range c.args.n c.requires.below in
    let same = ap nat_abs c.number.ensures in
    search rules
