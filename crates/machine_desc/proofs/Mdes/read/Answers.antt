use Rattle.std.proofs.Common.{sym, ◌∙◌}
use Rattle.toml.specs.View.{table_view}
use Rattle.machine_desc.proofs.Documents.{kept, is_fault}
use Rattle.machine_desc.proofs.Mdes.read.Goals as goal

pub described-requires : goal.described-requires
described-requires c = kept (table_view c.in-Ok.table) (sym c.in_ok-fault.ensures ∙ c.in-None.is)

pub returns-in-Some-clause-fault : goal.returns-in-Some-clause-fault
returns-in-Some-clause-fault c =
    is_fault c.args.bytes.now (table_view c.in-Ok.table) c.in-Some.fault c.in-Ok.ensures.ok (sym c.in_ok-fault.ensures ∙ c.in-Some.is)
