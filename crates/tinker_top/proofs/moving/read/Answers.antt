-- A description file, read as a value and as a definition.
use Rattle.std.proofs.Common.{ap, sym, ◌∙◌}
use Rattle.machine_desc.specs.Value.{description_of}
use Rattle.machine_desc.proofs.ReadFile.{file_read, fault_read}
use Rattle.tinker_top.specs.Outcome.{says}
use Rattle.tinker_top.specs.Command.{if_described}
use Rattle.tinker_top.proofs.moving.read.Goals as goal

pub returns-in-Ok : goal.returns-in-Ok
returns-in-Ok c = λ next. ap (if_described c.args.name.now next) (file_read c.args.bytes.now (description_of c.in-Ok.mdes) c.in-Ok.ensures.numbers)

pub returns : goal.returns
returns c = λ next.
    ap (if_described c.args.name.now next) (fault_read c.args.bytes.now c.in-Err.fault c.in-Err.ensures.fault c.in_default.not-NoMemory)
    ∙ ap (says 1) (sym c.in_ok-undescribed-in_default.ensures)
