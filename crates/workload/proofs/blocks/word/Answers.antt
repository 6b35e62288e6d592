use Rattle.std.proofs.Common.{◌≡◌, ◌-◌, true, ap, ◌∙◌}
use Rattle.operation.specs.Places.{unit_kind, unit_number, latency_kind}
use Rattle.machine_desc.specs.Description.{latency_of}
use Rattle.machine_desc.specs.BuiltIn.{t1}
use Rattle.list_encoding.specs.Fields.{fields_of}
use Rattle.list_encoding.specs.Written.{word_of}
use Rattle.workload.specs.Words.{serial_word}
use Rattle.workload.proofs.blocks.word.Goals as goal

pub returns : goal.returns
unfolding serial_word
returns c =
    let g = c.args.guarded in
    c.encode.ensures.word
    ∙ ap (λ u. word_of true u c.pause.result g.guard (fields_of g.op)) c.unit_number.ensures.number
    ∙ ap (λ p. word_of true (unit_number (unit_kind g.op)) p g.guard (fields_of g.op)) c.pause.ensures.cycles
