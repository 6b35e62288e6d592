use Rattle.std.proofs.Common.{◌≡◌, sym, subst, ap, ◌∙◌, arith}
use Rattle.operation.specs.Ranges.{is_register, is_op_in_range}
use Rattle.list_encoding.specs.Word.{HasReading}
use Rattle.list_encoding.specs.Written.{word_of}
use Rattle.list_encoding.proofs.Choices.{and_first, at_most}
use Rattle.list_encoding.proofs.Packing.{Fit, packed_reading}
use Rattle.list_encoding.proofs.word.encode.Goals as goal

pub returns : goal.returns
returns c =
    let read = c.args.c.now in
    let f = c.operation_fields-fields.result in
    let says = c.operation_fields-fields.ensures in
    let whole : word_of read.head read.unit read.pause read.guarded.guard f ≡ c.append-3.result = omega arith in
    let guard = at_most read.guarded.guard 31 (and_first (is_register read.guarded.guard) (is_op_in_range read.guarded.op) read.guarded.in_range) in
    let fit : Fit f = record { opcode = says.opcode; d = says.d; s = says.s; tail = omega arith } in
    record {
      reading = subst (λ w. HasReading w read) whole (packed_reading read f says.value (omega arith) fit);
      word = sym whole ∙ ap (word_of read.head read.unit read.pause read.guarded.guard) says.value;
    }
