use Rattle.std.proofs.Common.{None, sym, subst, arith}
use Rattle.operation.specs.Ranges.{is_register, is_op_in_range}
use Rattle.list_encoding.specs.Word.{IsReadingOf}
use Rattle.list_encoding.specs.Fields.{fields_of}
use Rattle.list_encoding.proofs.Choices.{and_both, is_at_most}
use Rattle.list_encoding.proofs.Readings.{no_reading, holds}
use Rattle.list_encoding.proofs.GuardedIn.{guarded_of_answer, guarded_of_parts}
use Rattle.list_encoding.proofs.word.decode.Goals as goal

pub returns-in_err-fields_in : goal.returns-in_err-fields_in
returns-in_err-fields_in c =
    let word = c.args.word in
    let lacks : IsReadingOf word None = λ k h. c.in_err-fields_in.ensures.none (fields_of k.guarded.op) h.fields in
    let answer = subst (IsReadingOf word) (sym c.from_residual.ensures) lacks in
    record { reading = answer; guarded = guarded_of_answer word c.from_residual.result answer }

pub returns-in_err-op : goal.returns-in_err-op
returns-in_err-op c =
    let lacks = no_reading c.args.word _ c.in_ok-fields_in.ensures.found c.in_err-op.ensures in
    let answer = subst (IsReadingOf c.args.word) (sym c.from_residual-in_err-op.ensures) lacks in
    record { reading = answer; guarded = guarded_of_answer c.args.word c.from_residual-in_err-op.result answer }

pub invariant_of-guarded : goal.invariant_of-guarded
invariant_of-guarded c =
    let this = holds c.args.word _ c.in_ok-op.op c.in_ok-fields_in.ensures.found c.in_ok-op.ensures in
    let guard = c.bits.ensures.bound in
    record { in_range = and_both (is_register c.bits.result) (is_op_in_range c.in_ok-op.op) (is_at_most c.bits.result 31 (omega arith)) this.in_range }

pub returns-clause-reading : goal.returns-clause-reading
returns-clause-reading c = record {
  head = sym c.is_head.ensures;
  unit = sym c.bits-2.ensures.value;
  pause = sym c.pause.ensures.value;
  guard = sym c.bits.ensures.value;
  fields = (holds c.args.word _ c.in_ok-op.op c.in_ok-fields_in.ensures.found c.in_ok-op.ensures).fields;
}

pub returns-clause-guarded : goal.returns-clause-guarded
returns-clause-guarded c =
    let this = holds c.args.word _ c.in_ok-op.op c.in_ok-fields_in.ensures.found c.in_ok-op.ensures in
    guarded_of_parts c.args.word _ (sym c.bits.ensures.value) this.fields
