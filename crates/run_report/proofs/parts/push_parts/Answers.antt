use Rattle.std.proofs.Common.{◌<◌, length, string_bytes, arith}
use Rattle.run_report.specs.Seats.{seat_part}
use Rattle.run_report.proofs.Texts.{one_text_more}
use Rattle.run_report.proofs.parts.push_parts.Goals as goal

pub loop-c-preserved : goal.loop-c-preserved
loop-c-preserved c =
    let seats = c.args.core.now.seats in
    let below : c.loop-c.c < length seats = let t = c.loop-c-test.true in let e = c.contexts-c-end.ensures in omega arith in
    one_text_more (seat_part c.args.dump) seats c.loop-c.c (string_bytes c.args.text.now) (string_bytes c.loop-c.text) (string_bytes c.push_context.new.text)
    below c.loop-c.invariant c.in_ok-push_context.ensures
