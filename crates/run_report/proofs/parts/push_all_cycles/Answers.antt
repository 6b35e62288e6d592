use Rattle.std.proofs.Common.{◌≡◌, ◌<◌, ◌++◌, length, string_bytes, arith, ap, ◌∙◌}
use Rattle.std.specs.Prelude.{slice_get}
use Rattle.tinker_texts.specs.Report.{cycles_line}
use Rattle.run_report.specs.Seats.{seat_cycles}
use Rattle.run_report.proofs.Texts.{one_text_more, if_some}
use Rattle.run_report.proofs.parts.push_all_cycles.Goals as goal

pub loop-c-preserved : goal.loop-c-preserved
loop-c-preserved c =
    let seats = c.args.core.now.seats in
    let i = c.loop-c.c in
    let below : i < length seats = let t = c.loop-c-test.true in let e = c.contexts-c-end.ensures in omega arith in
    one_text_more seat_cycles seats i (string_bytes c.args.text.now) (string_bytes c.loop-c.text) (string_bytes c.push_cycles.new.text)
    below c.loop-c.invariant
    (if_some (slice_get seats i) (λ seat. c.cycles.result ≡ seat.moment.cycles) (λ seat. string_bytes c.push_cycles.new.text ≡ string_bytes c.loop-c.text ++ seat_cycles i seat)
    (λ seat e. c.in_ok-push_cycles.ensures ∙ ap (λ n. string_bytes c.loop-c.text ++ cycles_line i n) e) c.cycles.ensures)
