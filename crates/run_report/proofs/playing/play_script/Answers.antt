-- One line after another.
use Rattle.std.proofs.Common.{string_bytes}
use Rattle.run_report.proofs.Scripts.{one_line_more, line_is_for}
use Rattle.run_report.proofs.playing.play_script.Goals as goal

pub push_shown-requires : goal.push_shown-requires
push_shown-requires c = line_is_for c.args.core.now c.loop-line.core c.args.lines.now c.loop-line.line-index _ c.requires c.loop-line.invariant.kept c.loop-line-test.true

pub play_line-requires : goal.play_line-requires
play_line-requires c = line_is_for c.args.core.now c.loop-line.core c.args.lines.now c.loop-line.line-index _ c.requires c.loop-line.invariant.kept c.loop-line-test.true

pub loop-line-preserved : goal.loop-line-preserved
loop-line-preserved c =
    one_line_more c.args.core.now (string_bytes c.args.text.now) c.args.lines.now c.loop-line.line-index _ c.loop-line.core c.play_line.new.core
    (string_bytes c.loop-line.text) (string_bytes c.push_shown.new.text) c.loop-line-test.true c.loop-line.invariant c.in_ok-push_shown.ensures
    c.play_line.ensures.held c.play_line.ensures.kept
