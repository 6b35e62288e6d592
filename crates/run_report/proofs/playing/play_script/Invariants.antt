use Rattle.std.proofs.Common.{take, string_bytes}
use Rattle.run_report.proofs.Scripts.{IsPlayed}
use Rattle.run_report.proofs.playing.play_script.Given as goal

abbrev pub invariant-loop-line : goal.invariant-loop-line
invariant-loop-line l = IsPlayed l.fn.core (string_bytes l.fn.text) (take l.line-index l.lines) l.core (string_bytes l.text)
