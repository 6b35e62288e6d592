use Rattle.std.proofs.Common.{◌≡◌, ◌+◌, ◌≤◌, All, length}
use Rattle.event_script.specs.Left.{lines_left, size_left}
use Rattle.event_script.specs.Script.{readings, outcome, script, IsFor}
use Rattle.event_script.proofs.Outcomes.{behind_lines}
use Rattle.event_script.proofs.reading.read.Given as goal

-- the lines so far and what is left come to what the text does
abbrev pub invariant-loop-rest : goal.invariant-loop-rest
invariant-loop-rest l =
    record {
      told : behind_lines l.lines.items (outcome (readings l.pages (l.number + 1) (lines_left l.rest))) ≡ script l.pages l.text;
      there : All (IsFor l.pages) l.lines.items;
      few : l.number + size_left l.rest ≤ length l.text + 1;
    }

abbrev pub decreases-loop-rest : goal.decreases-loop-rest
decreases-loop-rest l = size_left l.rest
