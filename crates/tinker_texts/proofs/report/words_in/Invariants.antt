use Rattle.std.proofs.Common.{◌≡◌, ◌*◌, ◌≤◌, map, take}
use Rattle.std.specs.List.{sum}
use Rattle.tinker_texts.proofs.report.words_in.Given as goal

abbrev pub invariant-loop-row : goal.invariant-loop-row
invariant-loop-row l = (l.words ≡ sum (map (λ r. r.count) (take l.row-index l.rows))) × (l.words ≤ 65535 * l.row-index)
