use Rattle.list_encoding.proofs.Issues.{Timed}
use Rattle.list_encoding.proofs.timing.times.Given as goal

abbrev pub invariant-loop-word : goal.invariant-loop-word
invariant-loop-word l = Timed l.words l.word-index l.present l.next l.at.items
