use Rattle.std.proofs.Common.{[], take}
use Rattle.list_sched.specs.Planned.{schedule_with}
use Rattle.page_resched.specs.Form.{AreForms}
use Rattle.page_resched.proofs.forming.write_words.Given as goal

abbrev pub invariant-loop-m : goal.invariant-loop-m
invariant-loop-m l = AreForms l.b.words (schedule_with l.listed l.cycle l.end) [] (take l.m l.listed) (take l.m l.words)
