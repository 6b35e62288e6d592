-- The first word of a cycle, or another.
use Rattle.std.proofs.Common.{take, get_or, subst, sym, arith}
use Rattle.list_sched.specs.Planned.{schedule_with}
use Rattle.page_resched.specs.Form.{IsFormOf}
use Rattle.page_resched.proofs.Pieces.{next_is_near, head_word}
use Rattle.page_resched.proofs.forming.word_at.Goals as goal

pub with_place-requires-clause-pause : goal.with_place-requires-clause-pause
with_place-requires-clause-pause c =
    let n = next_is_near c.args.cycle.now c.args.end c.args.listed.now c.requires.listed c.args.m c.next_used.result c.requires.place c.next_used.ensures in
    omega arith

pub returns-then-is_first : goal.returns-then-is_first
returns-then-is_first c =
    let s = schedule_with c.args.listed.now c.args.cycle.now c.args.end in
    let past = take c.args.m c.args.listed.now in
    let k = get_or c.args.listed.now c.args.m 0 in
    let n = next_is_near c.args.cycle.now c.args.end c.args.listed.now c.requires.listed c.args.m c.next_used.result c.requires.place c.next_used.ensures in
    subst (IsFormOf s past k c.args.old) (sym c.with_place.ensures) (head_word s past k c.args.old c.next_used.result (c.is_first.ensures.0 c.if-is_first.true) c.next_used.ensures n)
