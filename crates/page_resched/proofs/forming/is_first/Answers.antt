-- By the operation listed before.
use Rattle.std.proofs.Common.{◌-◌, get_or, ap, inr, arith}
use Rattle.std.specs.Prelude.{nat_eq, not}
use Rattle.std.proofs.lemmas.Bool.{both_ways, not-true, eq-eqb, ne_eqb}
use Rattle.page_resched.proofs.Pieces.{first_of_cycle, not_first}
use Rattle.page_resched.proofs.forming.is_first.Goals as goal

pub returns-else-m-eq0 : goal.returns-else-m-eq0
returns-else-m-eq0 c =
    let cycle = c.args.cycle.now in
    let listed = c.args.listed.now in
    let m = c.args.m in
    let before = get_or cycle (get_or listed (m - 1) 0) 0 in
    let here = get_or cycle (get_or listed m 0) 0 in
    let later = c.if-m-eq0.false in (
      λ t. first_of_cycle cycle listed c.requires.sorted m c.requires.place (inr (λ e. both_ways (nat_eq before here) (not-true (nat_eq before here) t) (eq-eqb before here e))),
      λ f. ap not (ne_eqb before here (λ e. not_first cycle listed c.requires.sorted m c.requires.place (omega arith) e f)),
    )
