use Rattle.std.proofs.Common.{◌≡◌, ◌<◌, ℕ, true, false, length, rules, sym, ◌∙◌}
use Rattle.std.specs.Prelude.{None, MatchResult, is_ok, Result, Ok, Err}
use Rattle.std.proofs.lemmas.Bool.{false≢true}
use Rattle.serial_order.specs.Table.{before}
use Rattle.serial_order.specs.SerialOrder.{first_stuck}
use Rattle.calls.specs.Problems.{are_fit, have_units}
use Rattle.calls.proofs.Scheduled.{can_be_scheduled}
use Rattle.calls.proofs.schedules.is_problem.Goals as goal

-- what holds of a result that is no error
where_ok : {A E : Type 0} (P : Type 0) (Q : E → Type 0) (r : Result A E) → is_ok r ≡ true → MatchResult r (λ _. P) Q → P
where_ok P Q (Ok x) e h = h
where_ok P Q (Err x) e h = absurd (false≢true e)

pub returns-clause-problem : goal.returns-clause-problem
returns-clause-problem g c t =
    let d = c.args.d.now in
    let kinds = c.args.kinds.now in
    let machine = g.G.Generation.description c.args.g.now in
    let size : length kinds ≡ d.count = search rules in
    let some : 0 < d.count = search rules in
    let fits : are_fit d kinds ≡ true = search rules in
    let units : have_units kinds machine ≡ true = search rules in
    let ordered : first_stuck (before d) d.count ≡ None =
    where_ok (first_stuck (before d) d.count ≡ None) _ c.order.result (sym c.is_ok.ensures.value ∙ t) c.order.ensures.stuck in
    can_be_scheduled d kinds machine size some c.count.ensures.few c.count.ensures.inside (g.met.G.Generation.in_range c.args.g.now) fits units ordered
