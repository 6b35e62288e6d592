use Rattle.std.proofs.Common.{◌≡◌, length, subst, sym, ap, ◌∙◌, rules}
use Rattle.operation.specs.Effects.{effect}
use Rattle.timed_meaning.specs.Evaluator.{StaysInside}
use Rattle.timed_meaning.proofs.Inside.{effect_inside}
use Rattle.timed_meaning.proofs.issue.issue.Goals as goal

pub add-requires-clause-inside : goal.add-requires-clause-inside
add-requires-clause-inside c =
    let v = c.operands_at-values.result in
    let g = c.args.timed.now.guarded in
    let size : c.len-memory.result ≡ length c.args.cells.now.memory.items = search rules in
    subst (λ e. StaysInside e (length c.args.cells.now.memory.items)) (sym c.evaluate-effect.ensures)
    (subst (λ n. StaysInside (effect g v) n) (ap (λ o. o.memory) c.operands_at-values.ensures ∙ size) (effect_inside g v))
