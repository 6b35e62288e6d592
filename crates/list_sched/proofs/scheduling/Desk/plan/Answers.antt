-- The order first, then heights, then places.
use Rattle.std.proofs.Common.{◌≡◌, ℕ, Bool, length, sym, ap, subst, ◌∙◌}
use Rattle.std.specs.Prelude.{is_some, Option, None, IfNone}
use Rattle.std.proofs.lemmas.Bool.{false≢true}
use Rattle.std.proofs.lemmas.List.{length-replicate}
use Rattle.serial_order.specs.SerialOrder.{IsOrder, first_stuck}
use Rattle.block_links.specs.Links.{is_linked}
use Rattle.list_sched.specs.Links.{linked}
use Rattle.list_sched.specs.Schedule.{is_before}
use Rattle.list_sched.proofs.Filled.{before_linked}
use Rattle.list_sched.proofs.scheduling.Desk.plan.Goals as goal
use Rattle.list_sched.proofs.scheduling.Desk.plan.Goals.{After-order_into}
use Rattle.list_sched.proofs.scheduling.Desk.plan.Given.{Over}

-- all operations are in order
module _ (g : Over) (c : After-order_into g) where
  many : length c.deref_mut.result.now ≡ length c.args.kinds.now
  many = ap length c.deref_mut.ensures.value ∙ ap length c.refill-2.ensures.items ∙ length-replicate {A = ℕ} (length c.args.kinds.now) 0

  none_stuck : c.order_into.result ≡ None
  none_stuck =
      c.order_into.ensures.stuck
      ∙ ap (first_stuck (is_linked c.args.links.now)) many
      ∙ ap (λ (b : ℕ → ℕ → Bool). first_stuck b (length c.args.kinds.now)) (sym (before_linked c.args.links.now c.args.kinds.now (g.G.Generation.description c.args.g.now)))
      ∙ c.requires.problem.ordered

  in_order : IsOrder (is_before (linked c.args.links.now c.args.kinds.now (g.G.Generation.description c.args.g.now))) (length c.args.kinds.now) c.order_into.new.order.items
  in_order =
      subst (λ (b : ℕ → ℕ → Bool). IsOrder b (length c.args.kinds.now) c.order_into.new.order.items) (sym (before_linked c.args.links.now c.args.kinds.now (g.G.Generation.description c.args.g.now)))
      (subst (λ n. IsOrder (is_linked c.args.links.now) n c.order_into.new.order.items) many
      (subst (λ (r : Option ℕ). IfNone r (IsOrder (is_linked c.args.links.now) (length c.deref_mut.result.now) c.order_into.new.order.items)) none_stuck c.order_into.ensures.order))

pub unreachable-requires : goal.unreachable-requires
unreachable-requires g c = false≢true (sym (c.is_some.ensures ∙ ap is_some (none_stuck g (goal.at.unreachable-requires g c).After-order_into)) ∙ c.if-is_some.true)

pub find_heights-requires-clause-serial : goal.find_heights-requires-clause-serial
find_heights-requires-clause-serial g c =
    subst (IsOrder (is_before (linked c.args.links.now c.args.kinds.now (g.G.Generation.description c.args.g.now))) (length c.args.kinds.now)) (sym c.deref.ensures.value)
    (in_order g (goal.at.find_heights-requires-clause-serial g c).After-order_into)
