-- The problem of the links and the kinds is the block's.
use Rattle.std.proofs.Common.{◌≡◌, ℕ, List, length, map, sym, ap, subst, ◌∙◌}
use Rattle.std.specs.List.{range_with_len}
use Rattle.std.proofs.lemmas.List.FromFn.{length-map-range_with_len}
use Rattle.operation.specs.declared.UnitKind.{UnitKind}
use Rattle.operation.specs.declared.LatKind.{LatKind}
use Rattle.machine_desc.specs.Description.{Description}
use Rattle.block_links.specs.Links.{AreLinks, delay_along}
use Rattle.block_links.specs.Cover.{Covers}
use Rattle.latency_deps.specs.Delays.{latency_at, delay_among}
use Rattle.list_sched.specs.Schedule.{Problem, Schedule, IsProblem, IsSchedule}
use Rattle.list_sched.specs.Given.{latency_in, problem_by, AreCovered}
use Rattle.page_resched.specs.Block.{problem}
use Rattle.page_resched.specs.Writing.{kinds_at}
use Rattle.page_resched.specs.Laws.{IsMovable}
use Rattle.page_resched.proofs.Movable.{is_problem}
use Rattle.page_resched.proofs.Pieces.{plan_is}
use Rattle.page_resched.proofs.Problems.{scheduled, same_latencies}
use Rattle.page_resched.proofs.rescheduling.plan_block.Goals as goal
use Rattle.page_resched.proofs.rescheduling.plan_block.Goals.{After-deref}
use Rattle.page_resched.proofs.rescheduling.plan_block.Given.{Over}

module _ (g : Over) (c : After-deref g) where
  abbrev machine : Description
  machine = g.G.Generation.description c.args.g.now

  abbrev held : List (UnitKind × LatKind)
  held = c.deref.result.now

  is_movable : IsMovable c.args.b.now machine
  is_movable = record { good = c.kinds_into.ensures.good; machine = g.met.G.Generation.in_range c.args.g.now; units = c.requires.units }

  kinds_are : held ≡ map (kinds_at c.args.b.now) (range_with_len 0 (length c.args.b.now.words))
  kinds_are = c.deref.ensures.value ∙ c.kinds_into.ensures.kinds

  count : length held ≡ length c.args.b.now.words
  count = ap length kinds_are ∙ length-map-range_with_len (kinds_at c.args.b.now) 0 (length c.args.b.now.words)

  same : problem_by (delay_among machine c.args.b.now) held machine ≡ problem machine c.args.b.now
  same =
      ap (λ (l : List (UnitKind × LatKind)). problem_by (delay_among machine c.args.b.now) l machine) kinds_are
      ∙ scheduled c.args.b.now c.kinds_into.ensures.good machine

  are_covered : AreCovered c.links.result.now (delay_among machine c.args.b.now) held machine
  are_covered = record {
    covered = subst (λ (lat : ℕ → ℕ). Covers (delay_along lat c.links.result.now) (delay_among machine c.args.b.now)) latencies
        (c.links.ensures.cover machine (g.met.G.Generation.in_range c.args.g.now));
    problem = subst IsProblem (sym same) (is_problem c.args.b.now machine is_movable);
  }
    where
      latencies : latency_at machine c.args.b.now ≡ latency_in held machine
      latencies =
          same_latencies c.args.b.now c.kinds_into.ensures.good machine
          ∙ ap (λ (l : List (UnitKind × LatKind)). latency_in l machine) (sym kinds_are)

pub kinds_into-requires : goal.kinds_into-requires
kinds_into-requires g c = c.requires.room

pub plan_links-requires-clause-links : goal.plan_links-requires-clause-links
plan_links-requires-clause-links g c = subst (AreLinks c.links.result.now) (sym (count g c)) c.links.ensures.links

pub plan_links-requires-clause-problem : goal.plan_links-requires-clause-problem
plan_links-requires-clause-problem g c = (delay_among (machine g c) c.args.b.now, are_covered g c)

-- the planner's schedule is that of the block
made : (p q : Problem) (s : Schedule) → p ≡ q → IsSchedule p s → IsSchedule q s
made p q s e h = subst (λ (r : Problem). IsSchedule r s) e h

pub returns-clause-schedule : goal.returns-clause-schedule
returns-clause-schedule g c =
    let at = (goal.at.returns-clause-schedule g c).After-deref in
    made _ _ _ (same g at) (c.plan_links.ensures.schedule (delay_among (machine g at) c.args.b.now) (are_covered g at))

pub returns-clause-plan : goal.returns-clause-plan
returns-clause-plan g c =
    let at = (goal.at.returns-clause-plan g c).After-deref in
    plan_is c.args.b.now (machine g at) (is_movable g at) c.plan_links.new.self.order c.plan_links.new.self.cycles c.plan_links.new.self.end
    (made _ _ _ (same g at) (c.plan_links.ensures.schedule (delay_among (machine g at) c.args.b.now) (are_covered g at)))
    (c.plan_links.ensures.cycles ∙ count g at)
