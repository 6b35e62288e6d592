-- The schedule by the links is that of each problem whose delays they cover.
use Rattle.list_sched.specs.Given.{latency_in, problem_by}
use Rattle.block_links.specs.Links.{delay_along}
use Rattle.list_sched.proofs.Covering.{covering_links_schedule}
use Rattle.list_sched.proofs.scheduling.Planner.plan_links.Goals as goal

pub plan-requires-clause-problem : goal.plan-requires-clause-problem
plan-requires-clause-problem g c =
    let machine = g.G.Generation.description c.args.g.now in
    let kinds = c.args.kinds.now in
    let q = c.requires.problem in
    (covering_links_schedule (problem_by q.0 kinds machine) (delay_along (latency_in kinds machine) c.args.links.now) q.1.problem q.1.covered).0

pub returns-clause-schedule : goal.returns-clause-schedule
returns-clause-schedule g c = λ delay q.
    let machine = g.G.Generation.description c.args.g.now in
    let kinds = c.args.kinds.now in
    (covering_links_schedule (problem_by delay kinds machine) (delay_along (latency_in kinds machine) c.args.links.now) q.problem q.covered).1 _ c.plan.ensures.schedule
