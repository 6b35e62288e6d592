-- Link by link.
use Rattle.std.proofs.Common.{◌≡◌, ◌⊎◌, ◌<◌, length, get_or, take, arith, rules, ap, subst, sym, ◌∙◌}
use Rattle.std.specs.Prelude.{pos, ◌+ℤ◌, ◌≤ℤ◌, slice_index, slice_set}
use Rattle.std.proofs.lemmas.List.{take_more}
use Rattle.std.proofs.lemmas.Int.{to_z-of_z}
use mir.Val.{SFits, to_z, of_z}
use mir.Syntax.{w16}
use Rattle.operation.specs.declared.UnitKind.TheVariants as unit
use Rattle.operation.specs.declared.LatKind.TheVariants as lat
use Rattle.block_links.specs.declared.links.Dependence.TheVariants.{Flow}
use Rattle.block_links.specs.declared.links.Link.{Link}
use Rattle.block_links.specs.Links.{delay_by, delay_of}
use Rattle.list_sched.specs.Given.{latency_in}
use Rattle.list_sched.specs.Steps.{IsHeldBack}
use Rattle.list_sched.proofs.Climbs.{latency_at}
use Rattle.list_sched.proofs.Heights.{held_none, held_more}
use Rattle.list_sched.proofs.waiting.hold_back.Goals as goal

pub loop-link-init : goal.loop-link-init
loop-link-init g c = held_none (delay_of (latency_in c.args.kinds.now (g.G.Generation.description c.args.g.now)) c.args.i) c.args.cycle c.args.least.now

pub loop-link-preserved : goal.loop-link-preserved
loop-link-preserved g c =
    let machine = g.G.Generation.description c.args.g.now in
    let latency = latency_in c.args.kinds.now machine in
    let links = c.args.links.now in
    let k = c.loop-link.link-index in
    let x : Link = get_or links k (record { to = 0; dependence = Flow }) in
    let own = delay_of latency c.args.i in
    let late : c.latency-latency.result ≡ latency c.args.i = latency_at machine c.args.kinds.now c.args.i c.latency-latency.result (unit.I, lat.Alu) c.requires.there c.latency-latency.ensures in
    let fits : SFits w16 c.delay_on-delay.result = search rules in
    let same : to_z w16 (of_z w16 c.delay_on-delay.result) ≡ own x = to_z-of_z w16 c.delay_on-delay.result fits ∙ c.delay_on-delay.ensures ∙ ap (λ n. delay_by x.dependence n (latency x.to)) late in
    let e = c.climbed.ensures in
    let v = c.climbed.result in
    let old = slice_index c.loop-link.least x.to in
    let inside : x.to < length c.loop-link.least = (let i = c.requires.inside k (record { to = 0; dependence = Flow }) c.loop-link-test.true in let s = c.loop-link.invariant.size in let z = c.requires.size in omega arith) in
    let above : (own x +ℤ pos c.args.cycle) ≤ℤ pos v = subst (λ z. (z +ℤ pos c.args.cycle) ≤ℤ pos v) same e.above in
    let one : (v ≡ old) ⊎ (pos v ≡ own x +ℤ pos c.args.cycle) = subst (λ z. (v ≡ old) ⊎ (pos v ≡ z +ℤ pos c.args.cycle)) same e.one in
    subst (λ l. IsHeldBack own l c.args.cycle c.args.least.now (slice_set c.loop-link.least x.to v)) (sym (take_more links k (record { to = 0; dependence = Flow }) c.loop-link-test.true))
    (held_more own c.args.cycle c.args.least.now (take k links) x c.loop-link.least v c.loop-link.invariant inside e.kept above one)
