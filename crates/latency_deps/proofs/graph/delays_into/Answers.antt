use Rattle.std.proofs.Common.{List, sym, subst}
use Rattle.machine_desc.specs.Description.{latency_of}
use Rattle.latency_deps.specs.declared.block.WordOp.{WordOp}
use Rattle.latency_deps.specs.Block.{Block}
use Rattle.latency_deps.specs.Delays.{IsDelayTable}
use Rattle.latency_deps.specs.Nodes.{LandInTime, AreNodes}
use Rattle.latency_deps.proofs.Graphs.{op_delays, short_nodes, delay_table}
use Rattle.latency_deps.proofs.Orders.{good_in_time}
use Rattle.latency_deps.proofs.graph.delays_into.Goals as goal

pub write_nodes-requires-clause-times : goal.write_nodes-requires-clause-times
write_nodes-requires-clause-times g c = subst LandInTime (sym c.deref.ensures.value) (good_in_time c.b.inside.ops.items c.b.inside.end c.b.invariant.0)

pub fill-requires-clause-short : goal.fill-requires-clause-short
fill-requires-clause-short g c =
    short_nodes (g.G.Generation.description c.args.g.now) _ _ (g.met.G.Generation.in_range c.args.g.now) c.write_nodes.ensures

pub returns-clause-delays : goal.returns-clause-delays
returns-clause-delays g c =
    let d = g.G.Generation.description c.args.g.now in
    let ops = c.b.inside.ops.items in
    let made =
    subst (λ (ops : List WordOp). AreNodes (latency_of d) ops c.write_nodes.new.nodes) c.deref.ensures.value c.write_nodes.ensures in
    subst (λ (b : Block). IsDelayTable d b c.fill.new.d) c.b.view_is
    (delay_table d (g.met.G.Generation.in_range c.args.g.now) ops c.b.inside.end c.b.invariant.0 c.fill.new.d
    (op_delays (latency_of d) ops c.write_nodes.new.nodes c.fill.new.d made c.fill.ensures.delays))
