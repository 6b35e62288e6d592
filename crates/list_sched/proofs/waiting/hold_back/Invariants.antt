use Rattle.std.proofs.Common.{take}
use Rattle.block_links.specs.Links.{delay_of}
use Rattle.list_sched.specs.Given.{latency_in}
use Rattle.list_sched.specs.Steps.{IsHeldBack}
use Rattle.list_sched.proofs.waiting.hold_back.Given as goal

abbrev pub invariant-loop-link : goal.invariant-loop-link
invariant-loop-link g l = IsHeldBack (delay_of (latency_in l.kinds (g.G.Generation.description l.g)) l.i) (take l.link-index l.links) l.cycle l.initial.least l.least
