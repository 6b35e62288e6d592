use Rattle.std.proofs.Common.{◌∙◌, length, sym}
use Rattle.tnk_base.proofs.Searches.{none_any, finds_none}
use Rattle.machine_desc.specs.Value.{description_of}
use Rattle.latency_deps.specs.CandidateRules.{breaks_in}
use Rattle.latency_deps.proofs.Kept.{described}
use Rattle.latency_deps.proofs.Linked.{landing_kept}
use Rattle.latency_deps.proofs.candidate.Candidate.first_landing_together.Goals as goal

pub returns-then-not-some_clash : goal.returns-then-not-some_clash
unfolding breaks_in
returns-then-not-some_clash c =
    let me = c.args.self.now in
    let odds = sym c.some_at_odds.ensures ∙ c.if-not-some_at_odds.true in
    sym (finds_none _ (length me.words.now)
    (landing_kept (description_of me.description.now) (described me.description.now) me.words.now me.ops.items me.nodes.items me.end me.timed me.as_nodes
    c.args.accesses.now c.requires (c.some_clash.ensures.none c.if-not-some_clash.true) (λ i below. none_any _ (length me.words.now) i odds below)))
