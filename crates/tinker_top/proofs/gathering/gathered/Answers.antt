-- The contexts are fetched, or one stops the command.
use Rattle.std.proofs.Common.{◌+◌, List, Vec, Global, sym, subst, ◌∙◌}
use Rattle.context_system.specs.Context.{Setup as Context}
use Rattle.contexts.specs.declared.Setup.{Setup as Given}
use Rattle.tinker_words.specs.Forms.{named as named_in}
use Rattle.tinker_top.specs.declared.steps.Stop.TheVariants.{Memory}
use Rattle.tinker_top.specs.Command.{with_contexts}
use Rattle.run_report.specs.Setups.{all_given}
use Rattle.tinker_top.specs.Steps.{GivesTo}
use Rattle.tinker_top.proofs.Onward.{passed_on, begun}
use Rattle.tinker_top.proofs.Gathered.{AreFetched, one_more_fetched, stops_there}
use Rattle.tinker_top.proofs.gathering.gathered.Goals as goal

pub returns-in_err-setup-clause-given : goal.returns-in_err-setup-clause-given
returns-in_err-setup-clause-given g c = λ forms files told.
    let s = c.args.settings.now in
    let n = c.args.named.now in
    let old = g.H.Host.shows c.args.host.now in
    let mid = g.H.Host.shows c.loop-i.host in
    let new = g.H.Host.shows c.context-in-loop-i.new.host in
    let why = c.in_err-setup.field-0.0 in
    subst (λ r. GivesTo {V = Vec Given Global} {X = List Context} (all_given forms) (with_contexts forms s n files) r old new)
    (sym (passed_on c.from_residual-in_err-setup.result why c.from_residual-in_err-setup.ensures))
    (stops_there s n c.loop-i.i (named_in c.context.result) c.loop-i.setups.items old mid new c.context.ensures c.loop-i.invariant forms files told why
    (c.in_err-setup.ensures.given forms files (c.loop-i.invariant.stands.files ∙ told)))

pub returns-in_err-push-clause-given : goal.returns-in_err-push-clause-given
returns-in_err-push-clause-given g c = λ forms files told.
    let old = g.H.Host.shows c.args.host.now in
    let new = g.H.Host.shows c.context-in-loop-i.new.host in
    let more =
    one_more_fetched c.args.settings.now c.args.named.now c.loop-i.i (named_in c.context.result) c.loop-i.setups.items old (g.H.Host.shows c.loop-i.host) new
    c.context.ensures c.loop-i.invariant c.in_ok-setup.setup c.in_ok-setup.ensures.given c.in_ok-setup.ensures.bound c.in_ok-setup.ensures.reads.stands
    (c.in_ok-setup.ensures.reads.cause.kept (λ e. let no : ⊥ = cc in no)) in
    subst (λ r. GivesTo {V = Vec Given Global} {X = List Context} (all_given forms) (with_contexts forms c.args.settings.now c.args.named.now files) r old new)
    (sym (passed_on c.from_residual-in_err-push.result Memory c.from_residual-in_err-push.ensures))
    (λ next. begun _ _ old new (more.leads forms files told next))

pub loop-i-preserved : goal.loop-i-preserved
loop-i-preserved g c =
    let old = g.H.Host.shows c.args.host.now in
    let new = g.H.Host.shows c.context-in-loop-i.new.host in
    let more =
    one_more_fetched c.args.settings.now c.args.named.now c.loop-i.i (named_in c.context.result) c.loop-i.setups.items old (g.H.Host.shows c.loop-i.host) new
    c.context.ensures c.loop-i.invariant c.in_ok-setup.setup c.in_ok-setup.ensures.given c.in_ok-setup.ensures.bound c.in_ok-setup.ensures.reads.stands
    (c.in_ok-setup.ensures.reads.cause.kept (λ e. let no : ⊥ = cc in no)) in
    subst (λ (l : List Given). AreFetched c.args.settings.now c.args.named.now (c.loop-i.i + 1) l old new) (sym c.in_ok-push.ensures.items) more
