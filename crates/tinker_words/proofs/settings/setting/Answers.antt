use Rattle.std.proofs.Common.{sym, ◌∙◌}
use Rattle.tinker_words.proofs.Found.{kind_found, kind_passed, none_left}
use Rattle.tinker_words.proofs.settings.setting.Goals as goal

pub returns-in-Some : goal.returns-in-Some
returns-in-Some c =
    (sym c.loop-kind.invariant ∙ kind_found c.args.kinds.now c.args.word.now c.loop-kind.kind-index _ c.loop-kind-test.true c.in-Some.ensures.0, c.in-Some.ensures.1)

pub loop-kind-preserved : goal.loop-kind-preserved
loop-kind-preserved c =
    kind_passed c.args.kinds.now c.args.word.now c.loop-kind.kind-index _ c.loop-kind-test.true c.in_default.ensures ∙ c.loop-kind.invariant

pub returns : goal.returns
returns c = sym c.loop-kind.invariant ∙ none_left c.args.kinds.now c.args.word.now c.loop-kind.kind-index c.loop-kind-test.false
