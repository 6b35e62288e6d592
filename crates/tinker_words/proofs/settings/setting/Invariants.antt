use Rattle.std.proofs.Common.{◌≡◌, drop}
use Rattle.tinker_words.specs.Settings.{setting_in}
use Rattle.tinker_words.proofs.settings.setting.Given as goal

abbrev pub invariant-loop-kind : goal.invariant-loop-kind
invariant-loop-kind l = setting_in (drop l.kind-index l.kinds) l.word ≡ setting_in l.kinds l.word
