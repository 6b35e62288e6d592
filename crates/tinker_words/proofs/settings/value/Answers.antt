use Rattle.std.proofs.Common.{List, ℕ, true, false, drop, length, subst, ◌≡◌}
use Rattle.std.specs.Prelude.{MatchOption}
use Rattle.tinker_words.specs.Settings.{begins}
use Rattle.tinker_words.proofs.Found.{behind_prefix}
use Rattle.tinker_words.proofs.settings.value.Goals as goal

pub returns : goal.returns
returns c =
    subst (λ (p : List ℕ). MatchOption c.strip_prefix.result (begins p c.args.word.now ≡ false)
    (λ v. (begins p c.args.word.now ≡ true) × (v.now ≡ drop (length p) c.args.word.now))) c.name.ensures
    (behind_prefix c.name.result.now c.args.word.now c.strip_prefix.result c.strip_prefix.ensures.cases)
