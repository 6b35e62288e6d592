use Rattle.std.proofs.Common.{List, ℕ, Vec, Global, ◌≡◌, Some, subst, sym, ap}
use Rattle.std.specs.Prelude.{option_map}
use Rattle.tinker_top.specs.Command.{with_input}
use Rattle.tinker_top.specs.Steps.{GivesTo}
use Rattle.tinker_top.proofs.commands.input.Goals as goal

pub returns-in-Some-clause-given : goal.returns-in-Some-clause-given
returns-in-Some-clause-given g c = λ files told.
    let old = g.H.Host.shows c.args.host.now in
    let new = g.H.Host.shows c.fetch.new.host in
    let named : option_map (λ n. n.now) c.args.name ≡ Some c.in-Some.name.now = ap (option_map (λ n. n.now)) c.in-Some.is in
    subst (λ name. GivesTo {V = Vec ℕ Global} {X = List ℕ} (λ bytes. bytes.items) (with_input name files) c.fetch.result old new) (sym named)
    (c.fetch.ensures.given files told)
