-- The script that is named.
use Rattle.std.proofs.Common.{List, Vec, Global, subst, sym, option_map}
use Rattle.event_script.specs.declared.reading.Line.{Line}
use Rattle.tinker_top.specs.Command.{with_script}
use Rattle.tinker_top.specs.Steps.{GivesTo}
use Rattle.tinker_top.proofs.gathering.script.Goals as goal

pub returns-in-Some-clause-given : goal.returns-in-Some-clause-given
returns-in-Some-clause-given g c = λ files told.
    let old = g.H.Host.shows c.args.host.now in
    let new = g.H.Host.shows c.scripted.new.host in
    subst (λ n. GivesTo {V = Vec Line Global} {X = List Line} (λ lines. lines.items) (with_script (option_map (λ name. name.now) n) c.args.pages.now files) c.scripted.result old new) (sym c.in-Some.is)
    (c.scripted.ensures.given files told)
