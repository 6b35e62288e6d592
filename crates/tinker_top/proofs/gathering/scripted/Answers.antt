-- A script that is fetched and read.
use Rattle.std.proofs.Common.{List, ℕ, Vec, Global, subst, sym}
use Rattle.event_script.specs.declared.reading.Line.{Line}
use Rattle.event_script.specs.Script.{script}
use Rattle.tinker_top.specs.Outcome.{fetching}
use Rattle.tinker_top.specs.Command.{script_limit, if_scripted}
use Rattle.tinker_top.specs.Steps.{GivesTo, IsScripted}
use Rattle.tinker_top.proofs.Onward.{passed_on, stops_within, gives_on, decided_gives}
use Rattle.tinker_top.proofs.gathering.scripted.Goals as goal

pub returns-in_err-bytes-clause-given : goal.returns-in_err-bytes-clause-given
returns-in_err-bytes-clause-given g c = λ files told.
    let name = c.args.name.now in
    let pages = c.args.pages.now in
    let old = g.H.Host.shows c.args.host.now in
    let new = g.H.Host.shows c.fetch.new.host in
    let why = c.in_err-bytes.field-0.0 in
    subst (λ r. GivesTo {V = Vec Line Global} {X = List Line} (λ lines. lines.items) (λ next. fetching files name script_limit (λ bytes. if_scripted name next (script pages bytes))) r old new)
    (sym (passed_on c.from_residual.result why c.from_residual.ensures))
    (stops_within {V = Vec ℕ Global} {X = List ℕ} {W = Vec Line Global} {Y = List Line} (λ bytes. bytes.items) (fetching files name script_limit) (λ lines. lines.items)
    (λ next bytes. if_scripted name next (script pages bytes)) why old new (c.in_err-bytes.ensures.given files told))

pub returns-clause-given : goal.returns-clause-given
returns-clause-given g c = λ files told.
    let name = c.args.name.now in
    let pages = c.args.pages.now in
    let old = g.H.Host.shows c.args.host.now in
    let new = g.H.Host.shows c.fetch.new.host in
    let bytes = c.in_ok-bytes.bytes in
    gives_on {V = Vec ℕ Global} {X = List ℕ} {W = Vec Line Global} {Y = List Line} (λ bytes. bytes.items) (fetching files name script_limit) (λ lines. lines.items)
    (λ next bytes. if_scripted name next (script pages bytes)) bytes c.lines.result old new new
    (c.in_ok-bytes.ensures.given files told)
    (decided_gives {V = Vec Line Global} {X = List Line} (λ lines. lines.items) (λ next. if_scripted name next (script pages bytes.items)) c.lines.result new
    (subst (λ b. IsScripted name pages b c.lines.result) c.deref.ensures.value c.lines.ensures.lines))
