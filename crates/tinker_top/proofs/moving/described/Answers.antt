-- A description file that is fetched and read.
use Rattle.std.proofs.Common.{List, ℕ, Vec, Global, subst, sym}
use Rattle.machine_desc.specs.declared.Mdes.{Mdes}
use Rattle.machine_desc.specs.Description.{Description}
use Rattle.machine_desc.specs.Value.{description_of}
use Rattle.machine_desc.specs.File.{read_description}
use Rattle.tinker_top.specs.Outcome.{fetching}
use Rattle.tinker_top.specs.Command.{description_limit, if_described}
use Rattle.tinker_top.specs.Steps.{GivesTo, IsDescribed}
use Rattle.tinker_top.proofs.Onward.{passed_on, stops_within, gives_on, decided_gives}
use Rattle.tinker_top.proofs.moving.described.Goals as goal

pub returns-in_err-bytes-clause-given : goal.returns-in_err-bytes-clause-given
returns-in_err-bytes-clause-given g c = λ files told.
    let name = c.args.name.now in
    let old = g.H.Host.shows c.args.host.now in
    let new = g.H.Host.shows c.fetch.new.host in
    let why = c.in_err-bytes.field-0.0 in
    subst (λ r. GivesTo {V = Mdes} {X = Description} description_of (λ next. fetching files name description_limit (λ bytes. if_described name next (read_description bytes))) r old new)
    (sym (passed_on c.from_residual.result why c.from_residual.ensures))
    (stops_within {V = Vec ℕ Global} {X = List ℕ} {W = Mdes} {Y = Description} (λ bytes. bytes.items) (fetching files name description_limit) description_of
    (λ next bytes. if_described name next (read_description bytes)) why old new (c.in_err-bytes.ensures.given files told))

pub returns-clause-given : goal.returns-clause-given
returns-clause-given g c = λ files told.
    let name = c.args.name.now in
    let old = g.H.Host.shows c.args.host.now in
    let new = g.H.Host.shows c.fetch.new.host in
    let bytes = c.in_ok-bytes.bytes in
    gives_on {V = Vec ℕ Global} {X = List ℕ} {W = Mdes} {Y = Description} (λ bytes. bytes.items) (fetching files name description_limit) description_of
    (λ next bytes. if_described name next (read_description bytes)) bytes c.read.result old new new
    (c.in_ok-bytes.ensures.given files told)
    (decided_gives {V = Mdes} {X = Description} description_of (λ next. if_described name next (read_description bytes.items)) c.read.result new
    (subst (λ b. IsDescribed name b c.read.result) c.deref.ensures.value c.read.ensures))
