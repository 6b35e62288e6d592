-- A generation that is that of a description file.
use Rattle.std.proofs.Common.{subst, sym}
use Rattle.machine_desc.specs.declared.Mdes.{Mdes}
use Rattle.machine_desc.specs.Description.{Description}
use Rattle.machine_desc.specs.Value.{description_of}
use Rattle.tinker_words.specs.Forms.{aimed_at}
use Rattle.tinker_top.specs.Command.{with_target}
use Rattle.tinker_top.specs.Steps.{GivesTo}
use Rattle.tinker_top.proofs.moving.generation.Goals as goal

pub returns-in-File-clause-given : goal.returns-in-File-clause-given
returns-in-File-clause-given g c = λ files told.
    let old = g.H.Host.shows c.args.host.now in
    let new = g.H.Host.shows c.described-in-File.new.host in
    subst (λ t. GivesTo {V = Mdes} {X = Description} description_of (with_target (aimed_at t) (description_of c.args.own) files) c.described-in-File.result old new) (sym c.in-File.is)
    (c.described-in-File.ensures.given files told)
