use Rattle.std.proofs.Common.{Err, subst}
use Rattle.tinker_top.specs.Outcome.{says}
use Rattle.tinker_top.specs.Command.{outcome_of}
use Rattle.tinker_top.specs.Top.{IsDone, IsPartOf}
use Rattle.tinker_top.specs.Steps.{ComesTo}
use Rattle.tinker_top.proofs.Ends.{then_done, then_part, stopped_part}
use Rattle.tinker_top.proofs.done.Goals as goal

pub returns-in-Ok-clause-done : goal.returns-in-Ok-clause-done
returns-in-Ok-clause-done g c = λ forms are below files told.
    let come = c.in-Ok.ensures.come forms are files told in
    then_done (outcome_of forms c.args.command.now files) come.0 (g.H.Host.shows c.args.host.now) (g.H.Host.shows c.perform.new.host) (g.H.Host.shows c.end.new.host)
    come.2 c.in-Ok.ensures.reads.stands c.end.result (c.end.ensures.done come.0 come.1 below)

pub returns-in-Ok-clause-part : goal.returns-in-Ok-clause-part
returns-in-Ok-clause-part g c = λ forms are files told.
    let come = c.in-Ok.ensures.come forms are files told in
    then_part (outcome_of forms c.args.command.now files) come.0 (g.H.Host.shows c.args.host.now) (g.H.Host.shows c.perform.new.host) (g.H.Host.shows c.end.new.host)
    come.2 c.in-Ok.ensures.reads.stands (c.end.ensures.part come.0 come.1)

pub returns-in-Err-Refused-clause-done : goal.returns-in-Err-Refused-clause-done
returns-in-Err-Refused-clause-done g c = λ forms are below files told.
    let mid = g.H.Host.shows c.perform.new.host in
    let new = g.H.Host.shows c.put.new.host in
    then_done (outcome_of forms c.args.command.now files) (says 1 c.in-Err-Refused.line.items) (g.H.Host.shows c.args.host.now) mid new
    (subst (λ s. ComesTo (outcome_of forms c.args.command.now files) (Err s) (g.H.Host.shows c.args.host.now) (g.H.Host.shows c.perform.new.host)) c.in-Err-Refused.field-0-is (c.in-Err-Refused.ensures.come forms are files told)) c.in-Err-Refused.ensures.reads.stands c.put.result
    (subst (λ line. IsDone (says 1 line) c.put.result mid new) c.deref.ensures.value (c.put.ensures.done below))

pub returns-in-Err-Refused-clause-part : goal.returns-in-Err-Refused-clause-part
returns-in-Err-Refused-clause-part g c = λ forms are files told.
    let mid = g.H.Host.shows c.perform.new.host in
    let new = g.H.Host.shows c.put.new.host in
    then_part (outcome_of forms c.args.command.now files) (says 1 c.in-Err-Refused.line.items) (g.H.Host.shows c.args.host.now) mid new
    (subst (λ s. ComesTo (outcome_of forms c.args.command.now files) (Err s) (g.H.Host.shows c.args.host.now) (g.H.Host.shows c.perform.new.host)) c.in-Err-Refused.field-0-is (c.in-Err-Refused.ensures.come forms are files told)) c.in-Err-Refused.ensures.reads.stands
    (subst (λ line. IsPartOf (says 1 line) mid new) c.deref.ensures.value c.put.ensures.part)

pub returns-in-Err-Fault-clause-part : goal.returns-in-Err-Fault-clause-part
returns-in-Err-Fault-clause-part g c = λ forms are files told.
    stopped_part (outcome_of forms c.args.command.now files) (g.H.Host.shows c.args.host.now) (g.H.Host.shows c.perform.new.host)
    (subst (λ s. ComesTo (outcome_of forms c.args.command.now files) (Err s) (g.H.Host.shows c.args.host.now) (g.H.Host.shows c.perform.new.host)) c.in-Err-Fault.field-0-is (c.in-Err-Fault.ensures.come forms are files told)) c.in-Err-Fault.ensures.reads.stands

pub returns-in-Err-Memory-clause-part : goal.returns-in-Err-Memory-clause-part
returns-in-Err-Memory-clause-part g c = λ forms are files told.
    stopped_part (outcome_of forms c.args.command.now files) (g.H.Host.shows c.args.host.now) (g.H.Host.shows c.perform.new.host)
    (subst (λ s. ComesTo (outcome_of forms c.args.command.now files) (Err s) (g.H.Host.shows c.args.host.now) (g.H.Host.shows c.perform.new.host)) c.in-Err-Memory.field-0-is (c.in-Err-Memory.ensures.come forms are files told)) c.in-Err-Memory.ensures.reads.stands
