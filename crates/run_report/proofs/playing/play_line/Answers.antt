-- Page events are played under the keys of their contexts' pages.
use Rattle.std.proofs.Common.{[], ◌∷◌, sym, subst}
use Rattle.tnk_base.specs.declared.Key.{Key}
use Rattle.context_system.specs.declared.Event.TheVariants as event
use Rattle.context_system.specs.System.{step}
use Rattle.contexts.specs.Core.{Holds}
use Rattle.event_script.specs.declared.reading.Line.{Line}
use Rattle.event_script.specs.declared.reading.Line.TheVariants as event_line
use Rattle.run_report.specs.Script.{behind_line}
use Rattle.run_report.specs.Seats.{AreFor}
use Rattle.run_report.proofs.Scripts.{key_is, has_context}
use Rattle.run_report.proofs.playing.play_line.Goals as goal

pub returns-in-Evict-clause-held : goal.returns-in-Evict-clause-held
returns-in-Evict-clause-held c = λ s held.
    subst (λ (l : Line). Holds c.step.new.self (behind_line s l)) (sym c.in-Evict.is)
    (subst (λ (j : Key). Holds c.step.new.self (step s (event.Evict j)))
    (sym (key_is c.args.core.now s held c.in-Evict.c c.in-Evict.page c.key.result
    (has_context c.args.core.now (event_line.Evict c.in-Evict.c c.in-Evict.page) c.in-Evict.c c.in-Evict.page (subst (λ (l : Line). AreFor c.args.core.now (l ∷ [])) c.in-Evict.is c.requires) (λ h. h))
    c.key.ensures.program c.key.ensures.page))
    (c.step.ensures.held s held))

pub returns-in-Drop-clause-held : goal.returns-in-Drop-clause-held
returns-in-Drop-clause-held c = λ s held.
    subst (λ (l : Line). Holds c.step-in-Drop.new.self (behind_line s l)) (sym c.in-Drop.is)
    (subst (λ (j : Key). Holds c.step-in-Drop.new.self (step s (event.Drop j)))
    (sym (key_is c.args.core.now s held c.in-Drop.c c.in-Drop.page c.key-in-Drop.result
    (has_context c.args.core.now (event_line.Drop c.in-Drop.c c.in-Drop.page) c.in-Drop.c c.in-Drop.page (subst (λ (l : Line). AreFor c.args.core.now (l ∷ [])) c.in-Drop.is c.requires) (λ h. h))
    c.key-in-Drop.ensures.program c.key-in-Drop.ensures.page))
    (c.step-in-Drop.ensures.held s held))

pub returns-in-Prefetch-clause-held : goal.returns-in-Prefetch-clause-held
returns-in-Prefetch-clause-held c = λ s held.
    subst (λ (l : Line). Holds c.step-in-Prefetch.new.self (behind_line s l)) (sym c.in-Prefetch.is)
    (subst (λ (j : Key). Holds c.step-in-Prefetch.new.self (step s (event.Prefetch j)))
    (sym (key_is c.args.core.now s held c.in-Prefetch.c c.in-Prefetch.page c.key-in-Prefetch.result
    (has_context c.args.core.now (event_line.Prefetch c.in-Prefetch.c c.in-Prefetch.page) c.in-Prefetch.c c.in-Prefetch.page (subst (λ (l : Line). AreFor c.args.core.now (l ∷ [])) c.in-Prefetch.is c.requires) (λ h. h))
    c.key-in-Prefetch.ensures.program c.key-in-Prefetch.ensures.page))
    (c.step-in-Prefetch.ensures.held s held))
