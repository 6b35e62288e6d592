use Rattle.std.proofs.Common.{sym, subst}
use Rattle.context_system.specs.declared.Event.{Event}
use Rattle.context_system.specs.declared.Event.TheVariants.{Evict, Drop, Prefetch}
use Rattle.context_system.specs.System.{step}
use Rattle.contexts.specs.Core.{Contexts, Holds, IsKeyOf, Admits}
use Rattle.contexts.specs.Standing.{contexts_of}
use Rattle.contexts.proofs.Turns.{of_each}
use Rattle.contexts.proofs.Paged.{is_there, evicted, dropped, prefetched}
use Rattle.contexts.proofs.cores.Core.step.Goals as goal

pub invariant_of-self-in-Evict : goal.invariant_of-self-in-Evict
invariant_of-self-in-Evict c =
    (evicted c.self.inside.seats.items c.self.inside.loader c.self.inside.pages c.self.invariant c.in-Evict.key c.evict.new.self
    c.evict.ensures.paging c.evict.ensures.frames_stay c.evict.ensures.programs).core

pub invariant_of-self-in-Drop : goal.invariant_of-self-in-Drop
invariant_of-self-in-Drop c =
    (dropped c.self.inside.seats.items c.self.inside.loader c.self.inside.pages c.self.invariant c.in-Drop.key c.drop_saved.new.self
    c.drop_saved.ensures.paging c.drop_saved.ensures.programs).core

pub bring-requires-clause-there : goal.bring-requires-clause-there
bring-requires-clause-there c =
    is_there (contexts_of c.self.inside.seats.items c.self.inside.loader) c.in-Prefetch.key
    (subst (λ (core : Contexts). IsKeyOf core c.in-Prefetch.key) (sym c.self.view_is) (subst (Admits c.args.self.now) c.in-Prefetch.is c.requires))

pub invariant_of-self-in-Prefetch : goal.invariant_of-self-in-Prefetch
invariant_of-self-in-Prefetch c =
    (prefetched c.self.inside.seats.items c.self.inside.loader c.self.inside.pages c.self.invariant c.in-Prefetch.key c.bring.new.loader
    c.forms_are_of_the_image.ensures c.bring.new.pages
    (subst (λ (core : Contexts). IsKeyOf core c.in-Prefetch.key) (sym c.self.view_is) (subst (Admits c.args.self.now) c.in-Prefetch.is c.requires))
    c.bring.ensures.brought c.bring.ensures.read c.bring.ensures.frames).core

pub returns-in-Evict-clause-held : goal.returns-in-Evict-clause-held
returns-in-Evict-clause-held c s held =
    let new : Contexts = contexts_of c.self.inside.seats.items c.evict.new.self in
    subst (λ (e : Event). Holds new (step s e)) (sym c.in-Evict.is)
    (of_each c.one_rescheduled.ensures c.self.inside.seats.items c.self.inside.loader c.self.inside.pages c.self.invariant new (Evict c.in-Evict.key)
    (evicted c.self.inside.seats.items c.self.inside.loader c.self.inside.pages c.self.invariant c.in-Evict.key c.evict.new.self
    c.evict.ensures.paging c.evict.ensures.frames_stay c.evict.ensures.programs).holds
    s (subst (λ (core : Contexts). Holds core s) (sym c.self.view_is) held))

pub returns-in-Drop-clause-held : goal.returns-in-Drop-clause-held
returns-in-Drop-clause-held c s held =
    let new : Contexts = contexts_of c.self.inside.seats.items c.drop_saved.new.self in
    subst (λ (e : Event). Holds new (step s e)) (sym c.in-Drop.is)
    (of_each c.one_rescheduled.ensures c.self.inside.seats.items c.self.inside.loader c.self.inside.pages c.self.invariant new (Drop c.in-Drop.key)
    (dropped c.self.inside.seats.items c.self.inside.loader c.self.inside.pages c.self.invariant c.in-Drop.key c.drop_saved.new.self
    c.drop_saved.ensures.paging c.drop_saved.ensures.programs).holds
    s (subst (λ (core : Contexts). Holds core s) (sym c.self.view_is) held))

pub returns-in-Prefetch-clause-held : goal.returns-in-Prefetch-clause-held
returns-in-Prefetch-clause-held c s held =
    let new : Contexts = contexts_of c.self.inside.seats.items c.bring.new.loader in
    subst (λ (e : Event). Holds new (step s e)) (sym c.in-Prefetch.is)
    (of_each c.one_rescheduled.ensures c.self.inside.seats.items c.self.inside.loader c.self.inside.pages c.self.invariant new (Prefetch c.in-Prefetch.key)
    (prefetched c.self.inside.seats.items c.self.inside.loader c.self.inside.pages c.self.invariant c.in-Prefetch.key c.bring.new.loader
    c.forms_are_of_the_image.ensures c.bring.new.pages
    (subst (λ (core : Contexts). IsKeyOf core c.in-Prefetch.key) (sym c.self.view_is) (subst (Admits c.args.self.now) c.in-Prefetch.is c.requires))
    c.bring.ensures.brought c.bring.ensures.read c.bring.ensures.frames).holds
    s (subst (λ (core : Contexts). Holds core s) (sym c.self.view_is) held))
