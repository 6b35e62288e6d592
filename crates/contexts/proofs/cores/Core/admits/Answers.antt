use Rattle.std.proofs.Common.{◌↔◌, inl, inr, sym, subst}
use Rattle.std.specs.Prelude.{IsTrue}
use Rattle.context_system.specs.declared.Event.{Event}
use Rattle.context_system.specs.System.{Admits as IsAdmitted, IsKeyOf}
use Rattle.contexts.proofs.Paged.{key_in, key_of_core}
use Rattle.contexts.proofs.cores.Core.admits.Goals as goal

pub returns-in-Evict-clause-system : goal.returns-in-Evict-clause-system
returns-in-Evict-clause-system c s held =
    let core = c.args.self.now in
    let k = c.in-Evict.key in
    let here : IsTrue c.has_page.result ↔ IsKeyOf s.contexts k = (λ t. key_in core s k held (c.has_page.ensures.0 t), λ h. c.has_page.ensures.1 (key_of_core core s k held h)) in
    elim c.in-Evict.is [
      | inl e ↦ subst (λ (v : Event). IsTrue c.has_page.result ↔ IsAdmitted s v) (sym e) here
      | inr r ↦ elim r [
        | inl e ↦ subst (λ (v : Event). IsTrue c.has_page.result ↔ IsAdmitted s v) (sym e) here
        | inr e ↦ subst (λ (v : Event). IsTrue c.has_page.result ↔ IsAdmitted s v) (sym e) here
      ]
    ]
