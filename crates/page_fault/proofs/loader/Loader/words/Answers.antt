use Rattle.std.proofs.Common.{subst}
use Rattle.std.specs.Prelude.{IfSome}
use Rattle.page_cache.specs.Cache.{page_in}
use Rattle.page_fault.specs.Loading.{Loading, HasForm}
use Rattle.page_fault.proofs.Keeping.{form_in_slot}
use Rattle.page_fault.proofs.loader.Loader.words.Goals as goal

pub returns-clause-form : goal.returns-clause-form
returns-clause-form c =
    subst (λ (l : Loading). IfSome (page_in l.cache c.args.slot) (HasForm l.programs)) c.self.view_is
    (form_in_slot c.self.inside.programs.items c.self.inside.cache c.args.slot c.self.invariant.forms)
