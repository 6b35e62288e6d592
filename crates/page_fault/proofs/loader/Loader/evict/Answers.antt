use Rattle.std.proofs.Common.{◌≡◌, ap, subst, ◌∙◌}
use Rattle.paging.specs.Pages.{Pages}
use Rattle.paging.proofs.Frames.{evict_keeps}
use Rattle.page_cache.specs.Cache.{KeepFrames, pages_of}
use Rattle.page_fault.specs.Loading.{Loading}
use Rattle.page_fault.proofs.Keeping.{kept_evicted}
use Rattle.page_fault.proofs.loader.Loader.evict.Goals as goal

pub invariant_of-self : goal.invariant_of-self
invariant_of-self c = record {
  units = c.self.invariant.units;
  forms = kept_evicted c.self.inside.programs.items c.self.inside.cache c.evict.new.self c.args.key c.self.invariant.forms c.evict.ensures.pages;
  room = c.self.invariant.room;
}

pub returns-clause-frames : goal.returns-clause-frames
returns-clause-frames c = subst (λ (l : Loading). KeepFrames l.cache.held c.evict.new.self.held) c.self.view_is c.evict.ensures.frames

pub returns-clause-frames_stay : goal.returns-clause-frames_stay
returns-clause-frames_stay c =
    subst (λ (l : Loading). c.evict.new.self.frames ≡ l.cache.frames) c.self.view_is
    (ap (λ (p : Pages). p.frames) c.evict.ensures.pages ∙ evict_keeps c.args.key (pages_of c.self.inside.cache))
