use Rattle.std.proofs.Common.{is_some, sym, ap, ◌∙◌}
use Rattle.page_cache.specs.Cache.{pages_of}
use Rattle.calls.proofs.Cached.{there}
use Rattle.calls.proofs.page_caches.is_resident.Goals as goal

pub words-requires : goal.words-requires
words-requires c =
    ap is_some c.in-Some.ensures.slot ∙ there c.args.key (pages_of c.args.cache.now).resident ∙ sym c.in-Some.ensures.found
