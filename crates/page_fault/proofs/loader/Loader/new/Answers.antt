use Rattle.std.proofs.Common.{ap, arith}
use Rattle.page_cache.specs.Cache.{Cache, pages_of}
use Rattle.page_fault.proofs.Needing.{none_kept}
use Rattle.page_fault.proofs.loader.Loader.new.Goals as goal

pub invariant_of-result : goal.invariant_of-result
invariant_of-result c = record {
  units = c.requires.units;
  forms = none_kept c.args.programs.items c.in_ok-cache.cache (ap (λ (l : Cache). (pages_of l).resident) c.in_ok-cache.ensures) (ap (λ (l : Cache). l.saved) c.in_ok-cache.ensures);
  room = let l = c.in_ok-out.ensures.len in let k = c.in_ok-out.out.ok in omega arith;
}
