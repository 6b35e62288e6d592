use Rattle.paging.proofs.Limits.{need_within, evict_within, drop_within}
use Rattle.paging.proofs.laws.lists_stay_within.Goals as goal

pub returns : goal.returns
returns c p h = record {
  needed = λ form elsewhere. need_within form elsewhere p h;
  evicted = λ k. evict_within k p.pages h;
  dropped = λ k. drop_within k p.pages h;
}
