use Rattle.paging.proofs.Apart.{need_apart, evict_apart, drop_apart}
use Rattle.paging.proofs.laws.keys_stay_apart.Goals as goal

pub returns : goal.returns
returns c p h = record {
  needed = λ form elsewhere. need_apart form elsewhere p h;
  evicted = λ k. evict_apart k p.pages h;
  dropped = λ k. drop_apart k p.pages h;
}
