use Rattle.std.proofs.Common.{◌≡◌, length}
use Rattle.size_invariance.proofs.Walking.{HaveWalked}
use Rattle.size_invariance.proofs.shape.same_page.Given as goal

abbrev pub invariant-loop-row : goal.invariant-loop-row
invariant-loop-row l =
    record {
      walked : HaveWalked l.table l.page l.first l.row l.place l.a l.b;
      left : length l.left ≡ 512;
      right : length l.right ≡ 512;
    }
