use Rattle.std.specs.Prelude.{refl}
use Rattle.paging.proofs.laws.programs_share_a_frame.Goals as goal

pub returns : goal.returns
returns c = record {
  one_saved = record { loads = refl; forms = refl; restores = refl; evictions = refl };
  two_saved = record { loads = refl; forms = refl; restores = refl; evictions = refl };
  dropped = record { loads = refl; forms = refl; restores = refl; evictions = refl };
}
