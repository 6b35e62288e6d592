-- What contexts need of the generations as which they run.
use Rattle.std.specs.Prelude.{ℕ, suc, List, [], ◌∷◌, Option, Some, None}
use Rattle.operation.specs.declared.UnitKind.{UnitKind}
use Rattle.machine_desc.specs.Description.{Description}
use Rattle.image_format.specs.Image.{Image}
use Rattle.image_check.specs.Units.{first_lacking}

-- an image, and the generation as which it runs
pub record Run : Type 0 where
  pub image : Image
  pub generation : Description

-- the first of some runs, from the number c on, whose image uses a unit kind that its generation lacks, with the first such kind
abbrev pub first_without : ℕ → List Run → Option (ℕ × UnitKind)
first_without c [] = None
first_without c (r ∷ rs) = elim (first_lacking r.image r.generation) [ Some kind ↦ Some (c, kind) | None ↦ first_without (suc c) rs ]
