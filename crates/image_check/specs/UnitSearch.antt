-- For contracts within the crate. The search for a unit kind, page by page.
use Rattle.std.specs.Prelude.{ℕ, ◌<◌, length}
use Rattle.operation.specs.declared.UnitKind.{UnitKind}
use Rattle.latency_deps.specs.Page.{Page, block_at}
use Rattle.image_check.specs.Units.{IsUsedIn}

-- an operation of the page's blocks has the unit kind
pub record IsUsedOn (page : Page) (kind : UnitKind) : Type 0 where
  pub block : ℕ
  pub there : block < length page.blocks
  pub used : IsUsedIn (block_at page block).words kind
