-- The unit kinds that an image uses, and the first of them that a generation lacks.
use Rattle.std.specs.Prelude.{ℕ, ◌≡◌, ◌<◌, ◌&&◌, nat_eq, Bool, List, [], ◌∷◌, length, find, Option}
use Rattle.std.specs.List.{list_any, range_with_len}
use Rattle.operation.specs.declared.UnitKind.TheVariants as unit
use Rattle.machine_desc.specs.Issue.{same_unit}
use Rattle.operation.specs.declared.UnitKind.{UnitKind}
use Rattle.operation.specs.Places.{unit_kind, unit_number}
use Rattle.machine_desc.specs.Description.{Description, units_of}
use Rattle.latency_deps.specs.Timing.{ops_of}
use Rattle.image_format.specs.Image.{Image}
use Rattle.image_check.specs.Blocks.{words_of}

-- the unit kind of the operation i of a block's words
abbrev pub kind_of : List ℕ → ℕ → UnitKind
kind_of words i = unit_kind (ops_of words i).op

-- an operation of the words has the unit kind
pub record IsUsedIn (words : List ℕ) (kind : UnitKind) : Type 0 where
  pub operation : ℕ
  pub inside : operation < length words
  pub same : kind_of words operation ≡ kind

-- an operation of the image has it
pub record IsUsed (image : Image) (kind : UnitKind) : Type 0 where
  pub row : ℕ
  pub there : row < length image.rows
  pub used : IsUsedIn (words_of image row) kind

-- the image uses the kind, and the generation has no unit of it
pub record IsLacking (image : Image) (g : Description) (kind : UnitKind) : Type 0 where
  pub used : IsUsed image kind
  pub none : units_of g kind ≡ 0

-- the first such kind, by the kinds' numbers
pub record IsFirstLacking (image : Image) (g : Description) (kind : UnitKind) : Type 0 where
  pub lacking : IsLacking image g kind
  pub first : (k : UnitKind) → unit_number k < unit_number kind → IsLacking image g k → ⊥

-- the same as tests
abbrev pub uses : Image → UnitKind → Bool
uses image kind =
    list_any (λ k. list_any (λ i. same_unit (kind_of (words_of image k) i) kind) (range_with_len 0 (length (words_of image k))))
    (range_with_len 0 (length image.rows))

abbrev pub lacks : Image → Description → UnitKind → Bool
lacks image g kind = uses image kind && nat_eq (units_of g kind) 0

abbrev pub first_lacking : Image → Description → Option UnitKind
first_lacking image g = find (lacks image g) (unit.I ∷ (unit.M ∷ (unit.L ∷ (unit.P ∷ (unit.B ∷ [])))))

-- the generation has a unit for each operation of the words
abbrev pub HasUnitsFor : Description → List ℕ → Type 0
HasUnitsFor g words = (i : ℕ) → i < length words → 0 < units_of g (kind_of words i)

-- the generation has the units that the image's operations need
abbrev pub HasUnits : Image → Description → Type 0
HasUnits image g = (k : ℕ) → k < length image.rows → HasUnitsFor g (words_of image k)
