-- For contracts within the crate: which objects can be written, and what their files begin with.
use Rattle.std.specs.Prelude.{ℕ, ◌<◌, ◌^◌, ◌++◌, List, length, All}
use Rattle.std.specs.List.{flat_map}
use Rattle.machine_desc.specs.Description.{Description}
use Rattle.image_format.specs.Bytes.{needs_two, description_bytes}
use Rattle.object_format.specs.Module.{Module}
use Rattle.object_format.specs.Bytes.{name_bytes, magic}

-- the counts have 32 bits, and the lengths of the names 8
pub record IsWritable (o : Module) : Type 0 where
  pub names : (length o.names < 2 ^ 32) × All (λ n. length n < 256) o.names
  pub name_bytes : length (flat_map name_bytes o.names) < 2 ^ 32
  pub blocks : length o.blocks < 2 ^ 32
  pub words : length o.words < 2 ^ 32
  pub references : length o.references < 2 ^ 32
  pub labels : length o.labels < 2 ^ 32
  pub initial : length o.initial < 2 ^ 32

-- what the file of an object with this description begins with, up to its numbers
abbrev pub beginning_for : Description → List ℕ
beginning_for g = magic (needs_two g) ++ description_bytes (needs_two g) g
