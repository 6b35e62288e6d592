-- What reading a file takes: the crate's own functions cite it.
use Rattle.std.specs.Prelude.{ℕ, ◌+◌, ◌≡◌, ◌≤◌, List, length, drop}
use Rattle.machine_desc.specs.Description.{IsDescription}
use Rattle.object_format.specs.Layout as at

-- the header is there, the length is that which it gives, the names end where it says, and the description is one
pub record IsReadable (bytes : List ℕ) : Type 0 where
  pub header : at.names_offset bytes ≤ length bytes
  pub given : length bytes ≡ at.given_length bytes
  pub names : at.name_count bytes ≤ 262144
  pub walked : at.names_offset bytes + at.names_length (at.name_count bytes) (drop (at.names_offset bytes) bytes) ≤ length bytes
  pub description : IsDescription (at.module_in bytes).description
