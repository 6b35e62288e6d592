-- A description file as a relation, and as a function.
use Rattle.std.proofs.Common.{◌≡◌, ℕ, Bool, true, false, List, Option, Some, None, Result, Ok, Err, refl, sym, ap, ◌∙◌, inl, inr, ◌⊎◌}
use Rattle.std.proofs.lemmas.Bool.{cases_Bool}
use Rattle.std.proofs.lemmas.Str.{IsUtf8-from_is_utf8, is_utf8-from_IsUtf8}
use Rattle.std.specs.Str.{is_utf8}
use Rattle.toml.specs.Data.{Members}
use Rattle.toml.specs.Parse.{parse_document}
use Rattle.machine_desc.specs.declared.reading.MdesFault.{MdesFault}
use Rattle.machine_desc.specs.declared.reading.MdesFault.TheVariants.{Toml, Missing, Unknown, NotNumber, Range, NoMemory}
use Rattle.machine_desc.specs.Description.{Description}
use Rattle.machine_desc.specs.File.{first_fault, described, read_members, read_document, read_description, IsDocument, HasFault, IsMdesFile, IsMdesFault}

document_read : (bytes : List ℕ) (m : Members) → IsDocument bytes m → read_description bytes ≡ read_members (first_fault m) m
unfolding read_description
document_read bytes m d = rw (is_utf8-from_IsUtf8 bytes d.0) (ap read_document d.1)

pub file_read : (bytes : List ℕ) (g : Description) → IsMdesFile bytes g → read_description bytes ≡ Ok g
file_read bytes g h = document_read bytes h.0 h.1 ∙ ap (λ o. read_members o h.0) h.2 ∙ ap Ok (sym h.3)

fault_found : (bytes : List ℕ) (fault : MdesFault) → HasFault bytes fault → read_description bytes ≡ Err fault
fault_found bytes fault h = document_read bytes h.0 h.1 ∙ ap (λ o. read_members o h.0) h.2

no_document : (bytes : List ℕ) → ((m : Members) → IsDocument bytes m → ⊥) → read_description bytes ≡ Err Toml
unfolding read_description
no_document bytes none = go (cases_Bool (is_utf8 bytes)) (parse_document bytes) refl
  where
    go : (is_utf8 bytes ≡ true) ⊎ (is_utf8 bytes ≡ false) → (o : Option Members) → parse_document bytes ≡ o → read_description bytes ≡ Err Toml
    go (inr f) o e = rw f refl
    go (inl t) None e = rw t (ap read_document e)
    go (inl t) (Some m) e = absurd (none m (IsUtf8-from_is_utf8 bytes t, e))

pub fault_read : (bytes : List ℕ) (fault : MdesFault) → IsMdesFault bytes fault → (fault ≡ NoMemory → ⊥) → read_description bytes ≡ Err fault
fault_read bytes Toml h n = no_document bytes h
fault_read bytes NoMemory h n = absurd (n refl)
fault_read bytes (Missing k) h n = fault_found bytes (Missing k) h
fault_read bytes (Unknown name) h n = fault_found bytes (Unknown name) h
fault_read bytes (NotNumber k) h n = fault_found bytes (NotNumber k) h
fault_read bytes (Range k z) h n = fault_found bytes (Range k z) h
