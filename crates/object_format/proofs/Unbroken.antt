-- Where no rule is broken, the file can be read.
use Rattle.std.proofs.Common.{◌≡◌, ℕ, ◌+◌, List, length, refl, sym, ap, ◌∙◌, Bool, true, false, not, cond, ◌&&◌, ◌||◌, ◌-◌, take, drop, Option, Some, None}
use Rattle.std.specs.Prelude.{nat_le, nat_eq, codes, bytes_eq, option_map}
use Rattle.std.proofs.lemmas.Bool.{and_parts, leb-true, eqb-true}
use Rattle.std.proofs.lemmas.Slice.Eq.{bytes_eq-Decides}
use Rattle.machine_desc.specs.Numbers.{ones, are_ones}
use Rattle.image_format.specs.Bytes.{needs_two}
use Rattle.image_format.specs.Rules.{first_of, least_failing}
use Rattle.object_format.specs.declared.ObjectFault.{ObjectFault}
use Rattle.object_format.specs.declared.ObjectFault.TheVariants as fault
use Rattle.object_format.specs.Layout as at
use Rattle.object_format.specs.Readable.{IsReadable}
use Rattle.object_format.specs.Bytes.{magic}
use Rattle.object_format.specs.Rules.{has_magic, is_byte_in_range, needless_version, broken_place, is_length_given, description, header, names, blocks, references, labels, broken_field, first_broken}
use Rattle.object_format.proofs.Described.{none_fails, described}
use Rattle.object_format.proofs.HeaderKept.{IsHeaderKept, header_kept}
use Rattle.object_format.proofs.NamesSeen.{long_there}

-- the parts of the rules
pub first_none : (a b : Option ℕ) → first_of a b ≡ None → (a ≡ None) × (b ≡ None)
first_none None b h = (refl, h)
first_none (Some n) b h = absurd (let k : ⊥ = cc in k)

mapped_none : {X : Type 0} (f : ℕ → X) (o : Option ℕ) → option_map f o ≡ None → o ≡ None
mapped_none f None h = refl
mapped_none f (Some n) h = absurd (let k : ⊥ = cc in k)

-- a rule that is kept, and the rules behind it
behind : (b : Bool) (f : ObjectFault) (later : Option ObjectFault) → cond (not b) (Some f) later ≡ None → (b ≡ true) × (later ≡ None)
behind true f later h = (refl, h)
behind false f later h = absurd (let k : ⊥ = cc in k)

-- what the file begins with
magic_there : (bytes : List ℕ) (two : Bool) → at.is_version_two bytes ≡ two → has_magic bytes ≡ true → take 4 bytes ≡ magic two
magic_there bytes true e h = (bytes_eq-Decides (take 4 bytes) (codes "TNKP")).0 e
magic_there bytes false e h =
    (bytes_eq-Decides (take 4 bytes) (codes "TNKO")).0
    (sym (or_none (bytes_eq (take 4 bytes) (codes "TNKO"))) ∙ sym (ap (λ b. bytes_eq (take 4 bytes) (codes "TNKO") || b) e) ∙ h)
  where
    or_none : (b : Bool) → (b || false) ≡ b
    or_none true = refl
    or_none false = refl

-- the version isn't 2 for nothing
needed_there : (two one : Bool) → cond {A = Option ℕ} (two && one) (Some 15) None ≡ None → (two ≡ false → one ≡ true) → not one ≡ two
needed_there true true h all = absurd (let k : ⊥ = cc in k)
needed_there true false h all = refl
needed_there false one h all = ap not (all refl)

-- in version 1 all busy times are 1
ones_in_one : (bytes : List ℕ) → at.is_version_two bytes ≡ false → are_ones (at.busy_times bytes) ≡ true
ones_in_one bytes e = ap (λ b. are_ones (cond b (at.written_busy_times bytes) ones)) e

-- what the rules say together
pub record IsUnbroken (bytes : List ℕ) : Type 0 where
  pub magic : take 4 bytes ≡ magic (at.is_version_two bytes)
  pub needed : needs_two (at.module_in bytes).description ≡ at.is_version_two bytes
  pub readable : IsReadable bytes
  pub header : IsHeaderKept bytes
  pub walked : at.names_length (at.name_count bytes) (drop (at.names_offset bytes) bytes) ≡ at.name_bytes bytes
  pub names : names bytes ≡ None
  pub blocks : blocks bytes ≡ None
  pub references : references bytes ≡ None
  pub labels : labels bytes ≡ None

pub unbroken : (bytes : List ℕ) → first_broken bytes ≡ None → IsUnbroken bytes
unbroken bytes h =
    let fields = option_map (λ n. fault.Field n) (broken_field bytes) in
    let magic = behind (has_magic bytes) fault.Magic (cond (not (is_length_given bytes)) (Some fault.Length) fields) h in
    let long = behind (is_length_given bytes) fault.Length fields magic.1 in
    let none = mapped_none (λ n. fault.Field n) (broken_field bytes) long.1 in
    let d = first_none (description bytes) (first_of (header bytes) (first_of (names bytes) (first_of (blocks bytes) (first_of (references bytes) (labels bytes))))) none in
    let c = first_none (least_failing (is_byte_in_range bytes) (at.numbers_offset bytes - 4)) (needless_version bytes) (mapped_none (λ n. 4 + n) (broken_place bytes) d.0) in
    let e = first_none (header bytes) (first_of (names bytes) (first_of (blocks bytes) (first_of (references bytes) (labels bytes)))) d.1 in
    let k = header_kept bytes e.0 in
    let f = first_none (names bytes) (first_of (blocks bytes) (first_of (references bytes) (labels bytes))) e.1 in
    let g = first_none (blocks bytes) (first_of (references bytes) (labels bytes)) f.1 in
    let i = first_none (references bytes) (labels bytes) g.1 in
    let p = and_parts (nat_le (at.names_offset bytes) (length bytes)) (nat_eq (length bytes) (at.given_length bytes)) long.0 in
    record {
      magic = magic_there bytes (at.is_version_two bytes) refl magic.0;
      needed = needed_there (at.is_version_two bytes) (are_ones (at.busy_times bytes)) c.1 (ones_in_one bytes);
      readable =
          record {
            header = leb-true (at.names_offset bytes) (length bytes) p.0;
            given = eqb-true (length bytes) (at.given_length bytes) p.1;
            names = k.names;
            walked = long_there bytes long.0 k.names_fit;
            description = described bytes (none_fails (is_byte_in_range bytes) (at.numbers_offset bytes - 4) c.0);
          };
      header = k;
      walked = eqb-true (at.names_length (at.name_count bytes) (drop (at.names_offset bytes) bytes)) (at.name_bytes bytes) k.names_fit;
      names = f.0;
      blocks = g.0;
      references = i.0;
      labels = i.1;
    }
