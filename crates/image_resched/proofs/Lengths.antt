-- How long the file of a rescheduled image is.
use Rattle.std.proofs.Common.{◌≡◌, ℕ, List, length, inl, inr, ◌⊎◌, ap, ◌∙◌, arith}
use Rattle.machine_desc.specs.Description.{Description}
use Rattle.machine_desc.proofs.Deciding.{cases_description}
use Rattle.image_format.specs.Image.{Image}
use Rattle.image_format.specs.Bytes.{bytes_of, needs_two}
use Rattle.image_format.proofs.NoneBroken.{length_written}
use Rattle.image_resched.specs.Rescheduled.{IsRescheduledFile, with_words}

-- only the description can be longer
pub rescheduled_length : (image : Image) (g : Description) (bytes : List ℕ) → IsRescheduledFile image g bytes → length bytes ≡ length (bytes_of (with_words image g image.words))
rescheduled_length image g bytes f = ap length f.written ∙ go (cases_description image.description g)
  where
    go : (image.description ≡ g) ⊎ (image.description ≡ g → ⊥) → length (bytes_of f.new) ≡ length (bytes_of (with_words image g image.words))
    go (inl e) = ap (λ (i : Image). length (bytes_of i)) (f.rescheduled.same e) ∙ ap (λ (d : Description). length (bytes_of (with_words image d image.words))) e
    go (inr ne) =
        let r = f.rescheduled.other ne in
        let a = ap (λ (i : Image). length (bytes_of i)) r.2 in
        let b = length_written (needs_two g) (with_words image g r.0) in
        let c = length_written (needs_two g) (with_words image g image.words) in
        let same = r.1.as_many in
        a ∙ (omega arith)
