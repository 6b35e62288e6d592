-- The image in another generation is accepted.
use Rattle.std.proofs.Common.{ℕ, List, sym, subst, inl, inr}
use Rattle.machine_desc.specs.Description.{Description}
use Rattle.machine_desc.proofs.Deciding.{cases_description}
use Rattle.image_format.specs.Image.{Image}
use Rattle.image_check.specs.Accepted.{IsAccepted}
use Rattle.image_resched.specs.Rescheduled.{IsRescheduled, AreWordsInForm, with_words}
use Rattle.image_resched.specs.Laws.{RescheduledIsAccepted}
use Rattle.image_resched.proofs.Moved.{accepted}

-- what holds of the image itself and of its words in form holds of the image in another generation
pub by_cases : (P : Image → Type 0) (image : Image) (g : Description) (new : Image) → IsRescheduled image g new → P image →
    ((words : List ℕ) → AreWordsInForm image g words → P (with_words image g words)) → P new
by_cases P image g new r own other = elim (cases_description image.description g) [
  | inl e ↦ subst P (sym (r.same e)) own
  | inr f ↦ (let q = r.other f in subst P (sym q.2) (other q.0 q.1))
]

pub rescheduled_is_accepted : RescheduledIsAccepted
rescheduled_is_accepted image g new m r = by_cases IsAccepted image g new r m.accepted (λ words f. accepted image g words m f)
