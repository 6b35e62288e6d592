-- An image has one image in another generation at most.
use Rattle.std.proofs.Common.{◌≡◌, ℕ, ◌-◌, ◌<◌, true, false, List, length, get_or, ◌⊎◌, inl, inr, sym, ap, ◌∙◌, arith}
use Rattle.std.proofs.lemmas.Bool.{cases_Bool}
use Rattle.machine_desc.specs.Description.{Description}
use Rattle.machine_desc.proofs.Deciding.{cases_description}
use Rattle.block_table.specs.Rows.{Rows, entry_of}
use Rattle.block_table.specs.Padding.{is_in_block}
use Rattle.image_format.specs.Image.{Image}
use Rattle.image_check.specs.Blocks.{rows_of, block_of}
use Rattle.image_check.proofs.Tables.{as_many}
use Rattle.page_resched.proofs.One.{one_form}
use Rattle.image_resched.specs.Rescheduled.{AreWordsInForm, with_words, words_at}
use Rattle.image_resched.specs.Laws.{IsMovable, OneRescheduled}
use Rattle.image_resched.proofs.Rows.{row_of, in_row, same_lists}
use Rattle.image_resched.proofs.Moved.{movable}

module _ (image : Image) (g : Description) (m : IsMovable image g) (words words' : List ℕ) (f : AreWordsInForm image g words) (f' : AreWordsInForm image g words') where
  abbrev rows : Rows
  rows = rows_of image

  block_same : (k : ℕ) → k < length image.rows → words_at rows words k ≡ words_at rows words' k
  block_same k lt = one_form (block_of image k) g (words_at rows words k) (words_at rows words' k) (movable image g words m f k lt) (f.blocks k lt) (f'.blocks k lt)

  word_same : (a : ℕ) → a < length words' → (is_in_block rows a ≡ true) ⊎ (is_in_block rows a ≡ false) → get_or words a 0 ≡ get_or words' a 0
  word_same a lt (inl t) =
      let r = row_of rows a t in
      let n = as_many image in
      let i = r.there in
      sym (in_row rows words a r.row r.low r.high)
      ∙ ap (λ l. get_or l (a - entry_of rows r.row) 0) (block_same r.row (omega arith))
      ∙ in_row rows words' a r.row r.low r.high
  word_same a lt (inr t) =
      let n = f.as_many in
      let n' = f'.as_many in
      f.padding a (omega arith) t ∙ sym (f'.padding a lt t)

  pub words_same : words ≡ words'
  words_same = same_lists words words' (f.as_many ∙ sym f'.as_many) (λ a lt. word_same a lt (cases_Bool (is_in_block rows a)))

pub one_rescheduled : OneRescheduled
one_rescheduled image g new new' m r r' = elim (cases_description image.description g) [
  | inl e ↦ r.same e ∙ sym (r'.same e)
  | inr differ ↦
      (let q = r.other differ in
      let q' = r'.other differ in
      q.2 ∙ ap (with_words image g) (words_same image g m q.0 q'.0 q.1 q'.1) ∙ sym q'.2)
]
