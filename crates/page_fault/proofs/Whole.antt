-- A page in its form has the words that the whole image has there in the generation.
use Rattle.std.proofs.Common.{◌≡◌, ℕ, zero, suc, ◌+◌, ◌*◌, ◌<◌, ◌≤◌, List, length, replicate, refl, sym, ap, subst, ◌∙◌, Some, inl, inr, arith}
use Rattle.std.proofs.lemmas.List.{length-replicate}
use borrow.Rule.Slice.PartMut.{put_mid}
use Rattle.machine_desc.specs.Description.{Description}
use Rattle.machine_desc.specs.Value.{description_of}
use Rattle.machine_desc.proofs.Deciding.{cases_description}
use Rattle.latency_deps.specs.Page.{Page, IsPage}
use Rattle.image_format.specs.Image.{Image, page_count}
use Rattle.image_check.specs.Accepted.{IsAccepted}
use Rattle.image_check.specs.Blocks.{rows_of, page_of}
use Rattle.image_check.specs.Rules.{broken_table, broken_padding, broken_blocks, broken_operation, broken_successor}
use Rattle.image_check.proofs.Firsts.{none_left, none_right}
use Rattle.image_check.proofs.Tables.{as_many}
use Rattle.image_check.proofs.Paging.{rise, next_first}
use Rattle.image_check.proofs.KeptBlocks.{table, unbroken}
use Rattle.image_check.proofs.GoodPages.{page_good}
use Rattle.page_resched.specs.Form.{IsFormOfPage}
use Rattle.page_resched.specs.Laws.{IsMovablePage}
use Rattle.page_resched.proofs.Pages.{one_page_form, each_page_has_a_form}
use Rattle.image_resched.specs.Forms.{words_on, AreFormsBelow}
use Rattle.image_resched.specs.Rescheduled.{IsRescheduled, with_words}
use Rattle.image_resched.specs.Laws.{IsMovable}
use Rattle.image_resched.proofs.Gathered.{one_more, moved, page_units}
use Rattle.image_resched.proofs.One.{one_rescheduled}
use Rattle.page_fault.specs.declared.Loaded.{Loaded}
use Rattle.page_fault.specs.Laws.{FormsAreOfTheImage}

-- the pages of an accepted image are pages of good blocks
good_page : (image : Image) → IsAccepted image → (n : ℕ) → n < page_count image → IsPage (page_of image n)
good_page image h n lt =
    let rows = rows_of image in
    let t = table image h in
    let up = rise rows (λ k there. (t.row k there).behind) in
    let from = next_first rows up n in
    let to = next_first rows up (n + 1) in
    page_good image n from.0 to.0 (record {
      written = h.written;
      table = t;
      padded = none_left (broken_padding image) (broken_blocks image) (none_right (broken_table image) _ h.kept);
      page = lt;
      from = from.1;
      to = to.1;
      kept = λ k low high.
          none_left (broken_operation image k) (broken_successor image k)
          (unbroken image h k (let w = to.1.within in let m = as_many image in omega arith));
    })

whole_form : (p : Page) (own g : Description) (new : List ℕ) → IsPage p → IsFormOfPage own g p new → length new ≡ 512
whole_form p own g new page f = elim (cases_description own g) [
  | inl e ↦ ap length (f.same e) ∙ page.whole
  | inr ne ↦ (f.other ne).whole
]

module _ (image : Image) (g : Description) (m : IsMovable image g) where
  movable_page : (n : ℕ) → n < page_count image → IsMovablePage (page_of image n) g
  movable_page n lt = record { page = good_page image m.accepted n lt; machine = m.machine; units = page_units image g m.accepted m.units n }

  -- the forms of all pages below one, as words of an image
  some_forms : (k : ℕ) → k ≤ page_count image → (new : List ℕ) × AreFormsBelow k image g new
  some_forms zero le = (
    replicate (length image.words) 0,
    record { as_many = length-replicate (length image.words) 0; pages = λ j lt. absurd (let no' : ⊥ = omega arith in no') },
  )
  some_forms (suc k) le =
      let r = some_forms k (omega arith) in
      let f = each_page_has_a_form (page_of image k) image.description g (movable_page k (omega arith)) in
      let out = put_mid (512 * k) 512 r.0 f.0 in
      let long = r.1.as_many in
      let pages = m.accepted.written.limits.words in
      let next : k + 1 ≡ suc k = omega arith in (
        out,
        subst (λ i. AreFormsBelow i image g out) next
            (one_more image g r.0 f.0 k 512 r.1 (omega arith)
            (whole_form (page_of image k) image.description g f.0 (good_page image m.accepted k (omega arith)) f.1) f.1 refl),
      )

  -- so the form of a page is that of the image in the generation
  form_is : (formed : Image) → IsRescheduled image g formed → (n : ℕ) (words : List ℕ) → n < page_count image →
      IsFormOfPage image.description g (page_of image n) words → words ≡ (page_of formed n).words
  form_is formed r n words lt form =
      let all = some_forms (page_count image) (omega arith) in
      let same : formed ≡ with_words image g all.0 =
      one_rescheduled image g formed (with_words image g all.0) m r (moved image g all.0 m.accepted all.1) in
      one_page_form (page_of image n) image.description g words (words_on n all.0) (movable_page n lt) form (all.1.pages n lt)
      ∙ ap (λ (i : Image). words_on n i.words) (sym same)

pub forms_are_of_the_image : FormsAreOfTheImage
forms_are_of_the_image programs page p formed h at lt m r =
    let same : h.program ≡ p = one_program h.program p (sym h.there ∙ at) in
    form_is p.image (description_of p.chosen) m formed r page.key.page page.words lt
    (subst (λ (q : Loaded). IsFormOfPage q.image.description (description_of q.chosen) (page_of q.image page.key.page) page.words) same h.form)
  where
    one_program : (a b : Loaded) → Some a ≡ Some b → a ≡ b
    one_program a b e = cc
