-- An accepted image has an image in each generation that has its units.
use Rattle.std.proofs.Common.{◌≡◌, ℕ, ◌+◌, ◌-◌, ◌<◌, ◌≤◌, true, false, List, length, get_or, drop, ◌⊎◌, inl, inr, refl, sym, ap, subst, ◌∙◌, arith, map}
use Rattle.std.specs.List.{range_with_len}
use Rattle.std.proofs.lemmas.Bool.{cases_Bool, cases_order, both_ways}
use Rattle.std.proofs.lemmas.List.{length-drop, length-take-le}
use Rattle.std.proofs.lemmas.List.FromFn.{length-map-range_with_len, get_or-map-range_with_len}
use Rattle.machine_desc.specs.Description.{Description}
use Rattle.machine_desc.proofs.Deciding.{cases_description}
use Rattle.block_table.specs.Rows.{Rows, entry_of, count_of}
use Rattle.block_table.specs.Padding.{is_in_block}
use Rattle.image_format.specs.Image.{Image}
use Rattle.image_check.specs.Blocks.{rows_of, block_of}
use Rattle.image_check.proofs.Tables.{Placed, as_many, placed_at, behind}
use Rattle.image_check.proofs.KeptBlocks.{table, good}
use Rattle.page_resched.specs.Form.{AreInForm}
use Rattle.page_resched.specs.Laws as block
use Rattle.page_resched.proofs.Words.{full_count}
use Rattle.page_resched.proofs.One.{one_form}
use Rattle.page_resched.proofs.Written.{each_block_has_a_form}
use Rattle.image_resched.specs.Rescheduled.{AreWordsInForm, IsRescheduled, with_words, words_at}
use Rattle.image_resched.specs.Laws.{IsMovable, EachIsRescheduled, FormsAreThere}
use Rattle.block_table.proofs.Gaps.{in_block}
use Rattle.image_resched.proofs.Deciding.{cases_movable}
use Rattle.image_resched.proofs.Rows.{row_of, in_row, same_lists}

module _ (image : Image) (g : Description) (m : IsMovable image g) where
  abbrev rows : Rows
  rows = rows_of image

  abbrev size : ℕ
  size = length image.words

  move : (k : ℕ) → k < length image.rows → block.IsMovable (block_of image k) g
  move k lt = record { good = good image m.accepted k lt; machine = m.machine; units = m.units k lt }

  form : (k : ℕ) → k < length image.rows → (new : List ℕ) × AreInForm g (block_of image k) new
  form k lt = each_block_has_a_form (block_of image k) g (move k lt)

  in_image : (k : ℕ) → k < length rows → k < length image.rows
  in_image k lt = let n = as_many image in omega arith

  -- the word at an address
  word : (a : ℕ) → (is_in_block rows a ≡ true) ⊎ (is_in_block rows a ≡ false) → ℕ
  word a (inl t) = let r = row_of rows a t in get_or (form r.row (in_image r.row r.there)).0 (a - entry_of rows r.row) 0
  word a (inr t) = 0

  at : ℕ → ℕ
  at a = word a (cases_Bool (is_in_block rows a))

  pub words : List ℕ
  words = map at (range_with_len 0 size)

  length-words : length words ≡ size
  unfolding words
  length-words = length-map-range_with_len at 0 size

  word_at : (a : ℕ) → a < size → get_or words a 0 ≡ at a
  unfolding words
  word_at a lt = get_or-map-range_with_len at 0 size a a 0 lt (omega arith)

  -- blocks stand apart, so that the row of an address is the only one
  same_row : (k j a : ℕ) → k < length rows → j < length rows → entry_of rows k ≤ a → a < entry_of rows k + count_of rows k → entry_of rows j ≤ a → a < entry_of rows j + count_of rows j → k ≡ j
  same_row k j a lt below l h l' h' = elim (cases_order k j) [
    | inl e ↦ e
    | inr (inl less) ↦ absurd (let b = behind image (table image m.accepted) k j less below in omega arith)
    | inr (inr more) ↦ absurd (let b = behind image (table image m.accepted) j k more lt in omega arith)
  ]

  place : (k : ℕ) → k < length image.rows → Placed image k
  place k lt = let n = as_many image in placed_at image m.accepted.written.limits (table image m.accepted) k (omega arith)

  as_long : (k : ℕ) (lt : k < length image.rows) → length (form k lt).0 ≡ count_of rows k
  as_long k lt = full_count (block_of image k) g (form k lt).0 (move k lt) (form k lt).1 ∙ (place k lt).counted

  form_same : (k j i : ℕ) (lt : k < length image.rows) (below : j < length image.rows) → k ≡ j → get_or (form j below).0 (i - entry_of rows j) 0 ≡ get_or (form k lt).0 (i - entry_of rows k) 0
  form_same k j i lt below e =
      subst (λ x. (there : x < length image.rows) → get_or (form x there).0 (i - entry_of rows x) 0 ≡ get_or (form k lt).0 (i - entry_of rows k) 0) e
      (λ there. ap (λ l. get_or l (i - entry_of rows k) 0) (one_form (block_of image k) g (form k there).0 (form k lt).0 (move k lt) (form k there).1 (form k lt).1))
      below

  at_block : (k a : ℕ) (lt : k < length image.rows) → entry_of rows k ≤ a → a < entry_of rows k + count_of rows k → at a ≡ get_or (form k lt).0 (a - entry_of rows k) 0
  unfolding at word
  at_block k a lt low high = go (cases_Bool (is_in_block rows a))
    where
      here : k < length rows
      here = let n = as_many image in omega arith

      go : (c : (is_in_block rows a ≡ true) ⊎ (is_in_block rows a ≡ false)) → word a c ≡ get_or (form k lt).0 (a - entry_of rows k) 0
      go (inl t) = let r = row_of rows a t in form_same k r.row a lt (in_image r.row r.there) (same_row k r.row a here r.there low high r.low r.high)
      go (inr t) = absurd (both_ways (is_in_block rows a) t (in_block rows k a here low high))

  block_is : (k : ℕ) (lt : k < length image.rows) → words_at rows words k ≡ (form k lt).0
  block_is k lt =
      let p = place k lt in
      let w = p.within in
      let n = length-words in
      let long : length (words_at rows words k) ≡ count_of rows k = length-take-le (count_of rows k) (drop (entry_of rows k) words) (let d = length-drop (entry_of rows k) words in omega arith) in
      same_lists (words_at rows words k) (form k lt).0 (long ∙ sym (as_long k lt)) (λ i below.
      let l = as_long k lt in
      let a = entry_of rows k + i in
      let back : a - entry_of rows k ≡ i = omega arith in
      ap (λ x. get_or (words_at rows words k) x 0) (sym back)
      ∙ in_row rows words a k (omega arith) (omega arith)
      ∙ word_at a (omega arith)
      ∙ at_block k a lt (omega arith) (omega arith)
      ∙ ap (λ x. get_or (form k lt).0 x 0) back)

  zero_out : (a : ℕ) → is_in_block rows a ≡ false → at a ≡ 0
  unfolding at word
  zero_out a t = go (cases_Bool (is_in_block rows a))
    where
      go : (c : (is_in_block rows a ≡ true) ⊎ (is_in_block rows a ≡ false)) → word a c ≡ 0
      go (inl u) = absurd (both_ways (is_in_block rows a) t u)
      go (inr u) = refl

  pub in_form : AreWordsInForm image g words
  in_form = record {
    as_many = length-words;
    blocks = λ k lt. subst (AreInForm g (block_of image k)) (sym (block_is k lt)) (form k lt).1;
    padding = λ a lt t. word_at a (let n = length-words in omega arith) ∙ zero_out a t;
  }

pub each_is_rescheduled : EachIsRescheduled
each_is_rescheduled image g m = go (cases_description image.description g)
  where
    go : (image.description ≡ g) ⊎ (image.description ≡ g → ⊥) → (new : Image) × IsRescheduled image g new
    go (inl e) = (image, record { same = λ h. refl; other = λ n. absurd (n e) })
    go (inr e) = (
      with_words image g (words image g m),
      record {
        same = λ h. absurd (e h);
        other = λ n. (words image g m, in_form image g m, refl);
      },
    )

-- an image where there is one, and else the image itself
form_where : (image : Image) (g : Description) → (IsMovable image g) ⊎ (IsMovable image g → ⊥) → (new : Image) × (IsMovable image g → IsRescheduled image g new)
form_where image g (inl m) = let f = each_is_rescheduled image g m in (f.0, λ h. f.1)
form_where image g (inr n) = (image, λ m. absurd (n m))

pub forms_are_there : FormsAreThere
forms_are_there = (
  λ image g. (form_where image g (cases_movable image g)).0,
  λ image g. (form_where image g (cases_movable image g)).1,
)
