-- A block in form has the operations of the block, and each page of the image in another generation has the shape that it had.
use Rattle.std.proofs.Common.{◌≡◌, ℕ, ◌+◌, ◌*◌, ◌/◌, ◌%◌, ◌<◌, false, not, None, List, [], ◌∷◌, ◌↔◌, length, get_or, map, take, drop, refl, sym, ap, subst, ◌∙◌, arith, inl, inr}
use Rattle.std.specs.List.{AllZip, range_with_len}
use Rattle.std.specs.Prelude.{slice_index, nat_eq}
use Rattle.std.proofs.lemmas.Bool.{cases_Bool, eqb-true, and_cases, both_ways, not_from_false, not-false}
use Rattle.std.proofs.lemmas.List.{get_or-take, get_or-drop, length-drop, length-take-le}
use Rattle.machine_desc.specs.Description.{Description}
use Rattle.tnk_base.proofs.Searches.{none_at}
use Rattle.serial_order.specs.Lists.{Among, EachOnce}
use Rattle.serial_order.proofs.Members.{has_among, not_among}
use Rattle.serial_order.specs.Lists.{has}
use Rattle.block_table.specs.Rows.{Rows, entry_of, count_of}
use Rattle.block_table.specs.Padding.{is_in_block, is_unpadded, first_unpadded}
use Rattle.latency_deps.specs.Block.{Block}
use Rattle.latency_deps.proofs.Numbers.{once_range}
use Rattle.list_sched.specs.Schedule.{Schedule}
use Rattle.image_format.specs.Image.{Image, page_count}
use Rattle.image_format.specs.Rules.{first_of}
use Rattle.image_check.specs.Accepted.{IsAccepted}
use Rattle.image_check.specs.Blocks.{rows_of, words_of, block_of, page_of}
use Rattle.image_check.specs.Rules.{refusal, broken_table, broken_padding, broken_blocks}
use Rattle.image_check.specs.declared.rules.Rule.TheVariants as rule
use Rattle.image_check.proofs.Firsts.{none_left, none_right, map_none}
use Rattle.image_check.proofs.Tables.{as_many, placed_at}
use Rattle.image_check.proofs.KeptBlocks.{table}
use Rattle.size_invariance.specs.Shape.{AreAlike, occurrences, IsRearrangement, AreSameShape, block_words}
use Rattle.size_invariance.specs.Laws.{AreReordered}
use Rattle.size_invariance.proofs.Rearranged.{one_there, none_there, occurrences-cons}
use Rattle.size_invariance.proofs.Shapes.{shapes_are_reflexive, reorderings_keep_the_shape}
use Rattle.page_resched.specs.Form.{AreForms, AreInForm}
use Rattle.page_resched.specs.Laws as block
use Rattle.page_resched.proofs.Agreeing.{is_moved}
use Rattle.image_resched.specs.Rescheduled.{AreWordsInForm, with_words, words_at}
use Rattle.image_resched.specs.Laws.{IsMovable, RescheduledKeepsTheShape}
use Rattle.image_resched.proofs.Accepted.{by_cases}
use Rattle.image_resched.proofs.Moved.{movable, in_form}
use Rattle.image_resched.proofs.Pages.{in_page}

-- ---- lists of numbers, each once

absent : (n : ℕ) (xs : List ℕ) → (Among n xs → ⊥) → occurrences n xs ≡ 0
absent n [] out = refl
absent n (x ∷ xs) out =
    let rest = absent n xs (λ a. out (inr a)) in
    let none = none_there n x (λ e. out (inl (sym e))) in
    let c = occurrences-cons n x xs in
    omega arith

present : (n : ℕ) (xs : List ℕ) → EachOnce xs → Among n xs → occurrences n xs ≡ 1
present n [] once a = elim a [ ]
present n (x ∷ xs) once (inl e) =
    let rest = absent n xs (λ a. once.0 (subst (λ k. Among k xs) (sym e) a)) in
    let one = one_there n x (sym e) in
    let c = occurrences-cons n x xs in
    omega arith
present n (x ∷ xs) once (inr a) =
    let rest = present n xs once.1 a in
    let none = none_there n x (λ e. once.0 (subst (λ k. Among k xs) e a)) in
    let c = occurrences-cons n x xs in
    omega arith

-- lists of the same numbers, each once, are rearrangements
rearranged : (xs ys : List ℕ) → EachOnce xs → EachOnce ys → ((n : ℕ) → Among n xs ↔ Among n ys) → IsRearrangement xs ys
rearranged xs ys once once' same n = elim (cases_Bool (has n xs)) [
  | inl h ↦ (let a = has_among n xs h in present n xs once a ∙ sym (present n ys once' ((same n).0 a)))
  | inr h ↦ (let out = not_among n xs h in absent n xs out ∙ sym (absent n ys (λ a. out ((same n).1 a))))
]

-- ---- blocks

all_alike : (old : List ℕ) (s : Schedule) (past ks ws : List ℕ) → AreForms old s past ks ws → AllZip AreAlike (map (slice_index old) ks) ws
all_alike old s past [] [] f = tt
all_alike old s past [] (w ∷ ws) f = elim f [ ]
all_alike old s past (k ∷ ks) [] f = elim f [ ]
all_alike old s past (k ∷ ks) (w ∷ ws) f = (f.0.alike, all_alike old s (k ∷ past) ks ws f.1)

-- the words of a block in form are its words in another order
reordered : (b : Block) (g : Description) (new : List ℕ) → block.IsMovable b g → AreInForm g b new → AreReordered b.words new
reordered b g new m f =
    let n = length b.words in
    let same = (is_moved b g new m f).complete.same in
    record {
      listed = f.listed;
      numbers = rearranged (range_with_len 0 n) f.listed (once_range n) f.listing.complete.each_once (λ k. ((same k).1, (same k).0));
      alike = all_alike b.words f.schedule [] f.listed new f.forms;
    }

-- ---- pages

module _ (image : Image) (h : IsAccepted image) (n : ℕ) (there : n < page_count image) where
  abbrev rows : Rows
  rows = rows_of image

  -- a page's words in any words of the image's length
  whole : (words : List ℕ) → length words ≡ length image.words → length (take 512 (drop (512 * n) words)) ≡ 512
  whole words long =
      let d = length-drop (512 * n) words in
      let w = h.written.limits.words in
      length-take-le 512 (drop (512 * n) words) (omega arith)

  block_is : (words : List ℕ) → length words ≡ length image.words → (k : ℕ) → k < length image.rows → entry_of rows k / 512 ≡ n →
      block_words rows k (take 512 (drop (512 * n) words)) ≡ words_at rows words k
  block_is words long k lt on =
      let m = as_many image in
      let p = placed_at image h.written.limits (table image h) k (omega arith) in
      let w = h.written.limits.words in
      let back : 512 * n + entry_of rows k % 512 ≡ entry_of rows k = omega arith in
      in_page words n (entry_of rows k % 512) (count_of rows k) p.on_page (omega arith)
      ∙ ap (λ x. take (count_of rows k) (drop x words)) back

  at : (words : List ℕ) (i : ℕ) → i < 512 → get_or (take 512 (drop (512 * n) words)) i 0 ≡ get_or words (512 * n + i) 0
  at words i lt = get_or-take 512 (drop (512 * n) words) i 0 lt ∙ get_or-drop (512 * n) words i 0

  -- the words of an accepted image in no block are 0
  zero_out : (a : ℕ) → a < length image.words → is_in_block rows a ≡ false → get_or image.words a 0 ≡ 0
  zero_out a lt out =
      let word = get_or image.words a 0 in
      let padded : broken_padding image ≡ None =
      none_left (broken_padding image) (broken_blocks image)
      (none_right (broken_table image) (first_of (broken_padding image) (broken_blocks image)) h.kept) in
      let none : is_unpadded rows image.words a ≡ false =
      none_at (is_unpadded rows image.words) (length image.words) a
      (map_none (λ x. refusal rule.Padding x 0) (first_unpadded rows image.words) padded) lt in
      elim (and_cases (not (is_in_block rows a)) (not (nat_eq word 0)) none) [
        | inl f ↦ absurd (both_ways (not (is_in_block rows a)) f (not_from_false (is_in_block rows a) out))
        | inr f ↦ eqb-true word 0 (not-false (nat_eq word 0) f)
      ]

  module _ (g : Description) (m : IsMovable image g) (words : List ℕ) (f : AreWordsInForm image g words) where
    pub page_same : AreSameShape rows n (page_of image n).words (page_of (with_words image g words) n).words
    page_same = reorderings_keep_the_shape rows n (page_of image n).words (page_of (with_words image g words) n).words (record {
      first = whole image.words refl;
      second = whole words f.as_many;
      blocks = λ k lt on.
          let count = as_many image in
          let inside : k < length image.rows = omega arith in
          subst (λ old. AreReordered old (block_words rows k (take 512 (drop (512 * n) words)))) (sym (block_is image.words refl k inside on))
          (subst (AreReordered (words_of image k)) (sym (block_is words f.as_many k inside on))
          (reordered (block_of image k) g (words_at rows words k) (movable image g words m f k inside) (in_form image g words m f k inside)));
      old_zero = λ i lt out. at image.words i lt ∙ zero_out (512 * n + i) (let w = h.written.limits.words in omega arith) out;
      new_zero = λ i lt out. at words i lt ∙ f.padding (512 * n + i) (let w = h.written.limits.words in let l = f.as_many in omega arith) out;
    })

pub rescheduled_keeps_the_shape : RescheduledKeepsTheShape
rescheduled_keeps_the_shape image g new m r n there =
    by_cases (λ (i : Image). AreSameShape (rows_of image) n (page_of image n).words (page_of i n).words) image g new r
    (shapes_are_reflexive (rows_of image) n (page_of image n).words (whole image m.accepted n there image.words refl))
    (λ words f. page_same image m.accepted n there g m words f)
