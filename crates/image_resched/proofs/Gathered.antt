-- The words of an image whose pages were written one after another.
use Rattle.std.proofs.Common.{◌≡◌, ℕ, ◌+◌, ◌-◌, ◌*◌, ◌/◌, ◌%◌, ◌<◌, ◌≤◌, List, ◌++◌, length, get_or, take, drop, refl, sym, ap, subst, ◌∙◌, arith, inl, inr}
use Rattle.std.proofs.lemmas.Bool.{cases_lt}
use Rattle.std.proofs.lemmas.List.{get_or-take, get_or-drop, length-take-le, length-drop, length-append}
use Rattle.std.proofs.lemmas.Slice.{between_is, take-put_mid_below, between-put_mid}
use borrow.Rule.Slice.PartMut.{put_mid}
use Rattle.machine_desc.specs.Description.{Description}
use Rattle.image_format.specs.declared.Row.{Row}
use Rattle.image_format.specs.Bytes.{bytes_of}
use Rattle.image_check.specs.Units.{HasUnits}
use Rattle.image_check.proofs.UsedKinds.{row_of}
use Rattle.page_resched.specs.Block as block
use Rattle.image_format.specs.Image.{Image, page_count}
use Rattle.image_check.specs.Accepted.{IsAccepted}
use Rattle.image_check.specs.Blocks.{page_of}
use Rattle.page_resched.specs.Form.{HasPageUnits, IsFormOfPage}
use Rattle.image_resched.specs.Forms.{words_on, AreFormsBelow, AreFormsOfPages}
use Rattle.image_resched.specs.Rescheduled.{IsRescheduled, IsRescheduledFile, with_words}
use Rattle.image_resched.proofs.Rows.{same_lists}
use Rattle.image_resched.proofs.Pages.{pages_make_the_image}

-- what is written on a page leaves the pages before it
page_before : (words page : List ℕ) (n k : ℕ) → k < n → 512 * n ≤ length words → words_on k (put_mid (512 * n) 512 words page) ≡ words_on k words
page_before words page n k less fits =
    let e : 512 * k + 512 - 512 * k ≡ 512 = omega arith in
    let new = put_mid (512 * n) 512 words page in
    ap (λ c. take c (drop (512 * k) new)) (sym e)
    ∙ between_is new (512 * k) (512 * k + 512)
    ∙ ap (drop (512 * k)) (take-put_mid_below (512 * n) 512 words page (512 * k + 512) (omega arith) fits)
    ∙ sym (between_is words (512 * k) (512 * k + 512))
    ∙ ap (λ c. take c (drop (512 * k) words)) e

-- and it is the words of that page
page_there : (words page : List ℕ) (n : ℕ) → 512 * n ≤ length words → length page ≡ 512 → words_on n (put_mid (512 * n) 512 words page) ≡ page
page_there words page n fits whole =
    let e : 512 * n + 512 - 512 * n ≡ 512 = omega arith in
    let new = put_mid (512 * n) 512 words page in
    ap (λ c. take c (drop (512 * n) new)) (sym e)
    ∙ between-put_mid (512 * n) 512 words page (512 * n + 512) fits (whole ∙ sym e)

-- the words are as many as before
length_written : (words page : List ℕ) (n : ℕ) → 512 * n + 512 ≤ length words → length page ≡ 512 →
    length (put_mid (512 * n) 512 words page) ≡ length words
length_written words page n fits whole =
    let front = length-take-le (512 * n) words (omega arith) in
    let left = length-drop (512 * n) words in
    let behind = length-drop 512 (drop (512 * n) words) in
    let inner = length-append page (drop 512 (drop (512 * n) words)) in
    let all = length-append (take (512 * n) words) (page ++ drop 512 (drop (512 * n) words)) in
    omega arith

-- one more page
pub one_more : (image : Image) (g : Description) (words page : List ℕ) (n k : ℕ) → AreFormsBelow n image g words → 512 * n + 512 ≤ length words →
    length page ≡ 512 → IsFormOfPage image.description g (page_of image n) page → k ≡ 512 →
    AreFormsBelow (n + 1) image g (put_mid (512 * n) k words page)
one_more image g words page n k f fits whole form e =
    subst (λ i. AreFormsBelow (n + 1) image g (put_mid (512 * n) i words page)) (sym e) (record {
      as_many = length_written words page n fits whole ∙ f.as_many;
      pages = λ j lt. elim (cases_lt j n) [
        | inl less ↦
            subst (IsFormOfPage image.description g (page_of image j)) (sym (page_before words page n j less (omega arith))) (f.pages j less)
        | inr more ↦
            let same : n ≡ j = omega arith in
            subst (λ i. IsFormOfPage image.description g (page_of image i) (words_on i (put_mid (512 * n) 512 words page))) same
            (subst (IsFormOfPage image.description g (page_of image n)) (sym (page_there words page n (omega arith) whole)) form)
      ];
    })

-- lists of whole pages are equal where their pages are
same_pages : (xs ys : List ℕ) (pages : ℕ) → length ys ≡ 512 * pages → length xs ≡ length ys → ((n : ℕ) → n < pages → words_on n xs ≡ words_on n ys) → xs ≡ ys
same_pages xs ys pages whole long same = same_lists xs ys long (λ a lt.
    let n = a / 512 in
    let back : 512 * n + a % 512 ≡ a = omega arith in
    let at = λ (l : List ℕ). sym (get_or-drop (512 * n) l (a % 512) 0) ∙ sym (get_or-take 512 (drop (512 * n) l) (a % 512) 0 (omega arith)) in
    ap (λ i. get_or xs i 0) (sym back)
    ∙ at xs
    ∙ ap (λ l. get_or l (a % 512) 0) (same n (omega arith))
    ∙ sym (at ys)
    ∙ ap (λ i. get_or ys i 0) back)

-- the image with the forms of its pages is the image in the other generation
pub moved : (image : Image) (g : Description) (words : List ℕ) → IsAccepted image → AreFormsOfPages image g words →
    IsRescheduled image g (with_words image g words)
moved image g words h f =
    record {
      same = λ e. same_image e (same_pages words image.words (page_count image) h.written.limits.words f.as_many (λ n lt. (f.pages n lt).same e));
      other = λ differ. (words, pages_make_the_image image g words h f.as_many (λ n lt. (f.pages n lt).other differ), refl);
    }
  where
    same_image : image.description ≡ g → words ≡ image.words → with_words image g words ≡ image
    same_image e w = ap (λ d. with_words image d words) (sym e) ∙ ap (with_words image image.description) w

-- the generation has the units that the blocks of each page need
pub page_units : (image : Image) (g : Description) → IsAccepted image → HasUnits image g → (n : ℕ) → HasPageUnits g (page_of image n)
page_units image g h units n k lt =
    let r = row_of image h n k lt in
    subst (block.HasUnits g) (sym r.same) (units r.row r.there)

-- an image with those words is the image in the other generation, and is accepted
pub made : (image new : Image) (g : Description) (words : List ℕ) → IsAccepted image → AreFormsOfPages image g words →
    new ≡ with_words image g words → IsRescheduled image g new
made image new g words h f e = subst (IsRescheduled image g) (sym e) (moved image g words h f)

-- the bytes of its file
pub file_of : (image new : Image) (g : Description) (bytes : List ℕ) → IsRescheduled image g new → bytes ≡ bytes_of new → IsRescheduledFile image g bytes
file_of image new g bytes r e = record { new = new; rescheduled = r; written = e }

-- an image is given by its parts
pub same_parts : (image : Image) (d g : Description) (e m : ℕ) (rs : List Row) (is ws : List ℕ) → d ≡ g → e ≡ image.entry → rs ≡ image.rows →
    m ≡ image.memory → is ≡ image.init →
    ◌≡◌ {A = Image} (record { description = d; entry = e; rows = rs; memory = m; init = is; words = ws }) (with_words image g ws)
same_parts image d g e m rs is ws a b c f h = cc
